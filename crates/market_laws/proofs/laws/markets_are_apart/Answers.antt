use Rattle.market_laws.proofs.Lasting.{markets-apart, amended-market}
use Rattle.market_laws.proofs.laws.markets_are_apart.Goals as goal

pub returns-clause-messages : goal.returns-clause-messages
returns-clause-messages c = markets-apart

pub returns-clause-amendments : goal.returns-clause-amendments
returns-clause-amendments c = amended-market
