use Rattle.market_laws.proofs.Lasting.{firm-balances}
use Rattle.market_laws.proofs.laws.firms_balance.Goals as goal

pub returns : goal.returns
returns c = firm-balances
