use Rattle.market_laws.proofs.Lasting.{cancels-succeed}
use Rattle.market_laws.proofs.laws.cancels_are_never_refused.Goals as goal

pub returns : goal.returns
returns c = cancels-succeed
