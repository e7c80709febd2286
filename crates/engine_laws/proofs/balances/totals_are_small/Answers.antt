use Rattle.engine_laws.proofs.Bounds.{histories-stay-within}
use Rattle.engine_laws.proofs.balances.totals_are_small.Goals as goal

pub returns : goal.returns
returns c history right = histories-stay-within history right
