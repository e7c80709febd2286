use Rattle.engine_laws.proofs.BalancedHistories.{histories-balance}
use Rattle.engine_laws.proofs.balances.histories_balance.Goals as goal

pub returns : goal.returns
returns c history right = histories-balance history right
