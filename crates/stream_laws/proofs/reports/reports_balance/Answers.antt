use Rattle.engine_laws.proofs.BalancedHistories.{histories-balance}
use Rattle.stream_laws.proofs.Histories.{reports-balance}
use Rattle.stream_laws.proofs.reports.reports_balance.Goals as goal

pub returns : goal.returns
returns c history right are = reports-balance history are (histories-balance history right)
