use Rattle.level_sweep.proofs.Showing.{showing-right}
use Rattle.engine_laws.proofs.Done.{fifo-stays, fifo-goes-on}
use Rattle.engine_laws.proofs.matches.fifo_goes_on.Goals as goal

pub returns-clause-done : goal.returns-clause-done
returns-clause-done c = fifo-stays

pub returns-clause-next : goal.returns-clause-next
returns-clause-next c = λ price m book. fifo-goes-on price m (showing-right m.book book)
