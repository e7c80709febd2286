use Rattle.level_sweep.proofs.Showing.{showing-right}
use Rattle.engine_laws.proofs.Done.{sweep-stays, sweep-goes-on}
use Rattle.engine_laws.proofs.matches.sweeps_go_on.Goals as goal

pub returns-clause-none : goal.returns-clause-none
returns-clause-none c = sweep-stays

pub returns-clause-next : goal.returns-clause-next
returns-clause-next c = λ steps limit m price right book next. sweep-goes-on steps limit right.fifo_last price m (showing-right m.book book) next
