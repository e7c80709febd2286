use Rattle.level_sweep.proofs.Showing.{showing-right}
use Rattle.engine_laws.proofs.Done.{sweep-done}
use Rattle.engine_laws.proofs.matches.sweeps_end.Goals as goal

pub returns : goal.returns
returns c steps limit m right book = sweep-done steps limit right.fifo_last m (showing-right m.book book)
