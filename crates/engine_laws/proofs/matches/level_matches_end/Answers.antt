use Rattle.level_sweep.proofs.Showing.{showing-right}
use Rattle.engine_laws.proofs.Done.{match-done}
use Rattle.engine_laws.proofs.matches.level_matches_end.Goals as goal

pub returns : goal.returns
returns c steps price m right book = match-done steps price m right.fifo_last (showing-right m.book book)
