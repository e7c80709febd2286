use Rattle.level_sweep.proofs.Showing.{showing-right}
use Rattle.engine_laws.proofs.Lots.{trades-fit}
use Rattle.engine_laws.proofs.matches.shares_fit.Goals as goal

pub returns : goal.returns
returns c step price m right book = trades-fit price m (showing-right m.book book) step right
