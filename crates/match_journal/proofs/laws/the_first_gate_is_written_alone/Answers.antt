use Rattle.match_journal.proofs.Unique.{at_once_refuted}
use Rattle.match_journal.proofs.laws.the_first_gate_is_written_alone.Goals as goal

pub returns : goal.returns
returns c = λ head limit n two all. at_once_refuted head limit n two all
