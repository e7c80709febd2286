use Rattle.match_journal.proofs.Heads.{one_walk}
use Rattle.match_journal.proofs.laws.a_gate_has_one_answer.Goals as goal

pub returns : goal.returns
returns c = λ image limit gate first second a b told told'. one_walk image limit gate first second a b told told'
