use Rattle.match_journal.proofs.Unique.{one_answer, one_answer_any}
use Rattle.match_journal.proofs.laws.an_image_has_one_answer.Goals as goal

pub returns-clause-look : goal.returns-clause-look
returns-clause-look c = λ product image limit first second a b told told'. one_answer product limit image first second a b told told'

pub returns-clause-look_any : goal.returns-clause-look_any
returns-clause-look_any c = λ image limit first second a b told told'. one_answer_any limit image first second a b told told'
