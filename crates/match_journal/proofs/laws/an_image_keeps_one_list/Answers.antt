use Rattle.match_journal.proofs.Unique.{one_keeping, one_head}
use Rattle.match_journal.proofs.laws.an_image_keeps_one_list.Goals as goal

pub returns-clause-list : goal.returns-clause-list
returns-clause-list c = λ a b image limit first second most x y. one_keeping a b limit image first second most x y

pub returns-clause-header : goal.returns-clause-header
returns-clause-header c = λ a b image text limit first second most last last' x y. one_head a b limit image text first second most last last' x y
