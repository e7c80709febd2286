use Rattle.match_journal.proofs.Unique.{not_refused}
use Rattle.match_journal.proofs.laws.a_kept_image_is_not_refused.Goals as goal

pub returns : goal.returns
returns c = λ head image text limit records fault few last keeps is told. not_refused head image text limit records fault few last keeps is told
