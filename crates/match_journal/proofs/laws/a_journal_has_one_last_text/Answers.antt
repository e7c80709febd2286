use Rattle.match_journal.proofs.LastTexts.{one_last_text}
use Rattle.match_journal.proofs.laws.a_journal_has_one_last_text.Goals as goal

pub returns : goal.returns
returns c = λ head image limit records text opened journal. one_last_text head image limit records text opened journal
