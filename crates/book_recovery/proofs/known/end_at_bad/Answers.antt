use Rattle.std.proofs.Common.{◌∙◌, sym}
use Rattle.book_recovery.proofs.known.end_at_bad.Goals as goal

-- it has not grown
pub returns-in-Ok-true-clause-stays : goal.returns-in-Ok-true-clause-stays
returns-in-Ok-true-clause-stays g c = λ image read known. absurd (cc (sym c.in-Ok-true.field-0-test ∙ c.in-Ok-true.ensures.stays image read known))
