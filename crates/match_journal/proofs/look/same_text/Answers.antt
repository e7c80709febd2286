use Rattle.match_journal.proofs.Found.{text_none, text_some}
use Rattle.match_journal.proofs.look.same_text.Goals as goal

pub returns-in-Ok-None-clause-text : goal.returns-in-Ok-None-clause-text
returns-in-Ok-None-clause-text g c = λ image text read is long. text_none text c.args.product.now c.in-Ok-None.field-0 c.in-Ok-None.field-0-is (c.in-Ok-None.ensures.text image text read is long)

pub returns-in-Ok-Some-clause-text : goal.returns-in-Ok-Some-clause-text
returns-in-Ok-Some-clause-text g c = λ image text read is long. text_some text c.args.product.now c.in-Ok-Some.field-0 c.args.place.at c.in-Ok-Some.at c.in-Ok-Some.field-0-is (c.in-Ok-Some.ensures.text image text read is long)
