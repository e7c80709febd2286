use Rattle.std.proofs.Common.{⊎_elim}
use Rattle.match_journal.proofs.Found.{held_sealed, held_open}
use Rattle.match_journal.proofs.look.hold_text.Goals as goal

pub returns-in-Sealed-clause-text : goal.returns-in-Sealed-clause-text
returns-in-Sealed-clause-text g c = λ image limit read found.
    ⊎_elim
    (λ sealed. held_sealed c.args.product.now limit image c.args.found.now sealed.0 sealed.1 _ sealed.2 found (λ text is long. c.same_text.ensures.text image text read is long))
    (λ opened. held_open c.args.product.now limit image c.args.found.now opened.0 opened.1 _ opened.2 found (λ text is long. c.same_text.ensures.text image text read is long))
    c.in-Sealed.is
