use Rattle.std.proofs.Common.{◌≡◌, length, Some, None, sym, ◌∙◌}
use Rattle.book_image.specs.Faults.{length_fault, desk_fault}
use Rattle.book_image.specs.Inner.Checking.{lasts_fault, head_fault, rows_fault}
use Rattle.book_image.proofs.CheckFaults.{or-here, or-past, three-then}
use Rattle.book_image.proofs.check.fault_with.Goals as goal

pub returns-in-Some-clause-fault : goal.returns-in-Some-clause-fault
returns-in-Some-clause-fault g c =
    let product = c.args.product.now in
    let part = c.args.part.now in
    let n = length product.names.instruments in
    let rows = rows_fault c.args.trading product part in
    sym (three-then (length_fault n part) (desk_fault part) (lasts_fault product part) rows
    ∙ or-here (head_fault product part) rows c.in-Some.at (sym c.head_fault.ensures.fault ∙ c.in-Some.is))

pub returns-in-Some-clause-whole : goal.returns-in-Some-clause-whole
returns-in-Some-clause-whole g c h = absurd (let f : Some c.in-Some.at ≡ None = h in let k : ⊥ = cc in k)

pub returns-clause-fault : goal.returns-clause-fault
returns-clause-fault g c =
    let product = c.args.product.now in
    let part = c.args.part.now in
    let n = length product.names.instruments in
    let rows = rows_fault c.args.trading product part in
    c.rows_fault.ensures.fault
    ∙ sym (three-then (length_fault n part) (desk_fault part) (lasts_fault product part) rows
    ∙ or-past (head_fault product part) rows (sym c.head_fault.ensures.fault ∙ c.in_default.is))

pub returns-clause-whole : goal.returns-clause-whole
returns-clause-whole g c h = c.head_fault.ensures.whole c.in_default.is
