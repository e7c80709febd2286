use Rattle.std.proofs.Common.{◌≡◌, ℕ, List, length, Option, Some, None, ap, sym, subst, ◌∙◌, arith}
use Rattle.std.specs.Option.{option_or}
use Rattle.gx_base.specs.NameLists.{NameLists}
use Rattle.book_image.specs.Faults.{length_fault, desk_fault, rows_end}
use Rattle.book_image.specs.Inner.Checking.{lasts_fault}
use Rattle.book_image.proofs.CheckFaults.{or-here, second-of, third-of}
use Rattle.book_image.proofs.check.head_fault.Goals as goal

-- what the first of the three answers, by the count of the product's instruments
first-answer : (n count : ℕ) (payload : List ℕ) (found : Option ℕ) → count ≡ n → found ≡ length_fault count payload → length_fault n payload ≡ found
first-answer n count payload found all is = sym (is ∙ ap (λ (k : ℕ). length_fault k payload) all)

pub returns-in-Some-clause-fault : goal.returns-in-Some-clause-fault
returns-in-Some-clause-fault c =
    let ends = first-answer (length c.args.product.now.names.instruments) c.instrument_count.result c.args.payload.now c.length_fault.result (c.instrument_count.ensures.count ∙ ap (λ (n : NameLists). length n.instruments) c.names.ensures) c.length_fault.ensures.fault in
    sym (or-here _ (option_or (desk_fault c.args.payload.now) (option_or (lasts_fault c.args.product.now c.args.payload.now) None)) c.in-Some.at (ends ∙ c.in-Some.is))

pub returns-in-Some-desk_fault-clause-fault : goal.returns-in-Some-desk_fault-clause-fault
returns-in-Some-desk_fault-clause-fault c =
    let ends = first-answer (length c.args.product.now.names.instruments) c.instrument_count.result c.args.payload.now c.length_fault.result (c.instrument_count.ensures.count ∙ ap (λ (n : NameLists). length n.instruments) c.names.ensures) c.length_fault.ensures.fault in
    sym (second-of _ (desk_fault c.args.payload.now) (lasts_fault c.args.product.now c.args.payload.now) c.in-Some-desk_fault.at (ends ∙ c.in_default.is) (sym c.desk_fault.ensures ∙ c.in-Some-desk_fault.is))

pub returns-in-Some-desk_fault-clause-whole : goal.returns-in-Some-desk_fault-clause-whole
returns-in-Some-desk_fault-clause-whole c h = absurd (let f : Some c.in-Some-desk_fault.at ≡ None = h in let g : ⊥ = cc in g)

pub lasts_fault-requires : goal.lasts_fault-requires
lasts_fault-requires c =
    let payload = c.args.payload.now in
    let whole : rows_end (length c.args.product.now.names.instruments) payload ≡ length payload =
    subst (λ (n : ℕ). rows_end n payload ≡ length payload) (c.instrument_count.ensures.count ∙ ap (λ (n : NameLists). length n.instruments) c.names.ensures) (c.length_fault.ensures.whole c.in_default.is) in
    omega (arith, whole)

pub returns-clause-fault : goal.returns-clause-fault
returns-clause-fault c =
    let ends = first-answer (length c.args.product.now.names.instruments) c.instrument_count.result c.args.payload.now c.length_fault.result (c.instrument_count.ensures.count ∙ ap (λ (n : NameLists). length n.instruments) c.names.ensures) c.length_fault.ensures.fault in
    c.lasts_fault.ensures ∙ sym (third-of _ (desk_fault c.args.payload.now) (lasts_fault c.args.product.now c.args.payload.now) (ends ∙ c.in_default.is) (sym c.desk_fault.ensures ∙ c.in_default-desk_fault.is))

pub returns-clause-whole : goal.returns-clause-whole
returns-clause-whole c h =
    let payload = c.args.payload.now in
    subst (λ (n : ℕ). rows_end n payload ≡ length payload) (c.instrument_count.ensures.count ∙ ap (λ (n : NameLists). length n.instruments) c.names.ensures) (c.length_fault.ensures.whole c.in_default.is)
