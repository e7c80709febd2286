use Rattle.std.proofs.Common.{◌≡◌, ℕ, ◌+◌, ◌-◌, ◌/◌, ◌^◌, ◌≤◌, List, length, take, drop, Ok, Err, sym, ap, subst, ◌∙◌, arith, length-drop}
use Rattle.std.specs.List.{position_or_len, before_first, after_first}
use Rattle.std.proofs.lemmas.List.{drop-drop, take_rest}
use Rattle.std.proofs.lemmas.Result.{err_from_is_err_and}
use Rattle.fix_request.specs.Fields.{is_soh}
use Rattle.fix_request.specs.Inner.Noting.{noted, field_noted}
use lib.Count.{count_trailing_zeros}
use Rattle.fix_request.specs.Inner.Slots.{places_view}
use Rattle.fix_request.specs.Inner.Views.{texts_of_places}
use Rattle.fix_request.proofs.Noting.{IsNotedTo, none_read, any_read}
use Rattle.fix_request.proofs.FirstMark.{AreMarks, first_mark}
use Rattle.fix_request.proofs.Passing.{passed, by_length}
use Rattle.fix_request.proofs.values.note_fields.Goals as goal

pub fields-init : goal.fields-init
fields-init c = (omega arith, rw c.requires (none_read c.args.bytes.now))

pub marked-init : goal.marked-init
marked-init c = (omega arith, c.fields.invariant.0, c.fields.invariant.1, (64, omega arith, c.soh_marks-marks.ensures))

pub slice_bounds-text-end : goal.slice_bounds-text-end
slice_bounds-text-end c =
    let rest = drop c.marked.start c.args.bytes.now in
    let first = first_mark c.marked.marks rest c.marked.invariant.3 (omega (arith, c.marked-test.true)) in
    omega (arith, first.place, first.low, length-drop c.marked.start c.args.bytes.now)

pub marked-preserved : goal.marked-preserved
marked-preserved c =
    let bytes = c.args.bytes.now in
    let start = c.marked.start in
    let rest = drop start bytes in
    let m = c.marked.marks in
    let first = first_mark m rest c.marked.invariant.3 (omega (arith, c.marked-test.true)) in
    let k = position_or_len is_soh rest in
    let text = take (start + count_trailing_zeros 64 m - start) rest in
    let is : text ≡ before_first is_soh rest = ap (λ n. take n rest) (omega (arith, first.place)) in
    let before = places_view (texts_of_places c.marked.texts) in
    let after = places_view (texts_of_places c.note_at.new.texts) in
    let on = passed bytes rest before after text c.in-Some.slot (omega (arith, first.low)) is c.in-Some.ensures
    (λ tag e. c.note_at.ensures tag e ∙ ap (λ (v : List ℕ). noted before (record { tag = tag; value = v })) (take_rest text 3)) c.marked.invariant.2 in
    let moved : drop (k + 1) rest ≡ drop (start + (k + 1)) bytes = drop-drop (k + 1) start bytes in
    let same = sym first.place in (
      omega (arith, c.marked.invariant.0),
      omega (arith, first.place, first.low, length-drop start bytes),
      subst (λ n. IsNotedTo bytes (drop (start + (n + 1)) bytes) after) same (subst (λ (xs : List ℕ). IsNotedTo bytes xs after) moved on),
      subst (λ n. AreMarks (m / 2 ^ n / 2) (drop (start + (n + 1)) bytes)) same (subst (λ (xs : List ℕ). AreMarks (m / 2 ^ k / 2) xs) moved first.others),
    )

pub returns-in_err-rest : goal.returns-in_err-rest
returns-in_err-rest c =
    let bytes = c.args.bytes.now in
    let rest = drop c.marked.start bytes in
    let before = places_view (texts_of_places c.marked.texts) in
    let read = c.in_err-rest.ensures.noted ∙ ap (field_noted before) (take_rest bytes c.marked.start) in
    let p = err_from_is_err_and c.from_residual.result c.from_residual.ensures.1 in
    let some : 1 ≤ length rest = omega (arith, c.fields-test.true, c.if-start-first.true, length-drop c.marked.start bytes) in
    rw (p.1, p.2) (any_read bytes rest before (Err c.in_err-rest.field-0.0) some read c.marked.invariant.2)

pub fields-preserved : goal.fields-preserved
fields-preserved c = (c.marked.invariant.1, c.marked.invariant.2)

pub fields-preserved-then-start-first : goal.fields-preserved-then-start-first
fields-preserved-then-start-first c =
    let bytes = c.args.bytes.now in
    let start = c.marked.start in
    let rest = drop start bytes in
    let before = places_view (texts_of_places c.marked.texts) in
    let after = places_view (texts_of_places c.read_other_field.new.texts) in
    let left = c.in_ok-rest.rest.now in
    let read = c.in_ok-rest.ensures.noted ∙ ap (field_noted before) (take_rest bytes start) in
    let some : 1 ≤ length rest = omega (arith, c.fields-test.true, c.if-start-first.true, length-drop start bytes) in
    let on : IsNotedTo bytes left after = any_read bytes rest before (Ok (left, after)) some read c.marked.invariant.2 in
    let k = start + (position_or_len is_soh rest + 1) in
    let there : left ≡ drop k bytes = c.in_ok-rest.ensures.rest ∙ ap (after_first is_soh) (take_rest bytes start) ∙ drop-drop (position_or_len is_soh rest + 1) start bytes in
    let same : drop (length bytes - length left) bytes ≡ left = ap (λ (xs : List ℕ). drop (length bytes - length xs) bytes) there ∙ by_length k bytes ∙ sym there in
    (omega arith, subst (λ (xs : List ℕ). IsNotedTo bytes xs after) (sym same) on)
