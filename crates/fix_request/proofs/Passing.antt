-- One field more, by its place.
use Rattle.std.proofs.Common.{◌≡◌, ℕ, ◌-◌, ◌≤◌, ◌==◌, false, zero, suc, List, [], ◌∷◌, length, drop, Some, None, inl, inr, sym, ap, subst, ◌∙◌, arith, length-drop}
use Rattle.std.specs.Prelude.{if◌then◌else◌}
use Rattle.std.proofs.Math.Seq.{drop-nil}
use Rattle.std.specs.List.{before_first, after_first}
use Rattle.std.proofs.lemmas.Bool.{cond-true, cases_lt}
use Rattle.std.proofs.lemmas.Bool.Decides.{nat_tests}
use Rattle.fix_request.specs.Fields.{is_soh, has_tag, field_of}
use Rattle.fix_request.specs.Inner.Values.{Values}
use Rattle.fix_request.specs.Inner.Noting.{first_of, noted}
use Rattle.fix_request.specs.Inner.Slots.{slot_of, IsPlainAt}
use Rattle.fix_request.proofs.Noting.{IsNotedTo, one_read}

some_left : (text : List ℕ) → 4 ≤ length text → (length (drop 3 text) == 0) ≡ false
some_left text long =
    let n : 1 ≤ length (drop 3 text) = omega (arith, length-drop 3 text) in
    grind (arith, nat_tests)

-- a field that has a place is noted there
pub passed : (bytes rest : List ℕ) (values after : Values) (text : List ℕ) (slot : ℕ) → 1 ≤ length rest → text ≡ before_first is_soh rest → IsPlainAt text (Some slot)
    → ((tag : ℕ) → slot ≡ slot_of tag → after ≡ noted values (record { tag = tag; value = drop 3 text })) → IsNotedTo bytes rest values → IsNotedTo bytes (after_first is_soh rest) after
passed bytes rest values after text slot some is plain noting so_far =
    let field = field_of text in
    let here : (if has_tag text then Some field else None) ≡ Some field = cond-true (has_tag text) (Some field) None plain.2 in
    let read : Some field ≡ first_of rest = sym here ∙ ap (λ (t : List ℕ). if has_tag t then Some (field_of t) else None) is in
    let valued : (length field.value == 0) ≡ false = ap (λ (v : List ℕ). length v == 0) plain.4 ∙ some_left text plain.1 in
    let e : after ≡ noted values field = noting field.tag plain.3 ∙ ap (λ (v : List ℕ). noted values (record { tag = field.tag; value = v })) (sym plain.4) in
    subst (IsNotedTo bytes (after_first is_soh rest)) (sym e) (one_read bytes rest values field some read valued so_far)

all_dropped : (n : ℕ) (xs : List ℕ) → length xs ≤ n → drop n xs ≡ []
all_dropped n [] h = drop-nil n
all_dropped zero (x ∷ xs) h = absurd (omega arith)
all_dropped (suc n) (x ∷ xs) h = all_dropped n xs (omega arith)

-- what is left, by how much it is
pub by_length : (k : ℕ) (bytes : List ℕ) → drop (length bytes - length (drop k bytes)) bytes ≡ drop k bytes
by_length k bytes =
    elim (cases_lt k (length bytes)) [
      | inl below ↦ ap (λ n. drop n bytes) (omega (arith, length-drop k bytes))
      | inr beyond ↦ all_dropped _ bytes (omega (arith, length-drop k bytes)) ∙ sym (all_dropped k bytes (omega arith))
    ]
