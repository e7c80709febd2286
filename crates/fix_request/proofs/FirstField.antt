-- The first field of a body each of whose fields has a tag, and the value that it gives.
use Rattle.std.proofs.Common.{◌≡◌, ℕ, ◌≤◌, Bool, true, false, not, cond, ◌&&◌, ◌==◌, List, ◌∷◌, length, Some, refl, sym, ap, ◌∙◌, arith, map, nat_le, slice_index, leb-true, eqb-true, eq-eqb}
use Rattle.std.specs.Prelude.{IsTrue}
use Rattle.std.specs.List.{before_first, after_first, list_all, list_any}
use Rattle.std.proofs.lemmas.Bool.{and_parts}
use Rattle.gx_base.specs.Numbers.{are_digits}
use Rattle.fix_request.specs.declared.digits.TheConstants.{MOST_TAG_DIGITS}
use Rattle.fix_request.specs.Fields.{is_soh, is_equals_sign, is_tag, has_tag, texts_of, Field, field_of, fields_of, value_of}
use Rattle.fix_request.proofs.Splits.{texts-first}

-- each field has a tag, and so have the first and the others
pub all_parts : (bytes : List ℕ) → 1 ≤ length bytes → IsTrue (list_all has_tag (texts_of bytes)) → IsTrue (has_tag (before_first is_soh bytes)) × IsTrue (list_all has_tag (texts_of (after_first is_soh bytes)))
all_parts bytes some all =
    and_parts (has_tag (before_first is_soh bytes)) (list_all has_tag (texts_of (after_first is_soh bytes))) (ap (list_all has_tag) (sym (texts-first bytes some)) ∙ all)

value_first : (tag : ℕ) (bytes : List ℕ) → 1 ≤ length bytes → value_of tag (fields_of bytes) ≡ value_of tag (field_of (before_first is_soh bytes) ∷ fields_of (after_first is_soh bytes))
value_first tag bytes some = ap (λ (texts : List (List ℕ)). value_of tag (map field_of texts)) (texts-first bytes some)

pub not-eqb : (a b : ℕ) → (a ≡ b → ⊥) → (a == b) ≡ false
not-eqb a b differ = by_test (a == b) refl
  where
    by_test : (t : Bool) → (a == b) ≡ t → t ≡ false
    by_test true is = absurd (differ (eqb-true a b is))
    by_test false is = refl

value_here : (tag : ℕ) (field : Field) (fields : List Field) (b : Bool) → (field.tag == tag) ≡ b → value_of tag (field ∷ fields) ≡ cond b (Some field.value) (value_of tag fields)
value_here tag field fields true is = rw is refl
value_here tag field fields false is = rw is refl

pub value_found : (tag : ℕ) (bytes : List ℕ) → 1 ≤ length bytes → (field_of (before_first is_soh bytes)).tag ≡ tag → value_of tag (fields_of bytes) ≡ Some (field_of (before_first is_soh bytes)).value
value_found tag bytes some is =
    value_first tag bytes some ∙ value_here tag (field_of (before_first is_soh bytes)) (fields_of (after_first is_soh bytes)) true (eq-eqb _ tag is)

pub value_later : (tag : ℕ) (bytes : List ℕ) → 1 ≤ length bytes → ((field_of (before_first is_soh bytes)).tag ≡ tag → ⊥) → value_of tag (fields_of bytes) ≡ value_of tag (fields_of (after_first is_soh bytes))
value_later tag bytes some is =
    value_first tag bytes some ∙ value_here tag (field_of (before_first is_soh bytes)) (fields_of (after_first is_soh bytes)) false (not-eqb _ tag is)

-- a tag is a few digits
pub few_digits : (text : List ℕ) → IsTrue (has_tag text) → IsTrue (are_digits (before_first is_equals_sign text)) × (length (before_first is_equals_sign text) ≤ 9)
few_digits text has =
    let digits = before_first is_equals_sign text in
    let is = (and_parts (list_any is_equals_sign text) (is_tag digits) has).1 in
    let three = and_parts (nat_le 1 (length digits) && nat_le (length digits) MOST_TAG_DIGITS && are_digits digits) (not (slice_index digits 0 == 48)) is in
    let two = and_parts (nat_le 1 (length digits) && nat_le (length digits) MOST_TAG_DIGITS) (are_digits digits) three.0 in
    let one = and_parts (nat_le 1 (length digits)) (nat_le (length digits) MOST_TAG_DIGITS) two.0 in
    let short : length digits ≤ 5 = leb-true (length digits) 5 one.1 in
    (two.1, omega arith)
