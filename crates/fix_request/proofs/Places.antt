-- The table of places, and a text that is noted at its place.
use Rattle.std.proofs.Common.{◌≡◌, ◌≢◌, ℕ, zero, suc, ◌+◌, ◌-◌, ◌*◌, ◌/◌, ◌%◌, ◌<◌, ◌≤◌, Bool, true, false, not, cond, ◌&&◌, ◌==◌, T, eqb, get_or, inl, inr, arith, eq-zero-or-pos, eqb→eq, List, length, refl, sym, ap, ap₂, ◌∙◌}
use Rattle.std.proofs.lemmas.Bool.Decides.{nat_tests}
use Rattle.std.specs.Char.{is_ascii_digit}
use lib.Ieee.Fits.{and_l, and_r}
use Rattle.fix_request.specs.declared.slots.TheConstants.{PLACES, OF_DIGITS}
use Rattle.std.specs.Prelude.{◌∷◌, [], slice_index, slice_set, nat_lt, Option, Some, None}
use Rattle.std.specs.Option.{option_or}
use Rattle.std.specs.List.{position_or_len}
use Rattle.std.proofs.lemmas.Bool.{cond-true, cond-false}
use Rattle.std.proofs.lemmas.List.{get_or-set_same, get_or-set_other}
use Rattle.std.proofs.lemmas.List.Sums.{passes_at_first}
use Rattle.fix_request.specs.Fields.{Field}
use Rattle.fix_request.specs.Inner.Views.{if_not_empty, values_view}
use Rattle.fix_request.specs.declared.values.Values.{Values as ValueSlices}
use Rattle.fix_request.specs.Inner.Noting.{noted, noted_value}
use Rattle.fix_request.specs.Inner.Slots.{named_tags, slot_of, slot_of_digits, text_at, noted_at, places_view, IsPlainAt}
use Rattle.std.specs.Borrow.{Bor}
use Rattle.fix_request.specs.Inner.Views.{texts_of_places}
use Rattle.fix_request.proofs.TwoDigits.{plain_there}
use Rattle.fix_request.proofs.Noting.{by_tag}

-- ---- the table

abbrev pub entry : ℕ → ℕ → ℕ
entry first second = get_or (get_or OF_DIGITS first []) second 0

-- each entry is the place of its tag
abbrev are_entries : ℕ → Bool
are_entries zero = true
are_entries (suc tag) = eqb (entry (tag / 10) (tag % 10)) (slot_of tag) && are_entries tag

below : (n tag : ℕ) → T (are_entries n) → tag < n → entry (tag / 10) (tag % 10) ≡ slot_of tag
below zero tag t h = absurd (omega arith)
below (suc n) tag t h =
    elim (eq-zero-or-pos (n - tag)) [
      | inl z ↦ let e : tag ≡ n = omega arith in rw e (eqb→eq _ _ (and_l _ (are_entries n) t))
      | inr g ↦ below n tag (and_r _ (are_entries n) t) (omega arith)
    ]

entry_below : (tag : ℕ) → tag < 100 → entry (tag / 10) (tag % 10) ≡ slot_of tag
unfolding slot_of
entry_below tag h = below 100 tag tt h

-- the entry of two digits is the place of the tag that they write
entry_at : (first second : ℕ) → 49 ≤ first → first ≤ 57 → 48 ≤ second → second ≤ 57 → entry (first - 48) (second - 48) ≡ slot_of (first * 10 + second - 528)
entry_at first second a b c d =
    let tag = first * 10 + second - 528 in
    let row : first - 48 ≡ tag / 10 = omega arith in
    let column : second - 48 ≡ tag % 10 = omega arith in
    ap₂ entry row column ∙ entry_below tag (omega arith)

-- ---- the places

low_by : (b : Bool) (index : ℕ) → nat_lt index (length named_tags) ≡ b → cond b (index + 1) 0 < PLACES
low_by true index is = grind (arith, nat_tests)
low_by false index is = omega arith

pub low_place : (tag : ℕ) → slot_of tag < PLACES
unfolding slot_of
low_place tag = let index = position_or_len (λ named. named == tag) named_tags in low_by (nat_lt index (length named_tags)) index refl

index_by : (b : Bool) (index : ℕ) → nat_lt index (length named_tags) ≡ b → 1 ≤ cond b (index + 1) 0 → (index < length named_tags) × (cond b (index + 1) 0 - 1 ≡ index)
index_by true index is some = (grind (arith, nat_tests), omega arith)
index_by false index is some = absurd (omega arith)

-- ---- a text with such a tag

abbrev pub are_digits : ℕ → ℕ → Bool
are_digits first second = is_ascii_digit first && not (first == 48) && is_ascii_digit second

digit_bytes : (first second : ℕ) → are_digits first second ≡ true → (49 ≤ first) × (first ≤ 57) × (48 ≤ second) × (second ≤ 57)
digit_bytes first second h = (grind (arith, nat_tests), grind (arith, nat_tests), grind (arith, nat_tests), grind (arith, nat_tests))

pub digits_placed : (first second row column slot : ℕ) → are_digits first second ≡ true → row ≡ first → column ≡ second → slot ≡ entry (row - 48) (column - 48) → Some slot ≡ slot_of_digits first second
digits_placed first second row column slot are at_row at_column is =
    let w = digit_bytes first second are in
    ap Some (is ∙ ap₂ (λ a b. entry (a - 48) (b - 48)) at_row at_column ∙ entry_at first second w.0 w.1 w.2 w.3) ∙ sym (cond-true (are_digits first second) (Some (slot_of (first * 10 + second - 528))) None are)

plain_by : (a b c : ℕ) (rest : List ℕ) (given : Option ℕ) (is : Bool) → are_digits a b ≡ is → 1 ≤ length rest → c ≡ 61 → given ≡ cond is (Some (slot_of (a * 10 + b - 528))) None → IsPlainAt (a ∷ b ∷ c ∷ rest) given
plain_by a b c rest given true is long third e =
    let w = digit_bytes a b is in
    let there = plain_there a b c rest (w.0, w.1) (w.2, w.3) third in
    rw e (low_place _, omega arith, there.0, ap (λ (f : Field). slot_of f.tag) (sym there.1), ap (λ (f : Field). f.value) there.1)
plain_by a b c rest given false is long third e = rw e tt

pub plain_at : (text : List ℕ) (given : Option ℕ) → 4 ≤ length text → slice_index text 2 ≡ 61 → given ≡ slot_of_digits (slice_index text 0) (slice_index text 1) → IsPlainAt text given
plain_at [] given long third e = absurd (omega arith)
plain_at (a ∷ []) given long third e = absurd (omega arith)
plain_at (a ∷ b ∷ []) given long third e = absurd (omega arith)
plain_at (a ∷ b ∷ c ∷ rest) given long third e = plain_by a b c rest given (are_digits a b) refl (omega arith) third e

-- ---- a text that is noted at its place

is_same : (a b : ℕ) → (a == b) ≡ true → a ≡ b
is_same a b e = grind (arith, nat_tests)

here : (tag : ℕ) → 1 ≤ slot_of tag → get_or named_tags (slot_of tag - 1) 0 ≡ tag
unfolding slot_of
here tag known =
    let index = position_or_len (λ named. named == tag) named_tags in
    let at = index_by (nat_lt index (length named_tags)) index refl known in
    let p : (get_or named_tags index 0 == tag) ≡ true = passes_at_first (λ named. named == tag) named_tags 0 at.0 in
    ap (λ n. get_or named_tags n 0) at.1 ∙ is_same _ _ p

apart : (tag named : ℕ) → 1 ≤ slot_of named → (tag == named) ≡ false → slot_of named ≢ slot_of tag
apart tag named known other same =
    let other_here : get_or named_tags (slot_of tag - 1) 0 ≡ tag = here tag (omega arith) in
    let e : tag ≡ named = sym other_here ∙ ap (λ n. get_or named_tags (n - 1) 0) (sym same) ∙ here named known in
    let no : (tag == named) ≡ true = grind (arith, nat_tests) in
    cc

some_text : (text : List ℕ) → 1 ≤ length text → if_not_empty text ≡ Some text
some_text text some = cond-false (length text == 0) None (Some text) (grind (arith, nat_tests))

-- by whether it is the value's tag, and whether a text is there
noted_by : (texts : List (List ℕ)) (tag named : ℕ) (value : List ℕ) (is empty : Bool) → (tag == named) ≡ is → (length (get_or texts (slot_of tag) []) == 0) ≡ empty → 1 ≤ slot_of named → length texts ≡ PLACES → 1 ≤ length value
    → text_at (cond empty (slice_set texts (slot_of tag) value) texts) named ≡ cond is (option_or (text_at texts named) (Some value)) (text_at texts named)
noted_by texts tag named value true true is e known long some =
    let same : tag ≡ named = is_same tag named is in
    let slots = ap slot_of same in
    let none : if_not_empty (get_or texts (slot_of named) []) ≡ None = cond-true _ None _ (ap (λ n. length (get_or texts n []) == 0) (sym slots) ∙ e) in
    ap (λ n. if_not_empty (get_or (slice_set texts n value) (slot_of named) [])) slots
    ∙ ap if_not_empty (get_or-set_same texts (slot_of named) value [] (omega (arith, low_place named)))
    ∙ some_text value some
    ∙ sym (ap (λ o. option_or o (Some value)) none)
noted_by texts tag named value true false is e known long some =
    let same : tag ≡ named = is_same tag named is in
    let there : text_at texts named ≡ Some (get_or texts (slot_of named) []) = cond-false _ None _ (ap (λ n. length (get_or texts n []) == 0) (sym (ap slot_of same)) ∙ e) in
    there ∙ sym (ap (λ o. option_or o (Some value)) there)
noted_by texts tag named value false true is e known long some =
    ap if_not_empty (get_or-set_other texts (slot_of tag) (slot_of named) value [] (apart tag named known is))
noted_by texts tag named value false false is e known long some = refl

same_named : (f g : ℕ → Option (List ℕ)) → ((named : ℕ) → 1 ≤ slot_of named → f named ≡ g named) → by_tag f ≡ by_tag g
unfolding slot_of
same_named f g same = λ i. record {
  type = same 35 (omega arith) i;
  sender = same 49 (omega arith) i;
  target = same 56 (omega arith) i;
  sequence = same 34 (omega arith) i;
  time = same 52 (omega arith) i;
  id = same 11 (omega arith) i;
  old = same 41 (omega arith) i;
  symbol = same 55 (omega arith) i;
  description = same 107 (omega arith) i;
  side = same 54 (omega arith) i;
  quantity = same 38 (omega arith) i;
  kind = same 40 (omega arith) i;
  price = same 44 (omega arith) i;
  trigger = same 99 (omega arith) i;
  life = same 59 (omega arith) i;
  min = same 110 (omega arith) i;
  show = same 210 (omega arith) i;
  status = same 340 (omega arith) i;
}

pub noting : (texts : List (List ℕ)) (tag : ℕ) (value : List ℕ) → length texts ≡ PLACES → 1 ≤ length value → places_view (noted_at (slot_of tag) value texts) ≡ noted (places_view texts) (record { tag = tag; value = value })
unfolding places_view noted
noting texts tag value long some =
    same_named (text_at (noted_at (slot_of tag) value texts)) (λ named. noted_value named (text_at texts named) (record { tag = tag; value = value }))
    (λ named known. noted_by texts tag named value (tag == named) (length (get_or texts (slot_of tag) []) == 0) refl refl known long some)

-- ---- the values that the texts are

-- no text
abbrev nothing : Bor (List ℕ)
nothing = record { ref_ptr = (0, 0); now = [] }

pub at_place : (places : List (Bor (List ℕ))) (i : ℕ) → get_or (texts_of_places places) i [] ≡ (get_or places i nothing).now
at_place [] i = refl
at_place (p ∷ places) zero = refl
at_place (p ∷ places) (suc i) = at_place places i

pub as_values : (v : ValueSlices) → values_view v ≡ places_view (texts_of_places v.texts)
unfolding places_view slot_of
as_values v = refl
