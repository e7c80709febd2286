-- Numbers and words of a text that comes from outside.
use Rattle.std.proofs.Common.{◌≡◌, ℕ, ◌+◌, ◌-◌, ◌*◌, ◌^◌, ◌<◌, ◌≤◌, Bool, true, false, not, ◌&&◌, ◌||◌, nat_le, List, [], ◌∷◌, ◌++◌, length, take, drop, get_or, decimal, bytes_eq, Some, None, refl, sym, ap, ap₂, subst, ◌∙◌, arith, inl, inr, take-append-drop}
use Prim.Native.Nat.{zero, suc}
use Rattle.std.specs.Prelude.{◌==◌, slice_index}
use Rattle.std.specs.Char.{digit_value, is_ascii_digit}
use Rattle.std.specs.Str.Parse.{digits_value, AllDigits}
use Rattle.std.proofs.lemmas.Bool.{and_from, and_parts, cond-true, cond-false, le-leb, leb-true, eq-eqb, eqb-true, or_cases, or_right, or_left, not-true, false_from_ne_true, true≢false}
use Rattle.std.proofs.lemmas.Bool.Decides.{nat_tests}
use Rattle.std.proofs.lemmas.Fmt.{decimal-digits_value, first_decimal, decimal_digit, decimal_nonempty}
use Rattle.std.proofs.lemmas.Int.Digits.{digits_value-lt, digits_value_more}
use Rattle.std.proofs.lemmas.Str.Parse.{numerals_by_value, tells_digits, digits_value-take-le}
use Rattle.std.proofs.lemmas.Slice.Eq.{bytes_eq-Decides}
use Rattle.std.proofs.lemmas.List.{drop_more}
use Rattle.std.proofs.Math.Nat.{pow-le-pow_right}
use Rattle.gx_base.specs.Numbers.{are_digits}
use Rattle.level_feed.specs.Lines.{split_last, number_of, greatest_number}
use Rattle.level_feed.specs.Inner.{split_of, is_plain}
use Rattle.gx_base.proofs.NumberTexts.{Lacks, decimal-digits}
use Rattle.level_feed.proofs.Words.{split-at, split-none, short-decimal}

-- ---- the last space

pub lacks-before : (b : ℕ) (text : List ℕ) (end : ℕ) → 0 < end → end ≤ length text → ((get_or text (end - 1) 0 == b) ≡ false) → Lacks b (drop end text) → Lacks b (drop (end - 1) text)
lacks-before b text end some within h lacks =
    let again : end - 1 + 1 ≡ end = omega arith in
    let here : drop (end - 1) text ≡ get_or text (end - 1) 0 ∷ drop (end - 1 + 1) text = drop_more text (end - 1) 0 (omega arith) in
    subst (Lacks b) (sym (here ∙ ap (λ (k : ℕ). get_or text (end - 1) 0 ∷ drop k text) again)) (h, lacks)

pub space-at : (text : List ℕ) (at : ℕ) → at < length text → get_or text at 0 ≡ 32 → Lacks 32 (drop (at + 1) text) → Some (split_of text at) ≡ split_last text
space-at text at lt is lacks =
    let parts : text ≡ take at text ++ 32 ∷ drop (at + 1) text =
    sym (take-append-drop at text) ∙ ap (λ (q : List ℕ). take at text ++ q) (drop_more text at 0 lt ∙ ap (λ (c : ℕ). c ∷ drop (at + 1) text) is)
    in
    sym (ap split_last parts ∙ split-at (take at text) (drop (at + 1) text) lacks)

pub no-space : (text : List ℕ) → Lacks 32 text → None ≡ split_last text
no-space text lacks = sym (split-none text lacks)

-- ---- numbers

digit-is : (c : ℕ) → is_ascii_digit c ≡ true → (48 ≤ c) × (c ≤ 57) × (digit_value c + 48 ≡ c)
digit-is c d = grind (arith, nat_tests)

all-digits : (ds : List ℕ) → are_digits ds ≡ true → AllDigits 10 ds
all-digits [] h = tt
all-digits (c ∷ cs) h =
    let both = and_parts (is_ascii_digit c) (are_digits cs) h in
    let digit = digit-is c both.0 in
    (omega arith, all-digits cs both.1)

digit-at : (ds : List ℕ) (i : ℕ) → are_digits ds ≡ true → i < length ds → is_ascii_digit (get_or ds i 0) ≡ true
digit-at [] i h lt = absurd (omega arith)
digit-at (c ∷ ds) zero h lt = (and_parts (is_ascii_digit c) (are_digits ds) h).0
digit-at (c ∷ ds) (suc i) h lt = let less : suc i < suc (length ds) = lt in digit-at ds i (and_parts (is_ascii_digit c) (are_digits ds) h).1 (omega arith)

pub record IsPlain (text : List ℕ) : Type 0 where
  pub some : 1 ≤ length text
  pub few : length text ≤ 19
  pub digits : are_digits text ≡ true
  pub first : get_or text 0 0 ≡ 48 → length text ≡ 1

plain-first : (text : List ℕ) → (not (slice_index text 0 == 48) || (length text == 1)) ≡ true → get_or text 0 0 ≡ 48 → length text ≡ 1
plain-first text h e =
    elim (or_cases (not (slice_index text 0 == 48)) (length text == 1) h) [
      | inl n ↦ absurd (true≢false (sym (eq-eqb (slice_index text 0) 48 e) ∙ not-true (slice_index text 0 == 48) n))
      | inr one ↦ eqb-true (length text) 1 one
    ]

pub plain-is : (text : List ℕ) → is_plain text ≡ true → IsPlain text
plain-is text h =
    let p = and_parts (nat_le 1 (length text) && nat_le (length text) 19 && are_digits text) (not (slice_index text 0 == 48) || (length text == 1)) h in
    let q = and_parts (nat_le 1 (length text) && nat_le (length text) 19) (are_digits text) p.0 in
    let r = and_parts (nat_le 1 (length text)) (nat_le (length text) 19) q.0 in
    record { some = leb-true 1 (length text) r.0; few = leb-true (length text) 19 r.1; digits = q.1; first = plain-first text p.1 }

pub value-below : (text : List ℕ) → IsPlain text → digits_value 10 text < 10 ^ 19
value-below text p =
    let few = p.few in
    let low = digits_value-lt 10 text (all-digits text p.digits) in
    let power : 10 ^ length text ≤ 10 ^ 19 = pow-le-pow_right (omega arith) few in
    omega arith

-- one digit more
pub record OneMore (text : List ℕ) (i number : ℕ) : Type 0 where
  pub least : 48 ≤ get_or text i 0
  pub value : number * 10 + (get_or text i 0 - 48) ≡ digits_value 10 (take (i + 1) text)
  pub below : number * 10 + (get_or text i 0 - 48) < 10 ^ 19

pub one-more : (text : List ℕ) (i number : ℕ) → IsPlain text → i < length text → number ≡ digits_value 10 (take i text) → OneMore text i number
one-more text i number p lt is =
    let c = get_or text i 0 in
    let digit = digit-is c (digit-at text i p.digits lt) in
    let least : 48 ≤ c = digit.0 in
    let worth : digit_value c + 48 ≡ c = digit.2 in
    let value : digits_value 10 (take (i + 1) text) ≡ digits_value 10 (take i text) * 10 + digit_value c = digits_value_more 10 text i lt in
    let same : number * 10 + (c - 48) ≡ digits_value 10 (take (i + 1) text) = omega arith in
    let low = value-below text p in
    let part = digits_value-take-le 10 text (i + 1) (omega arith) in
    record { least = least; value = same; below = omega arith }

-- a text that is a number has the form
first-digit : (n : ℕ) → n ≤ greatest_number → get_or (decimal n) 0 0 ≡ 48 → length (decimal n) ≡ 1
first-digit zero h e = ap length (decimal_digit 0 (omega arith))
first-digit (suc n) h e = let first = first_decimal (suc n) (omega arith) (omega arith) in absurd (omega arith)

pub plain-decimal : (n : ℕ) → n ≤ greatest_number → is_plain (decimal n) ≡ true
plain-decimal n h =
    let first : (not (slice_index (decimal n) 0 == 48) || (length (decimal n) == 1)) ≡ true = by (slice_index (decimal n) 0 == 48) refl in
    and_from _ _ (and_from _ _ (and_from _ _ (le-leb 1 (length (decimal n)) (decimal_nonempty n (omega arith))) (le-leb (length (decimal n)) 19 (short-decimal n h))) (decimal-digits n (omega arith))) first
  where
    by : (b : Bool) → (slice_index (decimal n) 0 == 48) ≡ b → (not (slice_index (decimal n) 0 == 48) || (length (decimal n) == 1)) ≡ true
    by true e = or_right (not (slice_index (decimal n) 0 == 48)) (length (decimal n) == 1) (eq-eqb (length (decimal n)) 1 (first-digit n h (eqb-true (slice_index (decimal n) 0) 48 e)))
    by false e = or_left (not (slice_index (decimal n) 0 == 48)) (length (decimal n) == 1) (ap not e)

pub not-plain : (text : List ℕ) → is_plain text ≡ false → None ≡ number_of text
not-plain text h =
    let n = digits_value 10 text in
    let no : (bytes_eq text (decimal n) && nat_le n greatest_number) ≡ false =
    false_from_ne_true (bytes_eq text (decimal n) && nat_le n greatest_number) (λ t.
    let both = and_parts (bytes_eq text (decimal n)) (nat_le n greatest_number) t in
    let same : text ≡ decimal n = (bytes_eq-Decides text (decimal n)).0 both.0 in
    true≢false (sym (ap is_plain same ∙ plain-decimal n (leb-true n greatest_number both.1)) ∙ h))
    in
    sym (cond-false (bytes_eq text (decimal n) && nat_le n greatest_number) (Some n) None no)

pub plain-again : (text : List ℕ) → IsPlain text → bytes_eq text (decimal (digits_value 10 text)) ≡ true
plain-again text p =
    let low = value-below text p in
    let again : decimal (digits_value 10 text) ≡ text = decimal-digits_value (numerals_by_value (AllDigits 10) tells_digits) text (all-digits text p.digits) p.some p.first (omega arith) in
    (bytes_eq-Decides text (decimal (digits_value 10 text))).1 (sym again)

pub plain-number : (text : List ℕ) (n : ℕ) → IsPlain text → n ≡ digits_value 10 text → n ≤ greatest_number → Some n ≡ number_of text
plain-number text n p e low =
    let v = digits_value 10 text in
    ap Some e ∙ sym (cond-true (bytes_eq text (decimal v) && nat_le v greatest_number) (Some v) None (and_from _ _ (plain-again text p) (le-leb v greatest_number (omega arith))))

pub plain-above : (text : List ℕ) (n : ℕ) → IsPlain text → n ≡ digits_value 10 text → greatest_number < n → None ≡ number_of text
plain-above text n p e high =
    let v = digits_value 10 text in
    let no : nat_le v greatest_number ≡ false = grind (arith, nat_tests) in
    sym (cond-false (bytes_eq text (decimal v) && nat_le v greatest_number) (Some v) None (ap₂ (λ (a : Bool) (b : Bool). a && b) (plain-again text p) no))
