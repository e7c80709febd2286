-- Numbers that are read from digits, up to a ceiling.
use Rattle.std.proofs.Common.{◌≡◌, ℕ, ◌+◌, ◌-◌, ◌*◌, ◌^◌, ◌<◌, ◌≤◌, min, true, List, [], ◌∷◌, ◌&&◌, ◌++◌, zero, suc, replicate, length, take, get_or, mul_assoc, mul_comm, pow-suc, fold, arith, refl, sym, ap, ◌∙◌, ⊎_elim}
use Rattle.std.proofs.lemmas.Bool.{and_parts, cases_lt, true_from_ne_false, true≢false}
use Rattle.std.proofs.lemmas.Bool.Decides.{nat_tests}
use Rattle.std.proofs.lemmas.Int.Digits.{digits_value-lt}
use Rattle.std.proofs.lemmas.List.Folds.{list_all_at, list_all_more}
use Rattle.std.proofs.lemmas.List.Sums.{fold_more}
use Rattle.std.proofs.lemmas.Nat.{pow-add}
use Rattle.std.proofs.Math.Nat.{pow-le-pow_right}
use Rattle.std.specs.Char.{digit_value, is_ascii_digit}
use Rattle.std.specs.Str.Parse.{digits_value, digits_value_after, AllDigits}
use Rattle.gx_base.specs.Numbers.{are_digits}
use Rattle.gx_base.specs.declared.digits.TheConstants.{CEILING, MOST_DIGITS}

-- a digit, and what it is worth
pub digit_is : (c : ℕ) → is_ascii_digit c ≡ true → (48 ≤ c) × (c ≤ 57) × (digit_value c + 48 ≡ c)
digit_is c d = grind (arith, nat_tests)

pub digit_at : (ds : List ℕ) (i : ℕ) → are_digits ds ≡ true → i < length ds → is_ascii_digit (get_or ds i 0) ≡ true
digit_at ds i h low = true_from_ne_false _ (λ f. true≢false (sym h ∙ list_all_at is_ascii_digit ds i 0 low f))

-- digits in the words of `parse`
pub AllDigits-from_are_digits : (ds : List ℕ) → are_digits ds ≡ true → AllDigits 10 ds
AllDigits-from_are_digits [] h = tt
AllDigits-from_are_digits (c ∷ cs) h =
    let both = and_parts (is_ascii_digit c) (are_digits cs) h in
    let digit = digit_is c both.0 in
    (omega arith, AllDigits-from_are_digits cs both.1)

-- at most `MOST_DIGITS` digits are below 10 ^ MOST_DIGITS
pub short_below : (ds : List ℕ) → are_digits ds ≡ true → length ds ≤ MOST_DIGITS → digits_value 10 ds < 10 ^ MOST_DIGITS
short_below ds h short =
    let below = digits_value-lt 10 ds (AllDigits-from_are_digits ds h) in
    let power : 10 ^ length ds ≤ 10 ^ MOST_DIGITS = pow-le-pow_right (omega arith) short in
    omega arith

-- a number grows with the digits after it
pub grows : (n : ℕ) (ds : List ℕ) → n ≤ digits_value_after 10 n ds
grows n [] = omega arith
grows n (c ∷ cs) = omega (arith, grows (n * 10 + digit_value c) cs)

value_is_fold : (n : ℕ) (ds : List ℕ) → digits_value_after 10 n ds ≡ fold (λ a c. a * 10 + digit_value c) n ds
value_is_fold n [] = refl
value_is_fold n (c ∷ cs) = value_is_fold (n * 10 + digit_value c) cs

-- one digit more
pub value_more : (n : ℕ) (ds : List ℕ) (i : ℕ) → i < length ds → digits_value_after 10 n (take (i + 1) ds) ≡ digits_value_after 10 n (take i ds) * 10 + digit_value (get_or ds i 0)
value_more n ds i low =
    rw (value_is_fold n (take (i + 1) ds), value_is_fold n (take i ds)) (fold_more (λ a c. a * 10 + digit_value c) n ds i 0 low)

-- one digit more, up to a ceiling
pub capped_more : (top n : ℕ) (ds : List ℕ) (i k : ℕ) → is_ascii_digit (get_or ds i 0) ≡ true → i < length ds → k ≡ min top (digits_value_after 10 n (take i ds)) → min top (k * 10 + (get_or ds i 0 - 48)) ≡ min top (digits_value_after 10 n (take (i + 1) ds))
capped_more top n ds i k h low e =
    let more : digits_value_after 10 n (take (i + 1) ds) ≡ digits_value_after 10 n (take i ds) * 10 + digit_value (get_or ds i 0) = value_more n ds i low in
    let digit : (48 ≤ get_or ds i 0) × (get_or ds i 0 ≤ 57) × (digit_value (get_or ds i 0) + 48 ≡ get_or ds i 0) = digit_is _ h in
    omega arith

-- digits that are tried and read so far
pub record IsReadTo (front : ℕ) (text : List ℕ) (i number : ℕ) : Type 0 where
  pub is : number ≡ min CEILING (digits_value_after 10 front (take i text))
  pub digits : are_digits (take i text) ≡ true

pub one_more : (front : ℕ) (text : List ℕ) (i number : ℕ) → i < length text → is_ascii_digit (get_or text i 0) ≡ true → IsReadTo front text i number → IsReadTo front text (i + 1) (min CEILING (number * 10 + (get_or text i 0 - 48)))
one_more front text i number low digit so_far = record {
  is = capped_more CEILING front text i number digit low so_far.is;
  digits = list_all_more is_ascii_digit text i 0 low ∙ ap (λ b. b && is_ascii_digit (get_or text i 0)) so_far.digits ∙ digit;
}

-- zeros after a number
pub value_zeros : (n k : ℕ) → digits_value_after 10 n (replicate k 48) ≡ n * 10 ^ k
value_zeros n zero = omega arith
value_zeros n (suc k) =
    let same : n * 10 + digit_value 48 ≡ n * 10 = omega arith in
    value_zeros (n * 10 + digit_value 48) k ∙ ap (λ m. m * 10 ^ k) same ∙ mul_assoc n 10 (10 ^ k) ∙ ap (λ p. n * p) (mul_comm 10 (10 ^ k) ∙ sym (pow-suc 10 k))

pub one_zero_more : (top n i k : ℕ) → k ≡ min top (n * 10 ^ i) → min top (k * 10) ≡ min top (n * 10 ^ (i + 1))
one_zero_more top n i k e =
    let power : n * 10 ^ (i + 1) ≡ n * 10 ^ i * 10 = ap (λ p. n * p) (pow-add 10 i 1) ∙ sym (mul_assoc n (10 ^ i) 10) in
    let m : ℕ = n * 10 ^ i in
    omega arith

pub capped_zeros : (top n k m : ℕ) → m ≡ min top (n * 10 ^ k) → m ≡ min top (digits_value_after 10 n (replicate k 48))
capped_zeros top n k m e = e ∙ ap (min top) (sym (value_zeros n k))

pub value_append : (n : ℕ) (ds es : List ℕ) → digits_value_after 10 n (ds ++ es) ≡ digits_value_after 10 (digits_value_after 10 n ds) es
value_append n [] es = refl
value_append n (d ∷ ds) es = value_append (n * 10 + digit_value d) ds es

-- digits after a number that is capped already
capped_again : (top n : ℕ) (ds : List ℕ) → min top (digits_value_after 10 (min top n) ds) ≡ min top (digits_value_after 10 n ds)
capped_again top n ds =
    ⊎_elim
    (λ (above : top < n).
    let one : min top n ≡ top = omega arith in
    let far : n ≤ digits_value_after 10 n ds = grows n ds in
    let near : top ≤ digits_value_after 10 top ds = grows top ds in
    rw one (omega arith))
    (λ (within : n ≤ top). let one : min top n ≡ n = omega arith in rw one)
    (cases_lt top n)

-- a number that is read in two parts
pub capped_append : (top n k m : ℕ) (ds es : List ℕ) → k ≡ min top (digits_value_after 10 n ds) → m ≡ min top (digits_value_after 10 k es) → m ≡ min top (digits_value_after 10 n (ds ++ es))
capped_append top n k m ds es e f =
    f ∙ ap (λ j. min top (digits_value_after 10 j es)) e ∙ capped_again top (digits_value_after 10 n ds) es ∙ ap (min top) (sym (value_append n ds es))
