-- Prices that are read.
use Rattle.std.proofs.Common.{◌≡◌, ℕ, ◌+◌, ◌-◌, ◌*◌, ◌^◌, ◌≤◌, ◌&&◌, Bool, true, false, cond, min, nat_le, List, ◌++◌, length, take, drop, take-append-drop, replicate, Option, Some, None, arith, rules, refl, sym, ap, ◌∙◌}
use Rattle.std.proofs.lemmas.Bool.{and_from, cond-true, cond-false, le-leb}
use Rattle.std.proofs.lemmas.List.{append_assoc, length-drop, take_all, places, same_lists}
use Rattle.std.proofs.lemmas.List.Folds.{list_all-append}
use Rattle.std.specs.Char.{is_ascii_digit}
use Rattle.std.specs.Str.Parse.{digits_value, digits_value_after}
use Rattle.gx_base.proofs.Capped.{capped_append, capped_zeros}
use Rattle.gx_base.specs.Numbers.{are_digits}

and_false : (b : Bool) → (b && false) ≡ false
and_false true = refl
and_false false = refl

-- digits as far as a place, and after it
digits_in_two : (n : ℕ) (ds : List ℕ) → are_digits ds ≡ (are_digits (take n ds) && are_digits (drop n ds))
digits_in_two n ds = ap are_digits (sym (take-append-drop n ds)) ∙ list_all-append is_ascii_digit (take n ds) (drop n ds)

-- as a slice is that ends where the whole ends
pub slice_behind : (n : ℕ) (ds : List ℕ) → take (length ds - n) (drop n ds) ≡ drop n ds
slice_behind n ds = take_all (length ds - n) (drop n ds) (omega (arith, length-drop n ds))

pub digits_from_two : (n : ℕ) (ds : List ℕ) → are_digits (take n ds) ≡ true → are_digits (take (length ds - n) (drop n ds)) ≡ true → are_digits ds ≡ true
digits_from_two n ds front behind = digits_in_two n ds ∙ and_from _ _ front (ap are_digits (sym (slice_behind n ds)) ∙ behind)

pub none_in_front : (n : ℕ) (ds : List ℕ) → are_digits (take n ds) ≡ false → are_digits ds ≡ false
none_in_front n ds h = digits_in_two n ds ∙ ap (λ b. b && are_digits (drop n ds)) h

pub none_behind : (n : ℕ) (ds : List ℕ) → are_digits (take (length ds - n) (drop n ds)) ≡ false → are_digits ds ≡ false
none_behind n ds h = digits_in_two n ds ∙ ap (λ b. are_digits (take n ds) && b) (ap are_digits (sym (slice_behind n ds)) ∙ h) ∙ and_false (are_digits (take n ds))

-- digits filled up with zeros
pub filled_up : (decimals kept : ℕ) (ds : List ℕ) → kept ≡ min (length ds) decimals → take decimals (ds ++ replicate decimals 48) ≡ take kept ds ++ replicate (decimals - kept) 48
filled_up decimals kept ds e = same_lists _ _ (search (rules, places)) (λ k d h. grind (arith, places))

-- what is read in two parts and filled up
pub units_are : (top decimals kept a b r : ℕ) (whole ds : List ℕ) → kept ≡ min (length ds) decimals → a ≡ min top (digits_value_after 10 0 whole) → b ≡ min top (digits_value_after 10 a (take kept ds)) → r ≡ min top (b * 10 ^ (decimals - kept)) → r ≡ min top (digits_value 10 (whole ++ take decimals (ds ++ replicate decimals 48)))
units_are top decimals kept a b r whole ds e p q s =
    let zeros = replicate (decimals - kept) 48 in
    capped_append top 0 b r (whole ++ take kept ds) zeros (capped_append top 0 a b whole (take kept ds) p q) (capped_zeros top b (decimals - kept) r s)
    ∙ ap (λ es. min top (digits_value 10 es)) (append_assoc whole (take kept ds) zeros)
    ∙ ap (λ es. min top (digits_value 10 (whole ++ es))) (sym (filled_up decimals kept ds e))

-- a number that is there or not, by a test
pub found_by : (b : Bool) (n m : ℕ) → Some m ≡ cond b (Some n) None → (b ≡ true) × (m ≡ n)
found_by true n m h = (refl, cc)
found_by false n m h = cc

pub missing_by : (b : Bool) (n : ℕ) → None ≡ cond b (Some n) None → b ≡ false
missing_by true n h = cc
missing_by false n h = refl

-- where one part is no digits, there is no number
abbrev number_of : List ℕ → List ℕ → ℕ → Option ℕ
number_of whole fraction units = cond (nat_le 1 (length whole + length fraction) && are_digits whole && are_digits fraction) (Some units) None

pub no_number : (whole fraction : List ℕ) (units : ℕ) → are_digits fraction ≡ false → None ≡ number_of whole fraction units
no_number whole fraction units h = sym (cond-false _ _ _ (ap (λ b. nat_le 1 (length whole + length fraction) && are_digits whole && b) h ∙ and_false _))

pub nothing_there : (whole fraction : List ℕ) (units : ℕ) → length whole + length fraction ≡ 0 → None ≡ number_of whole fraction units
nothing_there whole fraction units h = sym (cond-false _ _ _ (ap (λ n. nat_le 1 n && are_digits whole && are_digits fraction) h))

pub a_number : (whole fraction : List ℕ) (units : ℕ) → 1 ≤ length whole + length fraction → are_digits whole ≡ true → are_digits fraction ≡ true → Some units ≡ number_of whole fraction units
a_number whole fraction units some before behind = sym (cond-true _ _ _ (and_from _ _ (and_from _ _ (le-leb 1 (length whole + length fraction) some) before) behind))
