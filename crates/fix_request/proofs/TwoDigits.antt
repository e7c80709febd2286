-- Texts that begin with a tag of two digits.
use Rattle.std.proofs.Common.{◌≡◌, ℕ, ◌+◌, ◌-◌, ◌*◌, ◌≤◌, false, true, List, [], ◌∷◌, take, drop, refl, ap, ◌∙◌, arith}
use Rattle.std.specs.List.{position_or_len, list_any}
use Rattle.std.specs.Char.{digit_value}
use Rattle.std.specs.Str.Parse.{digits_value}
use Rattle.std.proofs.lemmas.Bool.Decides.{nat_tests}
use Rattle.fix_request.specs.Fields.{Field, is_equals_sign, is_tag, has_tag, field_of}

-- two digits, the first not 0, and `=`
record AreTagBytes (a b c : ℕ) : Type 0 where
  first : (49 ≤ a) × (a ≤ 57)
  second : (48 ≤ b) × (b ≤ 57)
  third : c ≡ 61

-- no digit is `=`
no_equals_sign : (a : ℕ) → a ≤ 57 → is_equals_sign a ≡ false
no_equals_sign a digit = grind (arith, nat_tests)

equals_sign : (c : ℕ) → c ≡ 61 → is_equals_sign c ≡ true
equals_sign c is = grind (arith, nat_tests)

any_there : (a b c : ℕ) (rest : List ℕ) → AreTagBytes a b c → list_any is_equals_sign (a ∷ b ∷ c ∷ rest) ≡ true
any_there a b c rest are = rw (no_equals_sign a are.first.1, no_equals_sign b are.second.1, equals_sign c are.third) refl

-- the first `=` is the third byte
first_at : (a b c : ℕ) (rest : List ℕ) → AreTagBytes a b c → position_or_len is_equals_sign (a ∷ b ∷ c ∷ rest) ≡ 2
first_at a b c rest are = rw (no_equals_sign a are.first.1, no_equals_sign b are.second.1, equals_sign c are.third) refl

tag_there : (a b c : ℕ) → AreTagBytes a b c → is_tag (a ∷ b ∷ []) ≡ true
tag_there a b c are = grind (arith, nat_tests)

has_there : (a b c : ℕ) (rest : List ℕ) → AreTagBytes a b c → has_tag (a ∷ b ∷ c ∷ rest) ≡ true
has_there a b c rest are = rw (any_there a b c rest are, first_at a b c rest are) (tag_there a b c are)

-- what a digit is worth
worth : (a : ℕ) → 48 ≤ a → a ≤ 57 → digit_value a ≡ a - 48
worth a low high = grind (arith, nat_tests)

number_there : (a b c : ℕ) → AreTagBytes a b c → digits_value 10 (a ∷ b ∷ []) ≡ a * 10 + b - 528
number_there a b c are =
    let of-a = worth a (omega arith) are.first.1 in
    let of-b = worth b are.second.0 are.second.1 in
    omega arith

field_there : (a b c : ℕ) (rest : List ℕ) → AreTagBytes a b c → field_of (a ∷ b ∷ c ∷ rest) ≡ record { tag = a * 10 + b - 528; value = rest }
field_there a b c rest are =
    let split : ℕ → Field = λ at. record { tag = digits_value 10 (take at (a ∷ b ∷ c ∷ rest)); value = drop (at + 1) (a ∷ b ∷ c ∷ rest) } in
    let tagged : ℕ → Field = λ tag. record { tag = tag; value = rest } in
    ap split (first_at a b c rest are) ∙ ap tagged (number_there a b c are)

-- a text of two such digits, `=` and a value
pub plain_there : (a b c : ℕ) (rest : List ℕ) → (49 ≤ a) × (a ≤ 57) → (48 ≤ b) × (b ≤ 57) → c ≡ 61
    → (has_tag (a ∷ b ∷ c ∷ rest) ≡ true) × (field_of (a ∷ b ∷ c ∷ rest) ≡ record { tag = a * 10 + b - 528; value = rest })
plain_there a b c rest first second third =
    let are : AreTagBytes a b c = record { first = first; second = second; third = third } in
    (has_there a b c rest are, field_there a b c rest are)
