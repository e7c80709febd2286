-- Numbers as decimal text: their bytes, and that they are read as the same numbers.
use Rattle.std.proofs.Common.{◌≡◌, ℕ, ◌^◌, ◌<◌, ◌≤◌, true, false, nat_le, List, [], ◌∷◌, ◌++◌, decimal, refl, arith}
use Rattle.std.specs.Prelude.{◌==◌}
use Rattle.std.specs.List.{AllByRecursion}
use Rattle.std.specs.Char.{digit_value, is_ascii_digit}
use Rattle.std.specs.Str.Parse.{digits_value, AllDigits}
use Rattle.std.proofs.lemmas.Bool.{and_from, le-leb, ne_eqb}
use Rattle.std.proofs.lemmas.Bool.Decides.{nat_tests}
use Rattle.std.proofs.lemmas.Fmt.{decimal_is_IsNumeral}
use Rattle.gx_base.specs.Numbers.{are_digits}

-- no byte is this one
abbrev pub Lacks : ℕ → List ℕ → Type 0
Lacks b text = AllByRecursion (λ c. (c == b) ≡ false) text

pub lacks-append : (b : ℕ) (xs ys : List ℕ) → Lacks b xs → Lacks b ys → Lacks b (xs ++ ys)
lacks-append b [] ys h g = g
lacks-append b (x ∷ xs) ys h g = (h.0, lacks-append b xs ys h.1 g)

is-digit : (c : ℕ) → digit_value c < 10 → (48 ≤ c) × (c ≤ 57)
is-digit c h = grind (arith, nat_tests)

digits-lack : (b : ℕ) (ds : List ℕ) → b < 48 → AllDigits 10 ds → Lacks b ds
digits-lack b [] low h = tt
digits-lack b (c ∷ ds) low h =
    let d = is-digit c h.0 in
    (ne_eqb c b (λ e. absurd (omega arith)), digits-lack b ds low h.1)

pub decimal-lacks : (b n : ℕ) → b < 48 → n < 2 ^ 64 → Lacks b (decimal n)
decimal-lacks b n low h = digits-lack b (decimal n) low (decimal_is_IsNumeral n h).0.1

ascii-digit : (c : ℕ) → digit_value c < 10 → is_ascii_digit c ≡ true
ascii-digit c h = let d = is-digit c h in and_from (nat_le 48 c) (nat_le c 57) (le-leb 48 c d.0) (le-leb c 57 d.1)

digits-are : (ds : List ℕ) → AllDigits 10 ds → are_digits ds ≡ true
digits-are [] h = refl
digits-are (c ∷ ds) h = and_from (is_ascii_digit c) (are_digits ds) (ascii-digit c h.0) (digits-are ds h.1)

pub decimal-digits : (n : ℕ) → n < 2 ^ 64 → are_digits (decimal n) ≡ true
decimal-digits n h = digits-are (decimal n) (decimal_is_IsNumeral n h).0.1

pub decimal-value : (n : ℕ) → n < 2 ^ 64 → digits_value 10 (decimal n) ≡ n
decimal-value n h = (decimal_is_IsNumeral n h).1
