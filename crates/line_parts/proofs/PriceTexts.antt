-- The room that a price takes.
use Rattle.std.proofs.Common.{◌≡◌, ℕ, zero, suc, ◌+◌, ◌-◌, ◌*◌, ◌/◌, ◌^◌, ◌<◌, ◌≤◌, ◌∷◌, length, decimal, arith, refl, sym, ap, ◌∙◌}
use Rattle.std.proofs.lemmas.Fmt.{length-decimal-le}
use Rattle.std.proofs.lemmas.Nat.{pow-add}
use Rattle.std.proofs.Math.Nat.{div-le_self, div-lt_iff_lt-mul, one-le-pow}
use Rattle.gx_base.specs.Numbers.{fixed_digits, fraction_text}
use Rattle.gx_base.specs.declared.limits.TheConstants.{MOST_DECIMALS}

-- with decimals there is a point
pub some_fraction : (decimals n : ℕ) → (decimals ≡ 0 → ⊥) → fraction_text decimals n ≡ 46 ∷ fixed_digits decimals n
some_fraction zero n some = absurd (some refl)
some_fraction (suc k) n some = refl

pub length-whole : (decimals n : ℕ) → decimals ≤ MOST_DECIMALS → n < 10 ^ 19 → length (decimal (n / 10 ^ decimals)) + decimals ≤ 19
length-whole decimals n few small =
    let some : 0 < 10 ^ decimals = one-le-pow decimals 10 (omega arith) in
    let all : 19 - decimals + decimals ≡ 19 = omega arith in
    let whole : 10 ^ (19 - decimals) * 10 ^ decimals ≡ 10 ^ 19 = sym (pow-add 10 (19 - decimals) decimals) ∙ ap (λ k. 10 ^ k) all in
    let below : n / 10 ^ decimals < 10 ^ (19 - decimals) = (div-lt_iff_lt-mul {k = 10 ^ decimals} {x = n} {y = 10 ^ (19 - decimals)} some).1 (omega arith) in
    let low : n / 10 ^ decimals < 2 ^ 64 = omega (arith, div-le_self n (10 ^ decimals)) in
    omega (arith, length-decimal-le (19 - decimals) (n / 10 ^ decimals) (omega arith) below low)
