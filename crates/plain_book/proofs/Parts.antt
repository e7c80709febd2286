-- Parts that are rounded down add up to the whole at most.
use Rattle.std.proofs.Common.{◌≡◌, ℕ, ◌*◌, ◌/◌, ◌≤◌, List, [], ◌∷◌, refl, sym, ap, ◌∙◌, arith, sum_by}
use Prim.Native.Nat.{zero, suc}
use Rattle.std.proofs.Math.Nat.{div-mul-le_self, le_of_mul-le-mul_right, mul-le-mul_left, div-zero}
use Rattle.std.proofs.lemmas.List.Sums.{sum_by-cons}

-- f is at most each one's part of the pool by weight
module _ {X : Type 0} (f w : X → ℕ) (pool total : ℕ) (part : (x : X) → f x ≤ pool * w x / total) where
  part-le : (x : X) → f x * total ≤ pool * w x
  part-le x =
      let h : total * f x ≤ total * (pool * w x / total) = mul-le-mul_left total (part x) in
      omega (arith, h, div-mul-le_self (pool * w x) total)

  parts-le : (xs : List X) → sum_by f xs * total ≤ pool * sum_by w xs
  parts-le [] = omega arith
  parts-le (x ∷ xs) = rw (sum_by-cons f x xs, sum_by-cons w x xs) (omega (arith, part-le x, parts-le xs))

  part-none : total ≡ 0 → (x : X) → f x ≡ 0
  part-none z x = omega (arith, part x, ap (λ (n : ℕ). pool * w x / n) z ∙ div-zero (pool * w x))

  parts-none : total ≡ 0 → (xs : List X) → sum_by f xs ≡ 0
  parts-none z [] = refl
  parts-none z (x ∷ xs) = omega (arith, sum_by-cons f x xs, part-none z x, parts-none z xs)

  -- all parts together are at most the pool
  pub parts-fit : (xs : List X) → sum_by w xs ≤ total → sum_by f xs ≤ pool
  parts-fit xs h = by-total total refl
    where
      by-total : (n : ℕ) → n ≡ total → sum_by f xs ≤ pool
      by-total zero e = omega (arith, parts-none (sym e) xs)
      by-total (suc n) e =
          let most : pool * sum_by w xs ≤ pool * total = mul-le-mul_left pool h in
          let all : sum_by f xs * total ≤ pool * total = omega (arith, parts-le xs, most) in
          le_of_mul-le-mul_right all (omega (arith, e))
