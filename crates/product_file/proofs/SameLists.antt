-- Lists that are tried against each other element by element.
use Rattle.std.proofs.Common.{◌≡◌, ℕ, zero, suc, ◌+◌, ◌<◌, ◌≤◌, Bool, true, false, not, ◌&&◌, List, [], ◌∷◌, length, drop, slice_get, Some, refl, ap, add-one, arith}
use Rattle.std.proofs.Math.ListN.{drop_of_length-le}
use Rattle.product_file.specs.Amendments.{begins_with, are_same}

from_here : {A : Type 0} (xs : List A) (n : ℕ) (x : A) → slice_get xs n ≡ Some x → drop n xs ≡ x ∷ drop (suc n) xs
from_here [] n x e = cc
from_here (y ∷ ys) zero x e = let same : y ≡ x = cc in rw same refl
from_here (y ∷ ys) (suc n) x e = from_here ys n x e

-- what a test of one element makes of the test of it and the rest
pub refused_here : (b rest : Bool) → not b ≡ true → (b && rest) ≡ false
refused_here true rest e = cc
refused_here false rest e = refl

pub passed_here : (b rest : Bool) → not b ≡ false → (b && rest) ≡ rest
passed_here true rest e = refl
passed_here false rest e = cc

and_false : (b : Bool) → (b && false) ≡ false
and_false true = refl
and_false false = refl

module _ {A : Type 0} (same : A → A → Bool) where
  -- ---- a list that begins with the other

  pub one_more : (xs ys : List A) (n : ℕ) (x y : A) → slice_get xs n ≡ Some x → slice_get ys n ≡ Some y
      → begins_with same (drop n xs) (drop n ys) ≡ (same x y && begins_with same (drop (n + 1) xs) (drop (n + 1) ys))
  one_more xs ys n x y e f = rw (from_here xs n x e, from_here ys n y f, add-one) refl

  pub begins_at_end : (xs ys : List A) (n : ℕ) → length xs ≤ n → begins_with same (drop n xs) (drop n ys) ≡ true
  begins_at_end xs ys n end = rw (drop_of_length-le xs {i = n} end) refl

  pub too_short : (xs ys : List A) → length ys < length xs → begins_with same xs ys ≡ false
  too_short [] ys short = absurd (omega arith)
  too_short (x ∷ xs) [] short = refl
  too_short (x ∷ xs) (y ∷ ys) short =
      let shorter : length ys < length xs = omega arith in
      rw (too_short xs ys shorter) (and_false (same x y))

  -- ---- lists that are the same

  pub both_one_more : (xs ys : List A) (n : ℕ) (x y : A) → slice_get xs n ≡ Some x → slice_get ys n ≡ Some y
      → are_same same (drop n xs) (drop n ys) ≡ (same x y && are_same same (drop (n + 1) xs) (drop (n + 1) ys))
  both_one_more xs ys n x y e f = rw (from_here xs n x e, from_here ys n y f, add-one) refl

  pub both_at_end : (xs ys : List A) (n : ℕ) → length xs ≤ n → length ys ≤ n → are_same same (drop n xs) (drop n ys) ≡ true
  both_at_end xs ys n end also = rw (drop_of_length-le xs {i = n} end, drop_of_length-le ys {i = n} also) refl

  pub other_length : (xs ys : List A) → (length xs ≡ length ys → ⊥) → are_same same xs ys ≡ false
  other_length [] [] differ = absurd (differ refl)
  other_length [] (y ∷ ys) differ = refl
  other_length (x ∷ xs) [] differ = refl
  other_length (x ∷ xs) (y ∷ ys) differ =
      let others : length xs ≡ length ys → ⊥ = λ e. differ (ap suc e) in
      rw (other_length xs ys others) (and_false (same x y))
