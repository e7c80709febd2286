-- Filters of one list.
use Rattle.std.proofs.Common.{◌≡◌, Bool, true, false, List, [], ◌∷◌, filter, refl, arith}

pub filter-comm : {X : Type 0} (p q : X → Bool) (xs : List X) → filter p (filter q xs) ≡ filter q (filter p xs)
filter-comm p q [] = refl
filter-comm p q (x ∷ xs) = grind (arith, filter-comm p q xs)

-- what passes p passes q
pub filter-under : {X : Type 0} (p q : X → Bool) (h : (x : X) → p x ≡ true → q x ≡ true) (xs : List X) → filter p (filter q xs) ≡ filter p xs
filter-under p q h [] = refl
filter-under p q h (x ∷ xs) = grind (arith, filter-under p q h xs, h x)

-- what passes p does not pass q
pub filter-apart : {X : Type 0} (p q : X → Bool) (h : (x : X) → p x ≡ true → q x ≡ false) (xs : List X) → filter p (filter q xs) ≡ []
filter-apart p q h [] = refl
filter-apart p q h (x ∷ xs) = grind (arith, filter-apart p q h xs, h x)
