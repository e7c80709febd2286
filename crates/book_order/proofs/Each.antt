-- What holds of each element of a list.
use Rattle.std.proofs.Common.{Bool, true, false, cond, List, [], ◌∷◌, ◌++◌, map, filter}
use Rattle.std.specs.List.{AllByRecursion}

module _ {X : Type 0} (P : X → Type 0) where
  pub all-filter : (p : X → Bool) (xs : List X) → AllByRecursion P xs → AllByRecursion P (filter p xs)
  all-filter p [] h = h
  all-filter p (x ∷ xs) h = elim (p x) as (λ b. AllByRecursion P (cond b (x ∷ filter p xs) (filter p xs))) [ true ↦ (h.0, all-filter p xs h.1) | false ↦ all-filter p xs h.1 ]

  pub all-append : (xs ys : List X) → AllByRecursion P xs → AllByRecursion P ys → AllByRecursion P (xs ++ ys)
  all-append [] ys h k = k
  all-append (x ∷ xs) ys h k = (h.0, all-append xs ys h.1 k)

  pub all-front : (xs ys : List X) → AllByRecursion P (xs ++ ys) → AllByRecursion P xs
  all-front [] ys h = tt
  all-front (x ∷ xs) ys h = (h.0, all-front xs ys h.1)

  pub all-back : (xs ys : List X) → AllByRecursion P (xs ++ ys) → AllByRecursion P ys
  all-back [] ys h = h
  all-back (x ∷ xs) ys h = all-back xs ys h.1

pub all-with : {X : Type 0} (P Q : X → Type 0) → ((x : X) → P x → Q x) → (xs : List X) → AllByRecursion P xs → AllByRecursion Q xs
all-with P Q f [] h = tt
all-with P Q f (x ∷ xs) h = (f x h.0, all-with P Q f xs h.1)

pub all-both : {X : Type 0} (P Q : X → Type 0) (xs : List X) → AllByRecursion P xs → AllByRecursion Q xs → AllByRecursion (λ x. P x × Q x) xs
all-both P Q [] h k = tt
all-both P Q (x ∷ xs) h k = ((h.0, k.0), all-both P Q xs h.1 k.1)

pub all-map : {X : Type 0} (P Q : X → Type 0) (f : X → X) → ((x : X) → P x → Q (f x)) → (xs : List X) → AllByRecursion P xs → AllByRecursion Q (map f xs)
all-map P Q f k [] h = tt
all-map P Q f k (x ∷ xs) h = (k x h.0, all-map P Q f k xs h.1)
