-- What holds of each element of a list, or of each one and those after it; filters.
use Rattle.std.proofs.Common.{◌≡◌, ℕ, ◌<◌, Bool, true, false, cond, List, [], ◌∷◌, ◌++◌, length, get_or, filter, map, refl, ap, ◌∙◌, arith}
use Prim.Native.Nat.{zero, suc}
use Rattle.std.specs.List.{AllByRecursion}
use Rattle.price_level.specs.Rows.{Pairs}
pub use Rattle.book_order.proofs.Each.{all-filter, all-append, all-front, all-back, all-with, all-both, all-map}

-- ---- each element

module _ {X : Type 0} (P : X → Type 0) where
  pub all-at : (xs : List X) (k : ℕ) (d : X) → AllByRecursion P xs → k < length xs → P (get_or xs k d)
  all-at [] k d h lt = absurd (omega arith)
  all-at (x ∷ xs) zero d h lt = h.0
  all-at (x ∷ xs) (suc k) d h lt = all-at xs k d h.1 (omega arith)

-- ---- each pair

module _ {X : Type 0} (R : X → X → Type 0) where
  pub pairs-filter : (p : X → Bool) (xs : List X) → Pairs R xs → Pairs R (filter p xs)
  pairs-filter p [] h = h
  pairs-filter p (x ∷ xs) h = elim (p x) as (λ b. Pairs R (cond b (x ∷ filter p xs) (filter p xs))) [ true ↦ (all-filter (R x) p xs h.0, pairs-filter p xs h.1) | false ↦ pairs-filter p xs h.1 ]

  pub pairs-append : (xs ys : List X) → Pairs R xs → Pairs R ys → AllByRecursion (λ x. AllByRecursion (R x) ys) xs → Pairs R (xs ++ ys)
  pairs-append [] ys h k a = k
  pairs-append (x ∷ xs) ys h k a = (all-append (R x) xs ys h.0 a.0, pairs-append xs ys h.1 k a.1)

  pub pairs-front : (xs ys : List X) → Pairs R (xs ++ ys) → Pairs R xs
  pairs-front [] ys h = tt
  pairs-front (x ∷ xs) ys h = (all-front (R x) xs ys h.0, pairs-front xs ys h.1)

  pub pairs-back : (xs ys : List X) → Pairs R (xs ++ ys) → Pairs R ys
  pairs-back [] ys h = h
  pairs-back (x ∷ xs) ys h = pairs-back xs ys h.1

  -- each of the front stands so to each of the back
  pub pairs-across : (xs ys : List X) → Pairs R (xs ++ ys) → AllByRecursion (λ x. AllByRecursion (R x) ys) xs
  pairs-across [] ys h = tt
  pairs-across (x ∷ xs) ys h = (all-back (R x) xs ys h.0, pairs-across xs ys h.1)

pub all-pair-map : {X : Type 0} (R S : X → X → Type 0) (f : X → X) → ((a b : X) → R a b → S (f a) (f b)) → (x : X) (xs : List X) → AllByRecursion (R x) xs → AllByRecursion (S (f x)) (map f xs)
all-pair-map R S f k x [] h = tt
all-pair-map R S f k x (y ∷ xs) h = (k x y h.0, all-pair-map R S f k x xs h.1)

pub pairs-map : {X : Type 0} (R S : X → X → Type 0) (f : X → X) → ((a b : X) → R a b → S (f a) (f b)) → (xs : List X) → Pairs R xs → Pairs S (map f xs)
pairs-map R S f k [] h = tt
pairs-map R S f k (x ∷ xs) h = (all-pair-map R S f k x xs h.0, pairs-map R S f k xs h.1)

-- ---- filters

module _ {X : Type 0} where
  pub filter-all : (p : X → Bool) (xs : List X) → AllByRecursion (λ x. p x ≡ true) xs → filter p xs ≡ xs
  filter-all p [] h = refl
  filter-all p (x ∷ xs) h = ap (λ (b : Bool). cond b (x ∷ filter p xs) (filter p xs)) h.0 ∙ ap (λ (q : List X). x ∷ q) (filter-all p xs h.1)

  pub filter-none : (p : X → Bool) (xs : List X) → AllByRecursion (λ x. p x ≡ false) xs → filter p xs ≡ []
  filter-none p [] h = refl
  filter-none p (x ∷ xs) h = ap (λ (b : Bool). cond b (x ∷ filter p xs) (filter p xs)) h.0 ∙ filter-none p xs h.1

  -- two tests that agree on each element
  pub filter-same : (p q : X → Bool) (xs : List X) → AllByRecursion (λ x. p x ≡ q x) xs → filter p xs ≡ filter q xs
  filter-same p q [] h = refl
  filter-same p q (x ∷ xs) h = ap (λ (b : Bool). cond b (x ∷ filter p xs) (filter p xs)) h.0 ∙ ap (λ (r : List X). cond (q x) (x ∷ r) r) (filter-same p q xs h.1)
