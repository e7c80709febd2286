-- One element further in a list that is made from another one.
use Rattle.std.proofs.Common.{◌≡◌, ℕ, zero, suc, ◌+◌, ◌<◌, Bool, ◌&&◌, ◌||◌, List, [], ◌∷◌, ◌++◌, length, map, get_or, take, drop, sym, ap, ◌∙◌, refl}
use Rattle.std.proofs.lemmas.List.{length-map, get_or-map, take_more, drop_more}
use Rattle.std.specs.List.{list_all, list_any}
use Rattle.toml.specs.View.{items_of}
use Rattle.toml.specs.Data.{Data}
use Rattle.product_file.specs.Values.{entries_of}

-- the entries of an array's items
pub entries_of-items_of : (ds : List Data) → entries_of (items_of ds) ≡ ds
entries_of-items_of [] = refl
entries_of-items_of (d ∷ ds) = ap (λ (rest : List Data). d ∷ rest) (entries_of-items_of ds)

pub list_any-map : {A B : Type 0} (p : B → Bool) (f : A → B) (xs : List A) → list_any p (map f xs) ≡ list_any (λ x. p (f x)) xs
list_any-map p f [] = refl
list_any-map p f (x ∷ xs) = ap (λ (b : Bool). p (f x) || b) (list_any-map p f xs)

pub map-map : {A B C : Type 0} (g : B → C) (f : A → B) (xs : List A) → map g (map f xs) ≡ map (λ x. g (f x)) xs
map-map g f [] = refl
map-map {A} {B} {C} g f (x ∷ xs) = ap (λ (rest : List C). g (f x) ∷ rest) (map-map g f xs)

module _ {A B : Type 0} (f : A → B) (xs : List A) (i : ℕ) (x : A) (h : i < length xs) (is : x ≡ get_or xs i x) where
  within : i < length (map f xs)
  within = rw (length-map xs f) h

  same : get_or (map f xs) i (f x) ≡ f x
  same = get_or-map f xs i x (f x) h ∙ ap f (sym is)

  pub drop-mapped : drop i (map f xs) ≡ f x ∷ drop (i + 1) (map f xs)
  drop-mapped = drop_more (map f xs) i (f x) within ∙ ap (λ (y : B). y ∷ drop (i + 1) (map f xs)) same

  pub take-mapped : take (i + 1) (map f xs) ≡ take i (map f xs) ++ f x ∷ []
  take-mapped = take_more (map f xs) i (f x) within ∙ ap (λ (y : B). take i (map f xs) ++ y ∷ []) same

-- the same of a list that is made in two steps
module _ {A B C : Type 0} (g : B → C) (f : A → B) (xs : List A) (i : ℕ) (x : A) (h : i < length xs) (is : x ≡ get_or xs i x) where
  pub drop-mapped_twice : drop i (map g (map f xs)) ≡ g (f x) ∷ drop (i + 1) (map g (map f xs))
  drop-mapped_twice = drop-mapped g (map f xs) i (f x) (within f xs i x h is) (sym (same f xs i x h is))

  pub take-mapped_twice : take (i + 1) (map g (map f xs)) ≡ take i (map g (map f xs)) ++ g (f x) ∷ []
  take-mapped_twice = take-mapped g (map f xs) i (f x) (within f xs i x h is) (sym (same f xs i x h is))

  -- a test of all from an element on is that of the element and of all after it
  pub all-mapped_twice : (p : C → Bool) → list_all p (drop i (map g (map f xs))) ≡ (p (g (f x)) && list_all p (drop (i + 1) (map g (map f xs))))
  all-mapped_twice p = ap (list_all p) drop-mapped_twice

pub map-take : {A B : Type 0} (f : A → B) (n : ℕ) (xs : List A) → map f (take n xs) ≡ take n (map f xs)
map-take f zero xs = refl
map-take f (suc n) [] = refl
map-take {A} {B} f (suc n) (x ∷ xs) = ap (λ (rest : List B). f x ∷ rest) (map-take f n xs)
