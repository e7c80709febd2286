-- What holds of each order of a list, and of each order and each one after it.
use Rattle.std.proofs.Common.{◌≡◌, ◌≢◌, ℕ, Bool, true, false, cond, ◌||◌, List, [], ◌∷◌, ◌++◌, map, filter, refl, ap, ◌∙◌, inl, inr}
use Rattle.std.specs.List.{AllByRecursion, list_any}
use Rattle.plain_book.specs.declared.entry.Entry.{Entry}
use Rattle.plain_book.specs.Orders.{HasSlot}
use Rattle.plain_book.specs.Book.{EachPair, AllDiffer}
pub use Rattle.book_order.proofs.Each.{all-filter, all-append, all-front, all-back, all-with, all-both, all-map}

-- ---- each order

module _ {X : Type 0} (P : X → Type 0) where
  pub all-insert : (n : X) (xs ys : List X) → AllByRecursion P (xs ++ ys) → P n → AllByRecursion P (xs ++ n ∷ ys)
  all-insert n [] ys h k = (k, h)
  all-insert n (x ∷ xs) ys h k = (h.0, all-insert n xs ys h.1 k)

  pub all-from : (f : (x : X) → P x) (xs : List X) → AllByRecursion P xs
  all-from f [] = tt
  all-from f (x ∷ xs) = (f x, all-from f xs)

  pub all-passing : (p : X → Bool) → ((x : X) → p x ≡ true → P x) → (xs : List X) → AllByRecursion P (filter p xs)
  all-passing p f [] = tt
  all-passing p f (x ∷ xs) =
      let go : (b : Bool) → p x ≡ b → AllByRecursion P (cond b (x ∷ filter p xs) (filter p xs)) = elim [ true ↦ λ e. (f x e, all-passing p f xs) | false ↦ λ e. all-passing p f xs ] in
      go (p x) refl

or-left : (a b : Bool) → (a || b) ≡ false → a ≡ false
or-left true b h = h
or-left false b h = refl

or-right : (a b : Bool) → (a || b) ≡ false → b ≡ false
or-right true b h = absurd (let e : true ≡ false = h in cc)
or-right false b h = h

pub none-any : {X : Type 0} (p : X → Bool) (xs : List X) → list_any p xs ≡ false → AllByRecursion (λ x. p x ≡ false) xs
none-any p [] h = tt
none-any p (x ∷ xs) h = (or-left (p x) _ h, none-any p xs (or-right (p x) _ h))

pub any-none : {X : Type 0} (p : X → Bool) (xs : List X) → AllByRecursion (λ x. p x ≡ false) xs → list_any p xs ≡ false
any-none p [] h = refl
any-none p (x ∷ xs) h = ap (λ (b : Bool). b || list_any p xs) h.0 ∙ any-none p xs h.1

-- ---- each pair

module _ (R : Entry → Entry → Type 0) where
  pub pairs-filter : (p : Entry → Bool) (es : List Entry) → EachPair R es → EachPair R (filter p es)
  pairs-filter p [] h = h
  pairs-filter p (e ∷ es) h = elim (p e) as (λ b. EachPair R (cond b (e ∷ filter p es) (filter p es))) [ true ↦ (all-filter (R e) p es h.0, pairs-filter p es h.1) | false ↦ pairs-filter p es h.1 ]

  pub pairs-insert : (n : Entry) (xs ys : List Entry) → EachPair R (xs ++ ys) → AllByRecursion (λ x. R x n) xs → AllByRecursion (R n) ys → EachPair R (xs ++ n ∷ ys)
  pairs-insert n [] ys h f b = (b, h)
  pairs-insert n (x ∷ xs) ys h f b = (all-insert (R x) n xs ys h.0 f.0, pairs-insert n xs ys h.1 f.1 b)

  pub pairs-back : (xs ys : List Entry) → EachPair R (xs ++ ys) → EachPair R ys
  pairs-back [] ys h = h
  pairs-back (x ∷ xs) ys h = pairs-back xs ys h.1

pub all-pair-map : (R S : Entry → Entry → Type 0) (H : Entry → Type 0) (f : Entry → Entry) (e : Entry) → H e → ((a b : Entry) → H a → H b → R a b → S (f a) (f b)) → (es : List Entry) → AllByRecursion H es → AllByRecursion (R e) es → AllByRecursion (S (f e)) (map f es)
all-pair-map R S H f e h k [] a r = tt
all-pair-map R S H f e h k (x ∷ es) a r = (k e x h a.0 r.0, all-pair-map R S H f e h k es a.1 r.1)

pub pairs-map : (R S : Entry → Entry → Type 0) (H : Entry → Type 0) (f : Entry → Entry) → ((a b : Entry) → H a → H b → R a b → S (f a) (f b)) → (es : List Entry) → AllByRecursion H es → EachPair R es → EachPair S (map f es)
pairs-map R S H f k [] a r = tt
pairs-map R S H f k (e ∷ es) a r = (all-pair-map R S H f e a.0 k es a.1 r.0, pairs-map R S H f k es a.1 r.1)

pub pairs-both : (R S : Entry → Entry → Type 0) (es : List Entry) → EachPair R es → EachPair S es → EachPair (λ a b. R a b × S a b) es
pairs-both R S [] r s = tt
pairs-both R S (e ∷ es) r s = (all-both (R e) (S e) es r.0 s.0, pairs-both R S es r.1 s.1)

-- ---- slots differ

all-other : (s : ℕ) (es : List Entry) → (HasSlot s es → ⊥) → AllByRecursion (λ (e : Entry). e.slot ≢ s) es
all-other s [] h = tt
all-other s (e ∷ es) h = ((λ a. h (inl a)), all-other s es (λ a. h (inr a)))

pub differ-pairs : (es : List Entry) → AllDiffer es → EachPair (λ a b. b.slot ≢ a.slot) es
differ-pairs [] d = tt
differ-pairs (e ∷ es) d = (all-other e.slot es d.0, differ-pairs es d.1)
