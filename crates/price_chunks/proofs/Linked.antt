-- Chunks beside each other, where one of them changes, becomes two, or takes in the next.
use Rattle.std.proofs.Common.{◌≡◌, ◌+◌, ◌<◌, ◌≤◌, List, [], ◌∷◌, ◌++◌, length, refl, arith, length-append}
use Rattle.price_chunks.specs.declared.place.Step.{Step}
use Rattle.price_chunks.specs.Inner.Chunks.{half, IsPair, AreLinked}

-- a front of linked chunks ends so that a pair with x is one with y, and y is linked with those after it
pub link-after : (P S T : List (List Step)) (x y : List Step) → ((p : List Step) → IsPair p x → IsPair p y) → (AreLinked (x ∷ S) → AreLinked (y ∷ T)) → AreLinked (P ++ x ∷ S) → AreLinked (P ++ y ∷ T)
link-after [] S T x y f g h = g h
link-after (p ∷ []) S T x y f g h = (f p h.0, g h.1)
link-after (p ∷ (q ∷ P)) S T x y f g h = (h.0, link-after (q ∷ P) S T x y f g h.1)

more : (p x y : List Step) → length x ≤ length y → IsPair p x → IsPair p y
more p x y le h = record { first = h.first; second = omega (arith, h.second); both = omega (arith, h.both) }

first_more : (S : List (List Step)) (x y : List Step) → length x ≤ length y → AreLinked (x ∷ S) → AreLinked (y ∷ S)
first_more [] x y le h = tt
first_more (s ∷ S) x y le h = (record { first = omega (arith, h.0.first); second = h.0.second; both = omega (arith, h.0.both) }, h.1)

pub link-more : (P S : List (List Step)) (x y : List Step) → length x ≤ length y → AreLinked (P ++ x ∷ S) → AreLinked (P ++ y ∷ S)
link-more P S x y le = link-after P S S x y (λ p. more p x y le) (first_more S x y le)

-- two halves in place of a full one
halves : (S : List (List Step)) (x a b : List Step) → half ≤ length a → half ≤ length b → AreLinked (x ∷ S) → AreLinked (a ∷ (b ∷ S))
halves [] x a b le lf h = (record { first = omega arith; second = omega arith; both = omega arith }, tt)
halves (s ∷ S) x a b le lf h = (record { first = omega arith; second = omega arith; both = omega arith }, (record { first = omega arith; second = h.0.second; both = omega arith }, h.1))

pub link-split : (P S : List (List Step)) (x a b : List Step) → half ≤ length a → half ≤ length b → AreLinked (P ++ x ∷ S) → AreLinked (P ++ a ∷ (b ∷ S))
link-split P S x a b le lf = link-after P S (b ∷ S) x a (λ p h. record { first = h.first; second = omega arith; both = omega arith }) (halves S x a b le lf)

-- one chunk, which was y and lost a level at most, takes in the next
right : (S : List (List Step)) (x y q : List Step) → AreLinked (y ∷ (q ∷ S)) → AreLinked ((x ++ q) ∷ S)
right [] x y q h = tt
right (s ∷ S) x y q h = (let l = length-append x q in record { first = omega (arith, h.1.0.first); second = h.1.0.second; both = omega (arith, h.1.0.both) }, h.1.1)

-- the chunk before takes it in
left : (S : List (List Step)) (l x y : List Step) → length y ≤ length x + 1 → 0 < length l → ((s : List Step) (T : List (List Step)) → S ≡ s ∷ T → IsPair x s) → AreLinked (y ∷ S) → AreLinked ((l ++ x) ∷ S)
left [] l x y le lt f h = tt
left (s ∷ S) l x y le lt f h = (let n = length-append l x in let k = f s S refl in record { first = omega arith; second = k.second; both = omega (arith, k.both) }, h.1)

pub link-right : (P S : List (List Step)) (x y q : List Step) → length y ≤ length x + 1 → AreLinked (P ++ y ∷ (q ∷ S)) → AreLinked (P ++ (x ++ q) ∷ S)
link-right [] S x y q le h = right S x y q h
link-right (p ∷ []) S x y q le h =
    let l = length-append x q in
    (record { first = h.0.first; second = omega (arith, h.1.0.second); both = omega (arith, h.0.both, h.1.0.second) }, right S x y q h.1)
link-right (p ∷ (r ∷ P)) S x y q le h = (h.0, link-right (r ∷ P) S x y q le h.1)

pub link-left : (P S : List (List Step)) (l x y : List Step) → length y ≤ length x + 1 → ((s : List Step) (T : List (List Step)) → S ≡ s ∷ T → IsPair x s) → AreLinked (P ++ l ∷ (y ∷ S)) → AreLinked (P ++ (l ++ x) ∷ S)
link-left P S l x y le f =
    let n = length-append l x in
    link-after P (y ∷ S) S l (l ++ x) (λ p h. record { first = h.first; second = omega (arith, h.second); both = omega (arith, h.both) }) (λ h. left S l x y le h.0.first f h.1)

-- it stays, since it is a pair with each beside it
stay : (S : List (List Step)) (x y : List Step) → ((s : List Step) (T : List (List Step)) → S ≡ s ∷ T → IsPair x s) → AreLinked (y ∷ S) → AreLinked (x ∷ S)
stay [] x y f h = tt
stay (s ∷ S) x y f h = (f s S refl, h.1)

pub link-first : (S : List (List Step)) (x y : List Step) → ((s : List Step) (T : List (List Step)) → S ≡ s ∷ T → IsPair x s) → AreLinked (y ∷ S) → AreLinked (x ∷ S)
link-first = stay

pub link-stay : (P S : List (List Step)) (l x y : List Step) → IsPair l x → ((s : List Step) (T : List (List Step)) → S ≡ s ∷ T → IsPair x s) → AreLinked (P ++ l ∷ (y ∷ S)) → AreLinked (P ++ l ∷ (x ∷ S))
link-stay P S l x y k f = link-after P (y ∷ S) (x ∷ S) l l (λ p h. h) (λ h. (k, stay S x y f h.1))
