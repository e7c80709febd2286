-- A list that is mapped place by place.
use Rattle.std.proofs.Common.{◌≡◌, ℕ, zero, suc, ◌<◌, List, [], ◌∷◌, ◌++◌, map, length, take, drop, get_or, set, refl, sym, ap, ◌∙◌, ◌+◌, add-one, arith}

-- the first i are mapped
abbrev pub mapped : {X : Type 0} → (X → X) → List X → ℕ → List X
mapped f xs i = map f (take i xs) ++ drop i xs

pub mapped_reads : {X : Type 0} (f : X → X) (xs : List X) (i : ℕ) (d : X) → i < length xs → get_or (mapped f xs i) i d ≡ get_or xs i d
mapped_reads f [] i d lt = absurd (omega arith)
mapped_reads f (x ∷ xs) zero d lt = refl
mapped_reads f (x ∷ xs) (suc i) d lt = mapped_reads f xs i d (omega arith)

pub mapped_set : {X : Type 0} (f : X → X) (xs : List X) (i : ℕ) (d : X) → i < length xs → set (mapped f xs i) i (f (get_or xs i d)) ≡ mapped f xs (suc i)
mapped_set f [] i d lt = absurd (omega arith)
mapped_set f (x ∷ xs) zero d lt = refl
mapped_set f (x ∷ xs) (suc i) d lt = ap (λ q. f x ∷ q) (mapped_set f xs i d (omega arith))

-- one place more is mapped
pub mapped_more : {X : Type 0} (f : X → X) (xs ys : List X) (i : ℕ) (d v : X) → i < length xs → ys ≡ mapped f xs i → v ≡ f (get_or ys i d) → set ys i v ≡ mapped f xs (i + 1)
mapped_more f xs ys i d v lt now is =
    ap (λ l. set l i v) now
    ∙ ap (λ x. set (mapped f xs i) i x) (is ∙ ap f (ap (λ l. get_or l i d) now ∙ mapped_reads f xs i d lt))
    ∙ mapped_set f xs i d lt
    ∙ ap (mapped f xs) (sym (add-one i))
