-- A list of which the first elements are looked at, one by one.
use Rattle.std.proofs.Common.{◌≡◌, ℕ, zero, suc, ◌+◌, ◌<◌, ◌≤◌, List, [], ◌∷◌, length, get_or, take, Some, None, slice_get, sym, subst, arith}
use Rattle.std.proofs.lemmas.List.{take_all}
use Rattle.std.proofs.lemmas.List.Elements.{All-more, All-same}
use Rattle.std.specs.List.{All}

found-there : {X : Type 0} (xs : List X) (i : ℕ) (x : X) → slice_get xs i ≡ Some x → (i < length xs) × (get_or xs i x ≡ x)
found-there [] i x h = absurd (let k : None ≡ Some x = h in cc)
found-there (y ∷ xs) zero x h = let k : Some y ≡ Some x = h in let here : y ≡ x = cc in (omega arith, here)
found-there (y ∷ xs) (suc i) x h = let there = found-there xs i x h in (omega (arith, there.0), there.1)

pub one-more : {X : Type 0} (P : X → Type 0) (xs : List X) (i : ℕ) (x : X) → slice_get xs i ≡ Some x → P x → All P (take i xs) → All P (take (i + 1) xs)
one-more P xs i x h is all = let there = found-there xs i x h in All-more P xs i x there.0 all (subst P (sym there.1) is)

pub all-seen : {X : Type 0} (P : X → Type 0) (xs : List X) (i : ℕ) → length xs ≤ i → All P (take i xs) → All P xs
all-seen P xs i whole all = All-same P xs (take i xs) (sym (take_all i xs whole)) all
