-- One more element at the end of a list.
use Rattle.std.proofs.Common.{◌≡◌, ℕ, ◌<◌, Bool, true, false, ◌||◌, cond, nat_lt, List, [], ◌∷◌, ◌++◌, length, map, position, Some, None, refl, arith}
use Rattle.std.specs.List.{IsDistinct, AllByRecursion, list_any, position_or_len}
use Rattle.std.proofs.lemmas.Bool.Decides.{nat_tests}

pub all_push : {X : Type 0} (P : X → Type 0) (xs : List X) (x : X) → AllByRecursion P xs → P x → AllByRecursion P (xs ++ x ∷ [])
all_push P [] x all h = (h, tt)
all_push P (y ∷ ys) x all h = (all.0, all_push P ys x (all.1) h)

neither : (a b : Bool) → (a || b) ≡ false → (a ≡ false) × (b ≡ false)
neither true b e = cc
neither false b e = (refl, e)

all_keys_push : {X K : Type 0} (P : K → Type 0) (key : X → K) (xs : List X) (x : X) → AllByRecursion P (map key xs) → P (key x) → AllByRecursion P (map key (xs ++ x ∷ []))
all_keys_push P key [] x all h = (h, tt)
all_keys_push P key (y ∷ ys) x all h = (all.0, all_keys_push P key ys x (all.1) h)

-- a key that none of them has
pub distinct_push : {X K : Type 0} (same : K → K → Bool) (key : X → K) (xs : List X) (x : X) → IsDistinct same (map key xs) → list_any (λ y. same (key y) (key x)) xs ≡ false → IsDistinct same (map key (xs ++ x ∷ []))
unfolding IsDistinct
distinct_push same key [] x d e = (tt, tt)
distinct_push same key (y ∷ ys) x d e =
    let (here, more) = neither (same (key y) (key x)) (list_any (λ z. same (key z) (key x)) ys) e in
    (all_keys_push (λ k. same (key y) k ≡ false) key ys x (d.0) here, distinct_push same key ys x (d.1) more)

from_test : (b : Bool) (place i n : ℕ) → nat_lt place n ≡ b → cond b (Some place) None ≡ Some i → i < n
from_test true place i n test e = let same : place ≡ i = cc in grind (arith, nat_tests)
from_test false place i n test e = cc

-- a place that was found is in the list
pub place_within : {X : Type 0} (p : X → Bool) (xs : List X) (i : ℕ) → position p xs ≡ Some i → i < length xs
place_within p xs i e = from_test (nat_lt (position_or_len p xs) (length xs)) (position_or_len p xs) i (length xs) refl e
