-- Laws of `first_twice_after`: what a search for a key that stands twice says of the keys.
use Rattle.std.proofs.Common.{◌≡◌, ℕ, ◌+◌, ◌<◌, Bool, true, false, cond, ◌||◌, List, [], ◌∷◌, ◌++◌, length, get_or, take, drop, map, Option, Some, None, refl, append_assoc, append-nil}
use Rattle.std.proofs.lemmas.List.{take_more, drop_more}
use Rattle.std.proofs.lemmas.List.Folds.{list_any-append}
use Rattle.std.specs.List.{IsDistinct, AllByRecursion, list_any}
use Rattle.step_config.specs.Rules.{first_twice_after}

-- ---- one item further in the search

module _ {X K : Type 0} (same : K → K → Bool) (key : X → K) (items : List X) (i : ℕ) (item : X) (within : i < length items) (is : item ≡ get_or items i item) where
  pub stands_twice : list_any (λ before. same (key before) (key item)) (take i items) ≡ true → first_twice_after same key (take i items) (drop i items) ≡ Some (key item)
  stands_twice e = rw (drop_more items i item within, ← is) (rw e refl)

  pub stands_once : list_any (λ before. same (key before) (key item)) (take i items) ≡ false → first_twice_after same key (take i items) (drop i items) ≡ first_twice_after same key (take (i + 1) items) (drop (i + 1) items)
  stands_once e = rw (drop_more items i item within, take_more items i item within, ← is) (rw e refl)

-- ---- where none stands twice, all differ

pub none_from_cond : {X : Type 0} (b : Bool) (x : X) (rest : Option X) → cond b (Some x) rest ≡ None → (b ≡ false) × (rest ≡ None)
none_from_cond true x rest e = cc
none_from_cond false x rest e = (refl, e)

middle : (a b c : Bool) → ((a || (b || false)) || c) ≡ false → b ≡ false
middle true b c e = cc
middle false true c e = cc
middle false false c e = refl

-- the key of one that stands before is none of these keys
apart : {X K : Type 0} (same : K → K → Bool) (key : X → K) (front : List X) (x : X) (back items : List X) → first_twice_after same key ((front ++ x ∷ []) ++ back) items ≡ None → AllByRecursion (λ k. same (key x) k ≡ false) (map key items)
apart {X} {K} same key front x back [] e = tt
apart {X} {K} same key front x back (y ∷ rest) e =
    let earlier = (front ++ x ∷ []) ++ back in
    let passes = λ (s : X). same (key s) (key y) in
    let parts = none_from_cond (list_any passes earlier) (key y) (first_twice_after same key (earlier ++ y ∷ []) rest) e in
    let here = rw (list_any-append passes (front ++ x ∷ []) back, list_any-append passes front (x ∷ [])) at (parts.0) in (
      middle (list_any passes front) (passes x) (list_any passes back) here,
      apart same key front x (back ++ y ∷ []) rest (rw (append_assoc (front ++ x ∷ []) back (y ∷ [])) at (parts.1)),
    )

pub distinct : {X K : Type 0} (same : K → K → Bool) (key : X → K) (earlier items : List X) → first_twice_after same key earlier items ≡ None → IsDistinct same (map key items)
unfolding IsDistinct
distinct {X} {K} same key earlier [] e = tt
distinct {X} {K} same key earlier (x ∷ rest) e =
    let parts = none_from_cond (list_any (λ (s : X). same (key s) (key x)) earlier) (key x) (first_twice_after same key (earlier ++ x ∷ []) rest) e in
    (apart same key earlier x [] rest (rw (append-nil (earlier ++ x ∷ [])) (parts.1)), distinct same key (earlier ++ x ∷ []) rest (parts.1))
