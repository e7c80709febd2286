-- Whether LEVELING stands first, by its place in the list.
use Rattle.std.proofs.Common.{◌≡◌, ℕ, ◌+◌, Bool, true, false, not, cond, ◌||◌, nat_lt, List, [], ◌∷◌, length, take, position, Some, None, refl, arith}
use Rattle.std.proofs.lemmas.Bool.Decides.{nat_tests}
use Rattle.std.specs.List.{list_any, position_or_len}
use Rattle.step_config.specs.declared.step.Step.{Step}
use Rattle.step_config.specs.Rules.{is_leveling, is_pro_rata, leveling_first}

any_by_place : {X : Type 0} (p : X → Bool) (xs : List X) → list_any p xs ≡ nat_lt (position_or_len p xs) (length xs)
any_by_place p [] = refl
any_by_place p (x ∷ xs) =
    elim (p x) as (λ b. ((b || list_any p xs) ≡ nat_lt (cond (not b) (1 + position_or_len p xs) 0) (length (x ∷ xs)))) [
      | true ↦ grind (arith, nat_tests)
      | false ↦ rw (any_by_place p xs) (grind (arith, nat_tests))
    ]

-- what a place that was found says
found : (b : Bool) (place at : ℕ) → cond b (Some place) None ≡ Some at → (b ≡ true) × (place ≡ at)
found true place at e = (refl, cc)
found false place at e = cc

not_found : (b : Bool) (place : ℕ) → cond b (Some place) None ≡ None → b ≡ false
not_found true place e = cc
not_found false place e = refl

pub leveling_found : (steps : List Step) (at : ℕ) → position is_leveling steps ≡ Some at → not (list_any is_pro_rata (take at steps)) ≡ leveling_first steps
leveling_found steps at e =
    let place = found (nat_lt (position_or_len is_leveling steps) (length steps)) (position_or_len is_leveling steps) at e in
    rw (any_by_place is_leveling steps) (rw (place.0) (rw (place.1) refl))

pub leveling_not_found : (steps : List Step) → position is_leveling steps ≡ None → false ≡ leveling_first steps
leveling_not_found steps e =
    let no = not_found (nat_lt (position_or_len is_leveling steps) (length steps)) (position_or_len is_leveling steps) e in
    rw (any_by_place is_leveling steps) (rw no refl)
