-- Sums of which only the last 64 bits are kept.
use Rattle.std.proofs.Common.{◌≡◌, ℕ, ◌+◌, ◌-◌, ◌/◌, ◌%◌, ◌<◌, not, List, ◌∷◌, filter, refl, arith}
use Rattle.std.proofs.lemmas.Nat.{div-add-mod', mod_below}
use Rattle.std.proofs.lemmas.List.Sums.{sum_by-cons, sum_by-append}
use Rattle.std.proofs.lemmas.List.Filters.{sum_by-filter_both}
use Rattle.gx_base.specs.declared.order.Side.{Side}
use Rattle.price_chunks.specs.declared.place.Step.{Step}
use Rattle.price_chunks.specs.Steps.{is_worse_step, with_step, open_at}
use Rattle.price_chunks.specs.Inner.Sums.{IsMod}

abbrev M : ℕ
M = 18446744073709551616

pub exact : (n : ℕ) → IsMod n n
exact n = record { turns = 0; is = omega arith }

pub mod_add : (a b r m n : ℕ) → IsMod a m → IsMod b n → r ≡ (a + b) % 18446744073709551616 → IsMod r (m + n)
mod_add a b r m n h k e =
    let d = div-add-mod' (a + b) 18446744073709551616 in
    let x = h.is in
    let y = k.is in
    record { turns = h.turns + k.turns + (a + b) / 18446744073709551616; is = omega arith }

pub mod_sub : (a b r m n t : ℕ) → b < 18446744073709551616 → IsMod a m → IsMod b n → t + n ≡ m → r ≡ (a + (18446744073709551616 - b)) % 18446744073709551616 → IsMod r t
mod_sub a b r m n t lt h k s e =
    let s2 = a + (18446744073709551616 - b) in
    let d = div-add-mod' s2 18446744073709551616 in
    let w = mod_below s2 18446744073709551616 (omega arith) in
    let x = h.is in
    let y = k.is in
    record { turns = h.turns + s2 / 18446744073709551616 - k.turns - 1; is = omega arith }

pub mod_small : (n m : ℕ) → m < 18446744073709551616 → IsMod n m → n ≡ m
mod_small n m lt h = let x = h.is in omega arith

pub open_with : (side : Side) (s : Step) (xs : List Step) → open_at (with_step side s xs) ≡ open_at xs + s.leaves
open_with side s xs =
    let q = is_worse_step side s.price in
    let f : Step → ℕ = λ t. t.leaves in
    let back = filter (λ t. not (q t)) xs in
    omega (arith, sum_by-append f (filter q xs) (s ∷ back), sum_by-cons f s back, sum_by-filter_both q (λ t. not (q t)) (λ t. refl) f xs)
