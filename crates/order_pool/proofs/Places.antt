-- Facts on the places of a block's elements.
use Rattle.std.proofs.Common.{◌≡◌, ℕ, ◌+◌, ◌*◌, ◌≤◌, ◌<◌, arith, ap, ◌∙◌}
use Rattle.std.proofs.Math.Nat.{mul-le-mul_right}
use denote.RawPtr.{Ptr, block_ptr, ◌+ₚ◌}
use Rattle.order_pool.specs.Inner.Places.{place}

-- the place of element k, in the block b from the offset o on
pub place_in : (s : ℕ) (base : Ptr) (b o k : ℕ) → base ≡ block_ptr b o → place s base k ≡ block_ptr b (k * s + o)
place_in s base b o k e = ap (λ (q : Ptr). q +ₚ (k * s)) e ∙ ap (block_ptr b) (omega arith)

-- i elements take less room than c, if c is no less
pub times_below : (i c s t : ℕ) → i ≤ c → c * s < t → i * s < t
times_below i c s t le h = omega (arith, mul-le-mul_right s le)

pub one_below : (c s t : ℕ) → 0 < c → c * s < t → s < t
one_below c s t pos h = let le : 1 ≤ c = omega arith in omega (arith, mul-le-mul_right s le)
