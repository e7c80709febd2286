-- How far a report raises the counts of lines.
use Rattle.std.proofs.Common.{ℕ, zero, suc, ◌+◌, ◌≤◌, List, [], ◌∷◌, slice_index, slice_set, arith}

-- a count of one place raises no place by more than one
pub line-counted : (lines : List ℕ) (firm i : ℕ) → slice_index (slice_set lines firm (slice_index lines firm + 1)) i ≤ slice_index lines i + 1
line-counted [] firm i = omega arith
line-counted (x ∷ lines) zero zero = omega arith
line-counted (x ∷ lines) zero (suc i) = omega arith
line-counted (x ∷ lines) (suc firm) zero = omega arith
line-counted (x ∷ lines) (suc firm) (suc i) = line-counted lines firm i
