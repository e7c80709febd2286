use Rattle.std.proofs.Common.{◌≡◌, ◌≤◌, ◌++◌, length, drop}
use Rattle.gx_base.specs.Numbers.{fixed_digits}
use Rattle.line_parts.proofs.decimal.write_fixed_digits.Given as goal

-- the digits that are left to write are those of what is left of the number
abbrev pub invariant-loop-at : goal.invariant-loop-at
invariant-loop-at l = (l.at ≤ length l.initial.into) × (fixed_digits (length l.initial.into) l.n ≡ fixed_digits l.at l.front ++ drop l.at l.into)

abbrev pub decreases-loop-at : goal.decreases-loop-at
decreases-loop-at l = l.at
