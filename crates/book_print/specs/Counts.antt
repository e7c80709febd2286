-- Counts that are printed.
use Rattle.std.specs.Prelude.{ℕ, ◌^◌, ◌-◌, min}

-- a count that stands still at the end of its type
abbrev pub capped : ℕ → ℕ
capped n = min n (2 ^ 64 - 1)
