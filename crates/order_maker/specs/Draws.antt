-- Draws of pseudo-random numbers, as the sample `rand` of the C standard makes them.
use Rattle.std.specs.Prelude.{ℕ, ◌+◌, ◌*◌, ◌/◌, ◌%◌, ◌^◌}

-- the state after a draw
unfoldable pub next_state : ℕ → ℕ
next_state x = (x * 1103515245 + 12345) % 2 ^ 31

-- the number below `limit` that a draw gives, by the state after it
unfoldable pub drawn : ℕ → ℕ → ℕ
drawn limit x = (x / 65536) % limit
