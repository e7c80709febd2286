-- The table of rows, by the numbers of their queues, and which queue is taken next.
use Rattle.std.specs.Prelude.{◌≡◌, ℕ, List, [], ◌∷◌, ◌++◌, length, map, set, nat_lt, if◌then◌else◌, ◌⊎◌}
use Rattle.price_level.specs.declared.row.LevelRow.{LevelRow}
use Rattle.price_level.specs.declared.row.Held.{Held}

abbrev pub rows_held : List Held → List LevelRow
rows_held all = map (λ h. h.row) all

-- the row of a queue that was used before, or of the next one
abbrev pub with_row : List LevelRow → ℕ → LevelRow → List LevelRow
with_row table q r = if nat_lt q (length table) then set table q r else table ++ r ∷ []

-- the queue is the last of the free ones, or else the next one
abbrev pub Takes : ℕ → List ℕ → List ℕ → ℕ → Type 0
Takes next free left q = (free ≡ left ++ q ∷ []) ⊎ ((free ≡ []) × (left ≡ []) × (q ≡ next))
