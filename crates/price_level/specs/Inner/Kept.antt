-- What is true of the fields of levels at every moment.
use Rattle.std.specs.Prelude.{◌≡◌, ◌≢◌, ℕ, ◌+◌, ◌*◌, ◌<◌, ◌≤◌, List, length}
use Rattle.std.specs.List.{AllByRecursion}
use Rattle.price_level.specs.declared.row.LevelRow.{LevelRow}
use Rattle.price_chunks.specs.declared.place.Step.{Step}
use Rattle.price_level.specs.Rows.{Rows, HasQueue, Pairs, AreRows}
use Rattle.price_level.specs.Inner.Sides.{rows_of, AreSides}

-- as contracts see them
abbrev pub rows_seen : ℕ → ℕ → List LevelRow → List (List Step) → Rows
rows_seen capacity instruments table all = record { capacity = capacity; instruments = instruments; rows = rows_of table all }

-- no queue stands twice
abbrev pub AreApart : List ℕ → Type 0
AreApart queues = Pairs (λ a b. b ≢ a) queues

-- the queues below a number that have no row
abbrev pub AreFree : ℕ → List LevelRow → List ℕ → Type 0
AreFree mark rows free = AllByRecursion (λ (q : ℕ). (q < mark) × (HasQueue q rows → ⊥)) free

pub record IsKept (capacity instruments : ℕ) (table : List LevelRow) (all : List (List Step)) (side_capacity : ℕ) (unused : List ℕ) (free_capacity : ℕ) : Type 0 where
  pub rows : AreRows (rows_seen capacity instruments table all)
  -- the table has a row for each queue that was ever in use, and each of these queues has a level or is free
  pub mark : length table ≤ capacity
  pub below : AllByRecursion (λ (r : LevelRow). r.queue < length table) (rows_of table all)
  pub sides : length all ≡ 2 * instruments
  pub steps : AreSides table 0 all
  pub room : side_capacity ≡ capacity
  pub free : AreFree (length table) (rows_of table all) unused
  pub free_apart : AreApart unused
  pub free_room : free_capacity ≡ capacity
  pub count : length (rows_of table all) + length unused ≡ length table
