-- The levels of all sides: those of buy and of sell of the first instrument, then those of the next.
use Rattle.std.specs.Prelude.{◌≡◌, ℕ, ◌+◌, ◌*◌, List, [], ◌∷◌, ◌++◌, slice_index_or}
use Prim.Native.Nat.{suc}
use Rattle.std.specs.List.{AllByRecursion}
use Rattle.gx_base.specs.declared.order.Side.{Side}
use Rattle.gx_base.specs.declared.order.Side.TheVariants.{Buy, Sell}
use Rattle.price_level.specs.declared.row.LevelRow.{LevelRow}
use Rattle.price_chunks.specs.declared.place.Step.{Step}
use Rattle.price_level.specs.Rows.{no_row}

-- where a side stands among all sides
abbrev pub side_number : ℕ → Side → ℕ
side_number instrument Buy = 2 * instrument
side_number instrument Sell = 2 * instrument + 1

-- ---- their rows

-- the row under this queue
abbrev pub row_in : List LevelRow → ℕ → LevelRow
row_in table q = slice_index_or table q no_row

-- the rows of a side, the best price first
abbrev pub rows_of_side : List LevelRow → List Step → List LevelRow
rows_of_side table [] = []
rows_of_side table (s ∷ steps) = rows_of_side table steps ++ row_in table s.queue ∷ []

-- the rows of all sides, in book order
abbrev pub rows_of : List LevelRow → List (List Step) → List LevelRow
rows_of table [] = []
rows_of table (l ∷ all) = rows_of_side table l ++ rows_of table all

abbrev pub row_number : LevelRow → ℕ
row_number r = side_number r.instrument r.side

-- a level of the side k, and its row
pub record IsStep (table : List LevelRow) (k : ℕ) (s : Step) : Type 0 where
  pub side : row_number (row_in table s.queue) ≡ k
  pub price : (row_in table s.queue).price ≡ s.price
  pub queue : (row_in table s.queue).queue ≡ s.queue
  pub leaves : (row_in table s.queue).leaves ≡ s.leaves

-- these are the sides from the number k on
abbrev pub AreSides : List LevelRow → ℕ → List (List Step) → Type 0
AreSides table k [] = Unit {0}
AreSides table k (l ∷ all) = AllByRecursion (IsStep table k) l × AreSides table (suc k) all
