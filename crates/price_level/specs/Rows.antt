-- The price levels of a book as rows, each with what its orders sum to: what is asked of them, what they become, and what is
-- true of them at every moment.
use Rattle.std.specs.Prelude.{◌≡◌, ◌≢◌, ℕ, ◌<◌, Bool, true, not, ◌&&◌, pos, ◌==◌, if◌then◌else◌, List, [], ◌∷◌, ◌++◌, filter, map, sum_by, Option, Some, None, ◌⊎◌}
use Rattle.std.specs.List.{AllByRecursion}
use Rattle.gx_base.specs.declared.price.Price.{Price}
use Rattle.gx_base.specs.declared.order.Side.{Side}
use Rattle.gx_base.specs.declared.order.Side.TheVariants.{Buy}
use Rattle.book_order.specs.Levels.{Level, is_side, is_level, is_before, is_better, is_within}
use Rattle.price_level.specs.declared.row.LevelRow.{LevelRow}

pub record Rows : Type 0 where
  -- the greatest number of levels
  pub capacity : ℕ
  pub instruments : ℕ
  -- the levels in book order
  pub rows : List LevelRow

abbrev pub no_rows : ℕ → ℕ → Rows
no_rows capacity instruments = record { capacity = capacity; instruments = instruments; rows = [] }

-- ---- what is asked of them

abbrev pub level_of_row : LevelRow → Level
level_of_row r = record { instrument = r.instrument; side = r.side; price = r.price.0 }

abbrev pub row_on : ℕ → Side → LevelRow → Bool
row_on instrument side r = (r.instrument == instrument) && is_side r.side side

abbrev pub row_at : Level → LevelRow → Bool
row_at k r = is_level (level_of_row r) k

abbrev pub price_of_row : List LevelRow → Option Price
price_of_row [] = None
price_of_row (r ∷ rs) = Some r.price

abbrev pub queue_of_row : List LevelRow → Option ℕ
queue_of_row [] = None
queue_of_row (r ∷ rs) = Some r.queue

-- the best price of a side: the rows are in book order, so it is that of the first
abbrev pub best_row : ℕ → Side → List LevelRow → Option Price
best_row instrument side rs = price_of_row (filter (row_on instrument side) rs)

-- the best of the prices of a side that are worse than this one
abbrev pub worse_row : ℕ → Side → Price → List LevelRow → Option Price
worse_row instrument side price rs = price_of_row (filter (λ r. is_better side price.0 r.price.0) (filter (row_on instrument side) rs))

-- the price of the last of some rows
abbrev pub last_row_or : Price → List LevelRow → Price
last_row_or p [] = p
last_row_or p (r ∷ rs) = last_row_or r.price rs

abbrev pub last_row : List LevelRow → Option Price
last_row [] = None
last_row (r ∷ rs) = Some (last_row_or r.price rs)

-- the worst price of a side: the rows are in book order, so it is that of the last
abbrev pub worst_row : ℕ → Side → List LevelRow → Option Price
worst_row instrument side rs = last_row (filter (row_on instrument side) rs)

-- the worst of the prices of a side that are better than this one
abbrev pub better_row : ℕ → Side → Price → List LevelRow → Option Price
better_row instrument side price rs = last_row (filter (λ r. is_better side r.price.0 price.0) (filter (row_on instrument side) rs))

-- the queue of a level
abbrev pub queue_at : Level → List LevelRow → Option ℕ
queue_at k rs = queue_of_row (filter (row_at k) rs)

-- what is open on a side within a limit
abbrev pub open_rows : ℕ → Side → Price → List LevelRow → ℕ
open_rows instrument side limit rs = sum_by (λ r. r.leaves) (filter (λ r. is_within side limit.0 r.price.0) (filter (row_on instrument side) rs))

-- ---- one level, by its queue

abbrev pub HasQueue : ℕ → List LevelRow → Type 0
HasQueue q [] = ⊥
HasQueue q (r ∷ rs) = (r.queue ≡ q) ⊎ HasQueue q rs

abbrev pub no_row : LevelRow
no_row = record { instrument = 0; side = Buy; price = record { 0 = pos 0 }; queue = 0; count = 0; shown = 0; leaves = 0 }

-- the row of a queue, or `no_row` where there is none
abbrev pub row_of : ℕ → List LevelRow → LevelRow
row_of q [] = no_row
row_of q (r ∷ rs) = if r.queue == q then r else row_of q rs

-- ---- what they become

abbrev pub new_row : ℕ → Side → Price → ℕ → LevelRow
new_row instrument side price q = record { instrument = instrument; side = side; price = price; queue = q; count = 0; shown = 0; leaves = 0 }

-- n comes before r
abbrev pub row_before : LevelRow → LevelRow → Bool
row_before n r = is_before (level_of_row n) (level_of_row r)

-- n comes to its place in book order
abbrev pub placed_row : LevelRow → List LevelRow → List LevelRow
placed_row n rs = filter (λ r. not (row_before n r)) rs ++ n ∷ filter (row_before n) rs

abbrev pub without_row : ℕ → List LevelRow → List LevelRow
without_row q rs = filter (λ r. not (r.queue == q)) rs

abbrev pub resummed : ℕ → ℕ → ℕ → ℕ → LevelRow → LevelRow
resummed q count shown leaves r = if r.queue == q then record r { count = count; shown = shown; leaves = leaves } else r

-- the sums of a level are now these
abbrev pub with_sums : ℕ → ℕ → ℕ → ℕ → List LevelRow → List LevelRow
with_sums q count shown leaves rs = map (resummed q count shown leaves) rs

-- ---- what is true of them

-- each element stands so to each one after it
abbrev pub Pairs : {X : Type 0} → (X → X → Type 0) → List X → Type 0
Pairs R [] = Unit {0}
Pairs R (x ∷ xs) = AllByRecursion (R x) xs × Pairs R xs

-- a comes before b, and has another queue
abbrev pub AreRowsApart : LevelRow → LevelRow → Type 0
AreRowsApart a b = (is_before (level_of_row a) (level_of_row b) ≡ true) × (b.queue ≢ a.queue)

pub record AreRows (b : Rows) : Type 0 where
  pub apart : Pairs AreRowsApart b.rows
  pub below : AllByRecursion (λ (r : LevelRow). (r.queue < b.capacity) × (r.instrument < b.instruments)) b.rows
