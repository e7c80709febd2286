-- What the private steps of the calls make.
use Rattle.std.specs.Prelude.{◌≡◌, ℕ, ◌-◌, ◌<◌, ◌≤◌, Bool, List, ◌==◌, ◌&&◌, if◌then◌else◌, Option, None, Some, ◌⊎◌}
use Rattle.std.specs.List.{AllByRecursion}
use Rattle.std.specs.Bool.{MatchBool}
use Rattle.gx_base.specs.declared.order.Side.{Side}
use Rattle.gx_base.specs.declared.order.Order.{Order}
use Rattle.plain_book.specs.declared.entry.Entry.{Entry}
use Rattle.plain_book.specs.Orders.{Level, is_side, with_order}
use Rattle.plain_book.specs.Book as content
use Rattle.price_level.specs.declared.row.LevelRow.{LevelRow}
use Rattle.price_level.specs.Rows.{Rows, level_of_row, HasQueue, row_of, without_row, with_sums}
use Rattle.book_side.specs.declared.tops.SideTops.{SideTops}
use Rattle.book_side.specs.Inner.Content.{top_at}

-- the same book with other orders at rest
abbrev pub resting_as : content.Book → List Entry → content.Book
resting_as b es = record b { resting = es }

-- the order of a slot is now o, whether it rests or waits
abbrev pub book_reordered : ℕ → Order → content.Book → content.Book
book_reordered slot o b = record b { resting = with_order slot o b.resting; waiting = with_order slot o b.waiting }

-- no order of an earlier instrument
abbrev pub AreFrom : ℕ → List Entry → Type 0
AreFrom instrument es = AllByRecursion (λ (e : Entry). instrument ≤ e.order.instrument) es

-- ---- a level that is found or made

pub record IsEntered (k : Level) (q : ℕ) (old new : Rows) : Type 0 where
  pub capacity : new.capacity ≡ old.capacity
  pub instruments : new.instruments ≡ old.instruments
  pub has : HasQueue q new.rows
  pub at : level_of_row (row_of q new.rows) ≡ k
  pub rest : (new.rows ≡ old.rows) ⊎ ((HasQueue q old.rows → ⊥) × (q < old.capacity) × (without_row q new.rows ≡ old.rows) × ((row_of q new.rows).count ≡ 0) × ((row_of q new.rows).shown ≡ 0) × ((row_of q new.rows).leaves ≡ 0))

-- ---- an order comes to rest

-- TOP of one side is another
abbrev pub IsTopSet : List SideTops → List SideTops → ℕ → Side → Option ℕ → Type 0
IsTopSet old new instrument side top =
    (i : ℕ) → (s : Side) → top_at new i s ≡ (if (i == instrument) && is_side s side then top else top_at old i s)

abbrev pub IsTopSame : List SideTops → List SideTops → Type 0
IsTopSame old new = (i : ℕ) → (s : Side) → top_at new i s ≡ top_at old i s

-- the order of a slot ends TOP of its side, and is TOP where it may
abbrev pub IsTopPlaced : Bool → Bool → ℕ → Order → List SideTops → List SideTops → Type 0
IsTopPlaced best enough slot o old new = MatchBool best (IsTopSet old new o.instrument o.side (if enough then Some slot else None)) (IsTopSame old new)

-- ---- an order leaves its level

abbrev pub dropped : ℕ → Option ℕ → Option ℕ
dropped s None = None
dropped s (Some t) = if t == s then None else Some t

-- the order of a slot is TOP no more
abbrev pub IsTopDropped : ℕ → Order → List SideTops → List SideTops → Type 0
IsTopDropped slot o old new = IsTopSet old new o.instrument o.side (dropped slot (top_at old o.instrument o.side))

-- the sums of a level without an order of it
abbrev pub lowered : ℕ → Order → List LevelRow → List LevelRow
lowered q o rs =
    let r = row_of q rs in with_sums q (r.count - 1) (r.shown - o.shown) (r.leaves - o.leaves) rs

abbrev pub rows_left : ℕ → Order → List LevelRow → List LevelRow
rows_left q o rs = if (row_of q rs).count == 1 then without_row q (lowered q o rs) else lowered q o rs
