-- What is true of the parts of a linked book at every moment.
use Rattle.std.specs.Prelude.{◌≡◌, ℕ, ◌+◌, ◌^◌, ◌<◌, ◌≤◌, List, [], length, sum_by, Option, None, Some, option_map, map as each}
use Rattle.std.specs.List.{AllByRecursion}
use Rattle.gx_base.specs.declared.order.Side.{Side}
use Rattle.plain_book.specs.declared.entry.Entry.{Entry}
use Rattle.plain_book.specs.Orders.{level_of, side_of, slot_named, HasSlot}
use Rattle.plain_book.specs.Book as content
use Rattle.order_pool.specs.Queues as pool
use Rattle.std.specs.FinMap as map
use Rattle.id_table.specs.Ids.{Ids, key}
use Rattle.price_level.specs.declared.row.LevelRow.{LevelRow}
use Rattle.price_level.specs.Rows.{Rows, level_of_row, HasQueue}
use Rattle.waiting_stops.specs.Waits.{StopLists, list_at}
use Rattle.book_side.specs.declared.tops.SideTops.{SideTops}
use Rattle.book_side.specs.Inner.Content.{top_at, Held, wait_of, resting_of, book_of}

-- TOP, where there is one, is an order of the side
abbrev pub IsTopOf : Option ℕ → List Entry → Type 0
IsTopOf None es = Unit {0}
IsTopOf (Some s) es = HasSlot s es

-- the orders of a queue stand at the level, whose sums are theirs
pub record IsSummed (P : ℕ → List Held) (r : LevelRow) : Type 0 where
  pub at : AllByRecursion (λ (h : Held). level_of h.1 ≡ level_of_row r) (P r.queue)
  pub count : r.count ≡ length (P r.queue)
  pub shown : r.shown ≡ sum_by (λ (h : Held). h.1.shown) (P r.queue)
  pub leaves : r.leaves ≡ sum_by (λ (h : Held). h.1.leaves) (P r.queue)

pub record IsLinked (capacity instruments : ℕ) (p : pool.Queues) (ids : Ids) (levels : Rows) (tops : List SideTops) : Type 0 where
  -- the parts have room for as much as the book
  pub slots : p.capacity ≡ capacity
  pub many : length p.queues ≡ capacity + instruments
  pub level_room : levels.capacity ≡ capacity
  pub listed : levels.instruments ≡ instruments
  pub id_room : ids.capacity ≡ capacity
  pub sides : length tops ≡ instruments
  -- the numbers of the queues are numbers of 32 bits
  pub fits : capacity + instruments < 2 ^ 32
  -- what is true of every book
  pub right : content.IsRight (book_of capacity instruments tops p.queues levels.rows)
  pub summed : AllByRecursion (IsSummed (pool.entries_at p.queues)) levels.rows
  -- a level has orders
  pub some : AllByRecursion (λ (r : LevelRow). 1 ≤ r.count) levels.rows
  -- a queue of no level is empty
  pub unused : (q : ℕ) → q < capacity → (HasQueue q levels.rows → ⊥) → pool.entries_at p.queues q ≡ []
  -- each instrument has a queue for its stops
  pub stops : (i : ℕ) → i < instruments → AllByRecursion (λ (h : Held). h.1.instrument ≡ i) (pool.entries_at p.queues (capacity + i))
  pub top : (i : ℕ) → (s : Side) → IsTopOf (top_at tops i s) (side_of i s (resting_of (top_at tops) (pool.entries_at p.queues) levels.rows))
  -- the pool and the ids have the live orders
  pub live : pool.live_of p ≡ length (content.live_orders (book_of capacity instruments tops p.queues levels.rows))
  pub count : map.len ids.slots ≡ length (content.live_orders (book_of capacity instruments tops p.queues levels.rows))
  pub named : (f : ℕ) → (i : List ℕ) → option_map content.slot_number (map.get ids.slots (key f i)) ≡ slot_named f i (content.live_orders (book_of capacity instruments tops p.queues levels.rows))

-- the stops of each instrument stand once more, in the order of its queue
pub record HasStops (capacity instruments : ℕ) (p : pool.Queues) (stops : StopLists) : Type 0 where
  pub room : stops.capacity ≡ capacity
  pub sides : length stops.lists ≡ instruments
  pub same : (i : ℕ) → i < instruments → list_at stops.lists i ≡ each wait_of (pool.entries_at p.queues (capacity + i))
