-- The book that queues, levels and TOP make together.
use Rattle.std.specs.Prelude.{ℕ, false, List, map, Option, None, option_map, slice_index_or}
use Rattle.std.specs.List.{range_with_len}
use Rattle.gx_base.specs.declared.order.Side.{Side}
use Rattle.gx_base.specs.declared.order.Side.TheVariants.{Buy, Sell}
use Rattle.gx_base.specs.declared.order.Order.{Order}
use Rattle.gx_base.specs.declared.order.Slot.{Slot}
use Rattle.plain_book.specs.declared.entry.Entry.{Entry}
use Rattle.plain_book.specs.Orders.{is_slot_in}
use Rattle.plain_book.specs.Book as content
use Rattle.order_pool.specs.Queues as pool
use Rattle.price_level.specs.declared.row.LevelRow.{LevelRow}
use Rattle.waiting_stops.specs.declared.queue.Wait.{Wait}
use Rattle.book_side.specs.declared.tops.SideTops.{SideTops}
use Rattle.book_side.specs.Inner.Flat.{flat, queues_of}

-- ---- TOP, which the book keeps beside the orders

abbrev pub no_tops : SideTops
no_tops = record { buy = None; sell = None }

abbrev pub top_of_side : Side → SideTops → Option Slot
top_of_side Buy t = t.buy
top_of_side Sell t = t.sell

abbrev pub top_at : List SideTops → ℕ → Side → Option ℕ
top_at tops instrument side = option_map content.slot_number (top_of_side side (slice_index_or tops instrument no_tops))

-- ---- the content

-- a slot and its order
abbrev pub Held : Type 0
Held = ℕ × Order

-- an order as the book sees it, where T names TOP of each side
abbrev pub marked : (ℕ → Side → Option ℕ) → Held → Entry
marked T h = record { slot = h.0; order = h.1; is_top = is_slot_in (T h.1.instrument h.1.side) h.0 }

-- a stop as the book sees it
abbrev pub unmarked : Held → Entry
unmarked h = record { slot = h.0; order = h.1; is_top = false }

-- what tells whether trades reach a stop
abbrev pub wait_of : Held → Wait
wait_of h = record { slot = record { 0 = h.0 }; side = h.1.side; trigger = h.1.trigger }

-- the orders of the levels, where P names those of each queue
abbrev pub resting_of : (ℕ → Side → Option ℕ) → (ℕ → List Held) → List LevelRow → List Entry
resting_of T P rs = flat (λ q. map (marked T) (P q)) (queues_of rs)

-- the queues of the stops come after those of the levels
abbrev pub waiting_of : (ℕ → List Held) → ℕ → ℕ → List Entry
waiting_of P capacity instruments = flat (λ q. map unmarked (P q)) (range_with_len capacity instruments)

abbrev pub content_of : ℕ → ℕ → (ℕ → Side → Option ℕ) → (ℕ → List Held) → List LevelRow → content.Book
content_of capacity instruments T P rs = record {
  capacity = capacity;
  instruments = instruments;
  resting = resting_of T P rs;
  waiting = waiting_of P capacity instruments;
}

abbrev pub book_of : ℕ → ℕ → List SideTops → List (List Held) → List LevelRow → content.Book
book_of capacity instruments tops queues rs = content_of capacity instruments (top_at tops) (pool.entries_at queues) rs
