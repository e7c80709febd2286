-- The waiting stops that trades reach. Our own rule.
use Rattle.std.specs.Prelude.{ℕ, Bool, List, filter}
use Rattle.gx_base.specs.declared.price.Price.{Price}
pub use Rattle.book_order.specs.Reached.{is_reached, stop_end, is_in_reach}
use Rattle.plain_book.specs.declared.entry.Entry.{Entry}
use Rattle.plain_book.specs.Orders.{stops_of}

-- a stop is reached if some price of the range reaches its stop price
abbrev pub is_reached_by : Price × Price → Entry → Bool
is_reached_by range e = is_in_reach range e.order.side e.order.trigger

-- the waiting stops of an instrument that a range reaches, in the order in which they came
abbrev pub reached_stops : ℕ → Price × Price → List Entry → List Entry
reached_stops instrument range waiting = filter (is_reached_by range) (stops_of instrument waiting)
