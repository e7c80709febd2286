-- How far a walk along a level goes: the orders that it refreshes stand after those that it has still to meet.
use Rattle.std.specs.Prelude.{ℕ, Bool, ◌&&◌, ◌==◌, nat_lt, if◌then◌else◌, Option, Some, None, is_none}
use Rattle.gx_base.specs.declared.order.Order.{Order}
use Rattle.plain_book.specs.Orders.{is_slot_in}

-- all that an order shows is traded, and more of it is open
abbrev pub is_refreshed_by : ℕ → Order → Bool
is_refreshed_by lots o = (o.shown == lots) && nat_lt lots o.leaves

-- the first order that was refreshed, once the order of a slot has traded so many lots
abbrev pub end_after : Option ℕ → ℕ → ℕ → Order → Option ℕ
end_after end slot lots o = if is_none end && is_refreshed_by lots o then Some slot else end

-- the slot, unless the walk ends there
abbrev pub before_end : Option ℕ → Option ℕ → Option ℕ
before_end end None = None
before_end end (Some slot) = if is_slot_in end slot then None else Some slot
