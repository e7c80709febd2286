-- The levels that events tell of, and the one that a replace takes an order from: our own rule.
use Rattle.std.specs.Prelude.{◌≡◌, ℕ, Bool, false, List, length, Option, Some, None}
use Rattle.std.specs.List.{list_any}
use Rattle.gx_base.specs.declared.event.Event.{Event}
use Rattle.gx_base.specs.declared.event.Event.TheVariants.{Accepted, Triggered, Fill, Cancelled, Expired, Replaced, RefusedNew, RefusedChange, RefusedSession}
use Rattle.plain_book.specs.declared.entry.Entry.{Entry}
use Rattle.fix_request.specs.declared.request.Request.{Request}
use Rattle.fix_request.specs.declared.request.Request.TheVariants.{New, Cancel, Replace, Session, Passed, Refused}
use Rattle.plain_book.specs.Orders.{Level, level_of, is_level, order_of, orders_at, shown_at, slot_named}
use Rattle.plain_book.specs.Book.{live_orders}
use Rattle.order_kinds.specs.State.{State}

-- ---- what events tell of

-- an event tells of the level of its order; a refusal has no order that it changes
abbrev pub tells_of : Level → Event → Bool
tells_of k (Accepted head o) = is_level (level_of o) k
tells_of k (Triggered head o) = is_level (level_of o) k
tells_of k (Fill head o lots price step trade) = is_level (level_of o) k
tells_of k (Cancelled head o gone by cause) = is_level (level_of o) k
tells_of k (Expired head o gone) = is_level (level_of o) k
tells_of k (Replaced head o old before) = is_level (level_of o) k
tells_of k (RefusedNew head new fault) = false
tells_of k (RefusedChange head id old number filled replace fault) = false
tells_of k (RefusedSession head seq tag reason rule) = false

-- one of some events tells of a level
abbrev pub is_told : Level → List Event → Bool
is_told k events = list_any (tells_of k) events

-- ---- what a replace asks

-- the order of a slot is of this level; no order is of none
abbrev pub is_slot_at : Level → Option ℕ → List Entry → Bool
is_slot_at k None es = false
is_slot_at k (Some slot) es = is_level (level_of (order_of slot es)) k

-- A replace asks for an order of this level: the live order of the sender's firm with the old id. The event of the replace
-- names the level that the order has then, and so may not tell of the one that it leaves.
abbrev pub asks_at : Level → Request → State → Bool
asks_at k (Replace order) state = is_slot_at k (slot_named order.sender.firm order.old (live_orders state.book)) (live_orders state.book)
asks_at k (New order) state = false
asks_at k (Cancel order) state = false
asks_at k (Session change) state = false
asks_at k (Passed sender) state = false
asks_at k (Refused refusal) state = false

-- ---- levels that stay

-- a level shows as much as before, of as many orders
pub record IsSameLevel (k : Level) (old new : List Entry) : Type 0 where
  pub shown : shown_at k new ≡ shown_at k old
  pub orders : length (orders_at k new) ≡ length (orders_at k old)
