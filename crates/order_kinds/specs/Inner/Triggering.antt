-- What the functions do that trigger stops: what the trades so far come to, and the stop that is triggered next.
use Rattle.std.specs.Prelude.{◌≡◌, ℕ, ◌+◌, ◌*◌, ◌^◌, ◌≤◌, ◌<◌, false, int_lt, if◌then◌else◌, List, length, Option, Some, None}
use Rattle.gx_base.specs.declared.price.Price.{Price}
use Rattle.gx_base.specs.declared.order.Order.{Order}
use Rattle.gx_base.specs.declared.order.Desk.{Desk}
use Rattle.gx_base.specs.Emits.{EmitMeanings, Emits}
use Rattle.step_config.specs.declared.step.Step.{Step}
use Rattle.plain_book.specs.Orders.{order_of, is_live}
use Rattle.plain_book.specs.Book.{Book, IsFitToWait, live_orders}
use Rattle.plain_book.specs.Match.{MatchState}
use Rattle.plain_book.specs.Matches.{MatchAt, start_at, IsNow}
use Rattle.order_kinds.specs.declared.core_state.TheConstants.{MOST_MESSAGES}
use Rattle.order_kinds.specs.Cores.{AreCountsWithin}
use Rattle.order_kinds.specs.Entering.{entered, last_fill}
use Rattle.order_kinds.specs.Stops.{Naming, stop_triggered}

-- ---- trades

-- the range of some prices and of further ones
abbrev pub joined : Option (Price × Price) → Option (Price × Price) → Option (Price × Price)
joined range None = range
joined None (Some more) = Some more
joined (Some range) (Some more) =
    Some (if int_lt more.0.0 range.0.0 then more.0 else range.0, if int_lt range.1.0 more.1.0 then more.1 else range.1)

-- the price of the last of some trades and of further ones
abbrev pub later_price : Option Price → Option Price → Option Price
later_price last None = last
later_price last (Some price) = Some price

-- an order came in, under some names with which slots stay apart, and its trades and those of the stops that it triggered
-- end with this price
pub record ComesIn {E : Type 0} (m : EmitMeanings E) (Apart : Naming → MatchState → Type 0) (part : Naming → MatchState → MatchState) (before after : MatchAt E) (price : Option Price) : Type 0 where
  pub naming : Naming
  pub apart : Apart naming (start_at before)
  pub now : IsNow (part naming (start_at before)) after.book after.desk after.taker
  pub emits : Emits m before.out after.out (part naming (start_at before)).events
  pub last : price ≡ last_fill (part naming (start_at before)).events

-- ---- the waiting stops

-- the waiting stop of a slot is triggered, and entered
abbrev pub slot_entered : ℕ → ℕ → List Step → MatchState → MatchState
slot_entered slot name steps m =
    entered name steps (stop_triggered (record { slot = slot; order = order_of slot m.book.waiting; is_top = false }) m)

-- ---- room

-- a stop can wait
pub record CanWait (b : Book) (o : Order) : Type 0 where
  pub room : length (live_orders b) < b.capacity
  pub unnamed : is_live o.firm o.id (live_orders b) ≡ false
  pub fit : IsFitToWait b.instruments o

-- Each counter has room for all reports of a message that is applied, of which one was counted: there are few enough
-- orders.
pub record HasRoomToComeIn (b : Book) (desk : Desk) : Type 0 where
  pub messages : desk.messages ≤ MOST_MESSAGES
  pub orders : desk.orders ≤ MOST_MESSAGES
  pub counts : AreCountsWithin (MOST_MESSAGES * 2 ^ 38 + 1) desk
  pub few : 2000000 * (length b.waiting + 1) ≤ 2 ^ 38

-- each counter has room for the reports of one stop that is triggered
pub record HasRoomToTrigger (desk : Desk) : Type 0 where
  pub messages : desk.messages ≤ MOST_MESSAGES
  pub orders : desk.orders ≤ MOST_MESSAGES
  pub counts : AreCountsWithin (MOST_MESSAGES * 2 ^ 38 + 2 ^ 39) desk
