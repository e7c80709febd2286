-- What the functions of a core do: one part of the engine's step each, on the orders as the book keeps them.
use Rattle.std.specs.Prelude.{◌≡◌, ℕ, ◌+◌, ◌*◌, ◌^◌, ◌<◌, ◌≤◌, false, List, length, slice_index, Option, Some, None}
use Rattle.gx_base.specs.declared.price.Price.{Price}
use Rattle.gx_base.specs.declared.order.Side.{Side}
use Rattle.gx_base.specs.declared.order.Side.TheVariants.{Buy, Sell}
use Rattle.gx_base.specs.declared.order.Order.{Order}
use Rattle.gx_base.specs.declared.order.Desk.{Desk}
use Rattle.gx_base.specs.declared.event.Event.{Event}
use Rattle.gx_base.specs.Emits.{EmitMeanings, Emits}
use Rattle.plain_book.specs.Orders.{is_live}
use Rattle.plain_book.specs.Book.{Book, IsFitToRest, live_orders}
use Rattle.plain_book.specs.Match.{MatchState}
use Rattle.plain_book.specs.Matches.{MatchAt, start_at, IsNow}
use Rattle.order_kinds.specs.State.{State}
use Rattle.order_kinds.specs.Stops.{Naming}
use Rattle.order_kinds.specs.Entering.{as_limit}
use Rattle.order_kinds.specs.declared.core_state.TheConstants.{MOST_MESSAGES}
use Rattle.order_kinds.specs.Cores.{AreCountsWithin}

-- a part of a match was done, in which orders may come to rest under some names
pub record TakesPart {E N : Type 0} (m : EmitMeanings E) (part : N → MatchState → MatchState) (before after : MatchAt E) : Type 0 where
  pub name : N
  pub now : IsNow (part name (start_at before)) after.book after.desk after.taker
  pub emits : Emits m before.out after.out (part name (start_at before)).events

-- A part of the engine's step was taken, with some names for the orders that come to rest or wait. With these their slots
-- stay apart, as `apart` says.
pub record Takes {E : Type 0} (m : EmitMeanings E) (Apart : State → Naming → Type 0) (step : Naming → State → State × List Event) (old new : State) (before after : E) : Type 0 where
  pub naming : Naming
  pub apart : Apart old naming
  pub state : new ≡ (step naming old).0
  pub emits : Emits m before after (step naming old).1

-- ---- counters

-- no counter of reports, trades and lines rose by more than so many, and the others stayed
pub record CountsRose (most : ℕ) (old new : Desk) : Type 0 where
  pub messages : new.messages ≡ old.messages
  pub orders : new.orders ≡ old.orders
  pub trades : new.trades ≤ old.trades + most
  pub reports : new.reports ≤ old.reports + most
  pub lines : (place : ℕ) → slice_index new.lines place ≤ slice_index old.lines place + most

-- a message was counted, which is applied next
pub record IsCounted (desk : Desk) : Type 0 where
  pub orders : desk.orders + 1 ≤ desk.messages
  pub messages : desk.messages ≤ MOST_MESSAGES
  pub counts : AreCountsWithin (MOST_MESSAGES * 2 ^ 38) desk

-- ---- orders

-- what is left of the incoming order can come to rest
pub record CanRest (b : Book) (o : Order) : Type 0 where
  pub room : length (live_orders b) < b.capacity
  pub unnamed : is_live o.firm o.id (live_orders b) ≡ false
  pub fit : IsFitToRest b.instruments (as_limit o)

-- the price of the last trade of a sweep: prices never improve
abbrev pub last_in_range : Side → Option (Price × Price) → Option Price
last_in_range side None = None
last_in_range Buy (Some range) = Some range.1
last_in_range Sell (Some range) = Some range.0
