-- What holds of every core, and when a core fits a product.
use Rattle.std.specs.Prelude.{◌≡◌, ℕ, ◌*◌, ◌^◌, ◌<◌, ◌≤◌, unsigned_abs, List, length, slice_index}
use Rattle.std.specs.List.{AllByRecursion}
use Rattle.gx_base.specs.declared.limits.TheConstants.{MOST_PRICE_UNITS}
use Rattle.gx_base.specs.declared.price.Price.{Price}
use Rattle.gx_base.specs.declared.order.Order.{Order}
use Rattle.gx_base.specs.declared.order.Desk.{Desk}
use Rattle.gx_base.specs.declared.event.Event.{Event}
use Rattle.gx_base.specs.Emits.{EmitMeanings, Emits}
use Rattle.product_file.specs.Products.{ProductLists}
use Rattle.fix_request.specs.declared.request.Request.{Request}
use Rattle.plain_book.specs.declared.entry.Entry.{Entry}
use Rattle.plain_book.specs.Book.{AllDiffer, live_orders}
use Rattle.plain_book.specs.Numbers.{book_numbered}
use Rattle.order_kinds.specs.declared.core_state.TheConstants.{MOST_MESSAGES}
use Rattle.order_kinds.specs.State.{State, state_numbered}
use Rattle.order_kinds.specs.Stops.{Naming}
use Rattle.order_kinds.specs.Step.{with_message, request_step_as, request_step}

-- ---- the counters

-- each counter of reports, trades and lines is within a bound
pub record AreCountsWithin (bound : ℕ) (desk : Desk) : Type 0 where
  pub trades : desk.trades ≤ bound
  pub reports : desk.reports ≤ bound
  pub lines : (place : ℕ) → slice_index desk.lines place ≤ bound

-- what holds of the counters at every moment: no more orders than messages, and no other counter above 2 ^ 38 for each message
pub record AreCounters (desk : Desk) : Type 0 where
  pub orders : desk.orders ≤ desk.messages
  pub messages : desk.messages ≤ MOST_MESSAGES
  pub counts : AreCountsWithin (desk.messages * 2 ^ 38) desk

-- ---- a product

-- a price within the range, either way
abbrev pub IsInRange : Price → Type 0
IsInRange price = unsigned_abs price.0 ≤ MOST_PRICE_UNITS

-- an order whose instrument and firm are listed, with its prices in range
pub record IsListedOrder (product : ProductLists) (o : Order) : Type 0 where
  pub instrument : o.instrument < length product.names.instruments
  pub firm : o.firm < length product.names.firms
  pub price : IsInRange o.price
  pub trigger : IsInRange o.trigger

-- A core has the instruments and the room of a product, a last trade price or none for each instrument, and each live order
-- is one that the product lists.
pub record FitsProduct (product : ProductLists) (state : State) : Type 0 where
  pub capacity : state.book.capacity ≡ product.max_orders
  pub instruments : state.book.instruments ≡ length product.names.instruments
  pub prices : length state.last ≡ length product.names.instruments
  pub orders : AllByRecursion (λ (e : Entry). IsListedOrder product e.order) (live_orders state.book)

-- ---- order numbers

-- no two live orders have one number, and none has a number above the last one given
pub record AreNumbered (state : State) : Type 0 where
  pub differ : AllDiffer (live_orders (book_numbered state.book))
  pub given : AllByRecursion (λ (e : Entry). e.order.number ≤ state.desk.orders) (live_orders state.book)

-- ---- what applying a request does

-- A core took the step of the engine: with each order named by its number, its state is the one after the request, which
-- counts as a message, and its events were put. Order numbers still differ.
pub record TakesStep {E : Type 0} (m : EmitMeanings E) (product : ProductLists) (request : Request) (old new : State) (before after : E) : Type 0 where
  pub state : state_numbered new ≡ (request_step product request (with_message (state_numbered old))).0
  pub emits : Emits m before after (request_step product request (with_message (state_numbered old))).1
  pub numbered : AreNumbered new

-- A core took the step with some names of the orders that come to rest or wait, whatever their numbers are: its state is the
-- one after the request, which counts as a message, and the events of this step were put, one after the other.
pub record PutsStep {E : Type 0} (m : EmitMeanings E) (product : ProductLists) (request : Request) (old new : State) (before after : E) : Type 0 where
  pub naming : Naming
  pub state : new ≡ (request_step_as naming product request (with_message old)).0
  pub events : List Event
  pub of_step : events ≡ (request_step_as naming product request (with_message old)).1
  pub emits : Emits m before after events

-- some events were put, one after the other
pub record PutsEvents {E : Type 0} (m : EmitMeanings E) (before after : E) : Type 0 where
  pub events : List Event
  pub emits : Emits m before after events
