-- The laws of messages: markets are apart, an order that is out stays out, and no stop is left reached.
use Rattle.std.specs.Prelude.{◌≡◌, ◌≢◌, ℕ, ◌≤◌, true, false, List, map, filter, Option, Some, IfSome, ◌⊎◌}
use Rattle.std.specs.List.{AllByRecursion}
use Rattle.gx_base.specs.declared.price.Price.{Price}
use Rattle.gx_base.specs.declared.order.Side.{Side}
use Rattle.gx_base.specs.declared.order.Order.{Order}
use Rattle.gx_base.specs.declared.event.Event.{Event}
use Rattle.gx_base.specs.declared.event.Event.TheVariants.{Fill, Expired}
use Rattle.gx_base.specs.declared.trading.Trading.TheVariants.{Open, Closed}
use Rattle.plain_book.specs.declared.entry.Entry.{Entry}
use Rattle.fix_request.specs.declared.request.CancelOrder.{CancelOrder}
use Rattle.plain_book.specs.Orders.{is_of, HasSlot, order_of, side_of, slot_of, top_of}
use Rattle.plain_book.specs.Book.{live_orders}
use Rattle.order_kinds.specs.State.{State}
use Rattle.order_kinds.specs.OrderRules.{is_reached, last_of}
use Rattle.order_kinds.specs.NewOrders.{may_rest}
use Rattle.order_kinds.specs.Cancels.{cancelled}
use Rattle.order_kinds.specs.TradingSessions.{stays}
use Rattle.order_kinds.specs.Balance.{order_in}

-- ---- markets are apart

-- the market of an instrument, its resting orders and its waiting stops in their order and its last trade price, is as it was
pub record IsSameMarket (instrument : ℕ) (old new : State) : Type 0 where
  pub resting : filter (is_of instrument) new.book.resting ≡ filter (is_of instrument) old.book.resting
  pub waiting : filter (is_of instrument) new.book.waiting ≡ filter (is_of instrument) old.book.waiting
  pub last : last_of instrument new.last ≡ last_of instrument old.last

-- an execution report on an order of an instrument, or no such report
abbrev pub IsReportOn : ℕ → Event → Type 0
IsReportOn instrument event = IfSome (order_in event) (λ o. o.instrument ≡ instrument)

-- A message has one instrument: each of its execution reports is on an order of it, and the other markets are as they were.
pub record HasOneInstrument (old : State) (step : State × List Event) : Type 0 where
  pub instrument : ℕ
  pub reports : AllByRecursion (IsReportOn instrument) step.1
  pub others : (other : ℕ) → other ≢ instrument → IsSameMarket other old step.0

-- A close takes the orders out of the market of an instrument that are not good till cancelled, and changes nothing else of it.
pub record IsClosedMarket (instrument : ℕ) (old new : State) : Type 0 where
  pub resting : filter (is_of instrument) new.book.resting ≡ filter stays (filter (is_of instrument) old.book.resting)
  pub waiting : filter (is_of instrument) new.book.waiting ≡ filter stays (filter (is_of instrument) old.book.waiting)
  pub last : last_of instrument new.last ≡ last_of instrument old.last

abbrev pub IsExpiry : Event → Type 0
IsExpiry (Expired head o gone) = Unit {0}
IsExpiry _ = ⊥

-- A message closes the market: each report is on an order that expires, and each instrument's market closes by the same rule.
pub record ClosesMarkets (old : State) (step : State × List Event) : Type 0 where
  pub was : old.trading ≡ Open
  pub is : step.0.trading ≡ Closed
  pub reports : AllByRecursion IsExpiry step.1
  pub each : (instrument : ℕ) → IsClosedMarket instrument old step.0

-- A message has one instrument, or it closes the market.
abbrev pub KeepsMarketsApart : State → State × List Event → Type 0
KeepsMarketsApart old step = HasOneInstrument old step ⊎ ClosesMarkets old step

-- the resting orders by their numbers, without the mark of TOP
abbrev pub unmarked : List Entry → List (ℕ × Order)
unmarked es = map (λ e. (e.slot, e.order)) es

-- An amendment changes nothing of the market of an instrument but who is TOP.
pub record IsAmendedMarket (instrument : ℕ) (old new : State) : Type 0 where
  pub resting : unmarked (filter (is_of instrument) new.book.resting) ≡ unmarked (filter (is_of instrument) old.book.resting)
  pub waiting : filter (is_of instrument) new.book.waiting ≡ filter (is_of instrument) old.book.waiting
  pub last : last_of instrument new.last ≡ last_of instrument old.last

-- ---- out means out

-- an order has had this number, and is no live one any more
pub record IsOut (number : ℕ) (state : State) : Type 0 where
  pub given : number ≤ state.desk.orders
  pub gone : HasSlot number (live_orders state.book) → ⊥

-- no execution report on the order of this number
abbrev pub IsNotOn : ℕ → Event → Type 0
IsNotOn number event = IfSome (order_in event) (λ o. o.number ≢ number)

-- An order that is out is not reported again, and stays out.
pub record KeepsOut (number : ℕ) (step : State × List Event) : Type 0 where
  pub reports : AllByRecursion (IsNotOn number) step.1
  pub out : IsOut number step.0

-- ---- no stop is left reached

-- the last trade price of its instrument, if there was a trade, does not reach a stop
abbrev pub IsUnreached : List (Option Price) → Entry → Type 0
IsUnreached last e = IfSome (last_of e.order.instrument last) (λ price. is_reached e.order.side e.order.trigger price ≡ false)

abbrev pub IsNoStopReached : State → Type 0
IsNoStopReached state = AllByRecursion (IsUnreached state.last) state.book.waiting

-- a fill reaches none of some stops of its instrument
abbrev pub ReachesNone : List Entry → Event → Type 0
ReachesNone waiting (Fill head o lots price step trade) =
    AllByRecursion (λ (e : Entry). e.order.instrument ≡ o.instrument → is_reached e.order.side e.order.trigger price ≡ false) waiting
ReachesNone waiting _ = Unit {0}

-- no fill of a message reaches a stop that waits after it
abbrev pub LeavesNoneReached : State × List Event → Type 0
LeavesNoneReached step = AllByRecursion (ReachesNone step.0.book.waiting) step.1

-- ---- cancels are never refused

-- The live order of this slot, which the firm has named so, is cancelled, and is out.
pub record IsCancelled (request : CancelOrder) (state : State) (step : State × List Event) : Type 0 where
  pub slot : ℕ
  pub live : HasSlot slot (live_orders state.book)
  pub firm : (order_of slot (live_orders state.book)).firm ≡ request.sender.firm
  pub is : step ≡ cancelled request slot state
  pub out : IsOut slot step.0

-- ---- orders that rest

-- an order that may rest, and has no minimum any more
pub record IsFree (e : Entry) : Type 0 where
  pub life : may_rest e.order.life ≡ true
  pub min : e.order.min ≡ 0

-- ---- TOP

-- The TOP order of each side, if there is one, is the first in line there.
abbrev pub IsTopFirst : List Entry → Type 0
IsTopFirst es = (instrument : ℕ) (side : Side) (slot : ℕ) → top_of instrument side es ≡ Some slot → slot_of (side_of instrument side es) ≡ Some slot
