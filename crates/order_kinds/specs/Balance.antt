-- The balance of a stream: what its reports tell of quantities adds up, order by order, trade by trade, and in total.
use Rattle.std.specs.Prelude.{◌≡◌, ℕ, ◌+◌, ◌-◌, ◌==◌, if◌then◌else◌, List, [], ◌∷◌, ◌++◌, sum_by, Option, Some, None, IfSome}
use Rattle.std.specs.List.{AllByRecursion}
use Rattle.gx_base.specs.declared.order.Order.{Order}
use Rattle.gx_base.specs.declared.event.Event.{Event}
use Rattle.gx_base.specs.declared.event.Event.TheVariants.{Accepted, Triggered, Fill, Cancelled, Expired, Replaced, RefusedNew, RefusedChange, RefusedSession}
use Rattle.plain_book.specs.declared.entry.Entry.{Entry}
use Rattle.plain_book.specs.Orders.{opposite, order_of}
use Rattle.plain_book.specs.Book.{Book, live_orders}
use Rattle.order_kinds.specs.State.{State}

-- ---- what an execution report tells

-- the quantities of an execution report, in lots
pub record Quantities : Type 0 where
  -- OrderQty (38)
  pub ordered : ℕ
  -- CumQty (14)
  pub filled : ℕ
  -- LeavesQty (151)
  pub leaves : ℕ
  -- the cancelled quantity (9003)
  pub cancelled : ℕ

-- those of an order, of which so many lots are cancelled by what is reported
abbrev pub quantities : Order → ℕ → Quantities
quantities o gone = record { ordered = o.quantity; filled = o.filled; leaves = o.leaves; cancelled = gone }

-- all of an order
abbrev pub all_cancelled : ℕ → Quantities
all_cancelled ordered = record { ordered = ordered; filled = 0; leaves = 0; cancelled = ordered }

-- what an event tells, if it is an execution report: of a new order that is refused, that nothing of it is filled or open
abbrev pub quantities_of : Event → Option Quantities
quantities_of (Accepted head o) = Some (quantities o 0)
quantities_of (Triggered head o) = Some (quantities o 0)
quantities_of (Fill head o lots price step trade) = Some (quantities o 0)
quantities_of (Cancelled head o gone by cause) = Some (quantities o gone)
quantities_of (Expired head o gone) = Some (quantities o gone)
quantities_of (Replaced head o old before) = Some (quantities o 0)
quantities_of (RefusedNew head new fault) = Some (all_cancelled new.quantity)
quantities_of (RefusedChange head id old number filled replace fault) = None
quantities_of (RefusedSession head seq tag reason rule) = None

-- the order of an execution report, if it has a number
abbrev pub order_in : Event → Option Order
order_in (Accepted head o) = Some o
order_in (Triggered head o) = Some o
order_in (Fill head o lots price step trade) = Some o
order_in (Cancelled head o gone by cause) = Some o
order_in (Expired head o gone) = Some o
order_in (Replaced head o old before) = Some o
order_in (RefusedNew head new fault) = None
order_in (RefusedChange head id old number filled replace fault) = None
order_in (RefusedSession head seq tag reason rule) = None

-- what was ordered is filled, open, or cancelled
abbrev pub AddsUp : Event → Type 0
AddsUp event = IfSome (quantities_of event) (λ q. q.ordered ≡ q.filled + (q.leaves + q.cancelled))

-- nothing is open of an order that expired
abbrev pub IsSpent : Event → Type 0
IsSpent (Expired head o gone) = o.leaves ≡ 0
IsSpent _ = Unit {0}

-- ---- one order

-- the lots (32) that an event tells of an order
abbrev pub lots_in : ℕ → Event → ℕ
lots_in number (Fill head o lots price step trade) = if o.number == number then lots else 0
lots_in number _ = 0

abbrev pub lots_of : ℕ → List Event → ℕ
lots_of number events = sum_by (lots_in number) events

-- In each report of an order, what is filled is the sum of its fills up to and with this report.
abbrev pub FillsAddUp : List Event → Type 0
FillsAddUp events =
    (before : List Event) → (event : Event) → (behind : List Event) → events ≡ before ++ event ∷ behind
    → IfSome (order_in event) (λ o. o.filled ≡ lots_of o.number (before ++ event ∷ []))

-- what is open of an order after an event, of which so much was open before it
abbrev pub open_by : ℕ → Option Order → ℕ → ℕ
open_by number None leaves = leaves
open_by number (Some o) leaves = if o.number == number then o.leaves else leaves

abbrev pub last_open_from : ℕ → ℕ → List Event → ℕ
last_open_from number leaves [] = leaves
last_open_from number leaves (event ∷ events) = last_open_from number (open_by number (order_in event) leaves) events

-- what is open of an order by its last report, and 0 where it has none
abbrev pub last_open : ℕ → List Event → ℕ
last_open number events = last_open_from number 0 events

-- what is open of an order in a book that names each order by its number, and 0 where the order is not live
abbrev pub open_in : Book → ℕ → ℕ
open_in book number = (order_of number (live_orders book)).leaves

-- ---- the trades

-- Fills come two by two, neighbours: one of a buy and one of a sell, of equal lots and price. The pairs are numbered from
-- this number on, and this many trades were numbered when they end.
abbrev pub ArePaired : ℕ → ℕ → List Event → Type 0
ArePaired next trades [] = next ≡ trades + 1
ArePaired next trades (Fill head o lots price step trade ∷ (Fill head' o' lots' price' step' trade' ∷ events)) =
    (trade ≡ next) × (trade' ≡ next) × (lots' ≡ lots) × (price' ≡ price) × (o'.side ≡ opposite o.side) × ArePaired (next + 1) trades events
ArePaired next trades (Fill head o lots price step trade ∷ events) = ⊥
ArePaired next trades (event ∷ events) = ArePaired next trades events

-- ---- the totals

-- the quantities of the accepted orders, each changed at its replaces by the new less the old one
abbrev pub entered_with : ℕ → Event → ℕ
entered_with total (Accepted head o) = total + o.quantity
entered_with total (Replaced head o old before) = (total + o.quantity) - before
entered_with total _ = total

abbrev pub entered_from : ℕ → List Event → ℕ
entered_from total [] = total
entered_from total (event ∷ events) = entered_from (entered_with total event) events

abbrev pub total_entered : List Event → ℕ
total_entered events = entered_from 0 events

-- the lots of all fills, so those of each trade twice
abbrev pub filled_in : Event → ℕ
filled_in (Fill head o lots price step trade) = lots
filled_in _ = 0

abbrev pub total_filled : List Event → ℕ
total_filled events = sum_by filled_in events

-- what was open of all orders that were cancelled, and of all that expired
abbrev pub cancelled_in : Event → ℕ
cancelled_in (Cancelled head o gone by cause) = gone
cancelled_in (Expired head o gone) = gone
cancelled_in _ = 0

abbrev pub total_cancelled : List Event → ℕ
total_cancelled events = sum_by cancelled_in events

-- what is open of all live orders
abbrev pub total_open : Book → ℕ
total_open book = sum_by (λ (e : Entry). e.order.leaves) (live_orders book)

-- ---- the law

-- What a stream reports adds up.
pub record AreBalanced (events : List Event) (state : State) : Type 0 where
  -- each execution report: 38 = 14 + 151 + 9003
  pub reports : AllByRecursion AddsUp events
  -- each order that expires: nothing is open of it any more
  pub expired : AllByRecursion IsSpent events
  -- each order: what is filled is the sum of its fills
  pub fills : FillsAddUp events
  -- each order: what is open by its last report is what is open of it in the book
  pub leaves : (number : ℕ) → last_open number events ≡ open_in state.book number
  -- the trades: each in two fills, all numbered from 1 on
  pub trades : ArePaired 1 state.desk.trades events
  -- in total: entered = filled + open + cancelled
  pub total : total_entered events ≡ total_filled events + (total_open state.book + total_cancelled events)
