-- Replaces: which are refused, and what one changes. The rules, their order and their words are our own; that a lowered
-- quantity keeps the place, and a raised one or another price loses it, is the exchange's published outline.
use Rattle.std.specs.Prelude.{ℕ, ◌-◌, min, Bool, true, false, not, ◌&&◌, ◌==◌, nat_le, nat_lt, if◌then◌else◌, List, [], ◌∷◌, Option, Some, None, unwrap_or, Result, Ok, Err, ok_or}
use Rattle.std.specs.Ordering.{int_eq}
use Rattle.gx_base.specs.declared.price.Price.{Price}
use Rattle.gx_base.specs.declared.order.Kind.{Kind}
use Rattle.gx_base.specs.declared.order.Kind.TheVariants.{Limit, Market, StopLimit}
use Rattle.gx_base.specs.declared.order.Life.{Life}
use Rattle.gx_base.specs.declared.order.Life.TheVariants.{Day, Gtc, Fak, Fok}
use Rattle.gx_base.specs.declared.order.Order.{Order}
use Rattle.gx_base.specs.declared.order.Taker.{Taker}
use Rattle.gx_base.specs.declared.event.Head.{Head}
use Rattle.gx_base.specs.declared.event.Event.{Event}
use Rattle.gx_base.specs.declared.event.Event.TheVariants.{Replaced}
use Rattle.gx_base.specs.declared.event.ChangeFault.{ChangeFault}
use Rattle.gx_base.specs.declared.event.ChangeFault.TheVariants as fault
use Rattle.product_file.specs.Products.{ProductLists}
use Rattle.fix_request.specs.declared.request.Px.{Px}
use Rattle.fix_request.specs.declared.request.ReplaceOrder.{ReplaceOrder}
use Rattle.plain_book.specs.Orders.{is_side, is_live, order_of, slot_named}
use Rattle.plain_book.specs.Book.{live_orders, book_without, book_changed, changed_to}
use Rattle.plain_book.specs.Match.{MatchState, match_start, report, report_counted, next_head}
use Rattle.order_kinds.specs.Instruments.{ListedInstrument, instrument_of, price_at}
use Rattle.order_kinds.specs.State.{State}
use Rattle.order_kinds.specs.OrderRules.{◌>>=◌, refused_where, is_quantity, has_off_tick, has_bad_stop, is_stop_reached, last_of}
use Rattle.order_kinds.specs.Reports.{unchanged}
use Rattle.order_kinds.specs.Stops.{Naming, come_in}
use Rattle.order_kinds.specs.Accepting.{after_match}

-- ---- rules that refuse

abbrev pub is_kind : Kind → Kind → Bool
is_kind Limit Limit = true
is_kind Market Market = true
is_kind StopLimit StopLimit = true
is_kind _ _ = false

-- the message names the instrument, the side and the order type that the order has now
abbrev pub is_same_order : ListedInstrument → ReplaceOrder → Order → Bool
is_same_order instrument request o =
    (instrument.number == o.instrument) && (is_side request.side o.side && is_kind request.kind o.kind)

-- the instrument of a replace of this order, or the first of these rules that refuses it
abbrev pub replace_terms : ProductLists → ReplaceOrder → Order → State → Result ListedInstrument ChangeFault
replace_terms product request o state = do
  instrument ← ok_or (instrument_of product request.named) fault.Mismatch
  _ ← refused_where (not (is_same_order instrument request o)) fault.Mismatch
  _ ← refused_where (is_live request.sender.firm request.id (live_orders state.book)) fault.Duplicate
  _ ← refused_where (not (is_quantity request.quantity)) fault.Quantity
  _ ← refused_where (nat_le request.quantity o.filled) fault.Filled
  _ ← refused_where (has_off_tick instrument request.price request.trigger) fault.Tick
  _ ← refused_where (has_bad_stop request.kind request.side request.price request.trigger) fault.StopLimit
  _ ← refused_where (is_stop_reached request.kind request.side request.trigger (last_of instrument.number state.last)) fault.StopReached
  _ ← refused_where (nat_lt request.quantity o.show) fault.Show
  Ok instrument

-- ---- what it changes

-- the price of a message, or the one that the order has where the message has none
abbrev pub new_price : Px → Price → Price
new_price px now = unwrap_or (price_at px) now

-- the least that has to be open: all of it for an order that is filled whole or not at all (FOK), and never more than all
abbrev pub least_kept : Life → ℕ → ℕ → ℕ
least_kept Fok least quantity = quantity
least_kept Day least quantity = min least quantity
least_kept Gtc least quantity = min least quantity
least_kept Fak least quantity = min least quantity

abbrev pub least_after : ReplaceOrder → Order → ℕ
least_after request o = least_kept o.life o.min request.quantity

abbrev pub is_same_price : Price → Price → Bool
is_same_price a b = int_eq a.0 b.0

-- both prices stay, and the quantity is not raised
abbrev pub keeps_place : ReplaceOrder → Order → Bool
keeps_place request o =
    is_same_price (new_price request.price o.price) o.price
    && (is_same_price (new_price request.trigger o.trigger) o.trigger && nat_le request.quantity o.quantity)

-- an order that loses its place: nothing of it is shown until it comes in again
abbrev pub replaced_order : ReplaceOrder → Order → Order
replaced_order request o = record o {
  id = request.id;
  price = new_price request.price o.price;
  trigger = new_price request.trigger o.trigger;
  quantity = request.quantity;
  leaves = request.quantity - o.filled;
  shown = 0;
  min = least_after request o;
}

-- ---- what it does

abbrev pub replace_event : Order → Head → Order → Event
replace_event before head after = Replaced head after before.id before.quantity

-- the order of this slot is changed where it stands, and reported
abbrev pub replaced_in_place : ReplaceOrder → ℕ → State → State × List Event
replaced_in_place request slot state =
    let before = order_of slot (live_orders state.book) in
    let least = least_after request before in
    let after = changed_to request.id request.quantity least before in (
      record state { book = book_changed slot request.id request.quantity least state.book; desk = report_counted state.desk before.firm },
      replace_event before (next_head state.desk before.firm request.sender.time) after ∷ [],
    )

-- the order of this slot leaves, and is reported as changed
abbrev pub replaced_start : ReplaceOrder → ℕ → State → MatchState
replaced_start request slot state =
    let before = order_of slot (live_orders state.book) in
    let after = replaced_order request before in
    let taker : Taker = record { order = after; time = request.sender.time; range = None } in
    report (replace_event before) after (match_start (book_without slot state.book) state.desk taker)

-- and then it comes in again, under its number
abbrev pub replaced_anew : Naming → ListedInstrument → ReplaceOrder → ℕ → State → State × List Event
replaced_anew naming instrument request slot state =
    after_match instrument.number state (come_in naming instrument.rule.steps (replaced_start request slot state))

abbrev pub replaced : Naming → ListedInstrument → ReplaceOrder → ℕ → State → State × List Event
replaced naming instrument request slot state =
    if keeps_place request (order_of slot (live_orders state.book)) then replaced_in_place request slot state
    else replaced_anew naming instrument request slot state

abbrev pub replace_refused : ChangeFault → ReplaceOrder → ℕ → ℕ → State → State × List Event
replace_refused f request number filled state = unchanged request.sender request.id request.old number filled true f state

abbrev pub replaced_or_refused : Result ListedInstrument ChangeFault → Naming → ReplaceOrder → ℕ → State → State × List Event
replaced_or_refused (Ok instrument) naming request slot state = replaced naming instrument request slot state
replaced_or_refused (Err f) naming request slot state =
    let o = order_of slot (live_orders state.book) in replace_refused f request o.number o.filled state

abbrev pub replace_at : Option ℕ → Naming → ProductLists → ReplaceOrder → State → State × List Event
replace_at None naming product request state = replace_refused fault.Unknown request 0 0 state
replace_at (Some slot) naming product request state =
    replaced_or_refused (replace_terms product request (order_of slot (live_orders state.book)) state) naming request slot state

-- the live order of the firm with the old id is replaced, or the replace is refused by the first rule that holds
abbrev pub replace_step : Naming → ProductLists → ReplaceOrder → State → State × List Event
replace_step naming product request state =
    replace_at (slot_named request.sender.firm request.old (live_orders state.book)) naming product request state
