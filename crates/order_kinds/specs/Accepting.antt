-- What a new order does: it is refused, or accepted, reported, and comes in.
use Rattle.std.specs.Prelude.{ℕ, ◌+◌, List, [], ◌∷◌, None, Result, Ok, Err}
use Rattle.gx_base.specs.declared.order.Desk.{Desk}
use Rattle.gx_base.specs.declared.order.Taker.{Taker}
use Rattle.gx_base.specs.declared.event.Event.{Event}
use Rattle.gx_base.specs.declared.event.Event.TheVariants.{Accepted, RefusedNew}
use Rattle.gx_base.specs.declared.event.NewFault.{NewFault}
use Rattle.gx_base.specs.declared.event.NewRefused.{NewRefused}
use Rattle.product_file.specs.Products.{ProductLists}
use Rattle.fix_request.specs.declared.request.NewOrder.{NewOrder}
use Rattle.plain_book.specs.Match.{MatchState, match_start, report, report_counted, next_head}
use Rattle.order_kinds.specs.State.{State}
use Rattle.order_kinds.specs.NewOrders.{Terms, terms_of, order_on}
use Rattle.order_kinds.specs.Entering.{last_fill, last_after}
use Rattle.order_kinds.specs.Stops.{Naming, come_in}

-- ---- refused

-- what is said of a refused new order
abbrev pub refused_of : NewOrder → NewRefused
refused_of new = record { id = new.id; symbol = new.symbol; side = new.side; quantity = new.quantity; kind = new.kind; life = new.life }

abbrev pub refusal : NewFault → NewOrder → Desk → Event
refusal f new desk = RefusedNew (next_head desk new.sender.firm new.sender.time) (refused_of new) f

-- a refused new order is reported, gets no number, and changes nothing else
abbrev pub refused : NewFault → NewOrder → State → State × List Event
refused f new state = (record state { desk = report_counted state.desk new.sender.firm }, refusal f new state.desk ∷ [])

-- ---- accepted

abbrev pub taker_on : Terms → NewOrder → ℕ → Taker
taker_on terms new number = record { order = order_on terms new number; time = new.sender.time; range = None }

-- a new order gets the next number, and is reported
abbrev pub new_start : Terms → NewOrder → State → MatchState
new_start terms new state =
    let number = state.desk.orders + 1 in
    let taker = taker_on terms new number in
    report Accepted taker.order (match_start state.book (record state.desk { orders = number }) taker)

-- and then it comes in
abbrev pub new_of : Naming → Terms → NewOrder → State → MatchState
new_of naming terms new state = come_in naming terms.instrument.rule.steps (new_start terms new state)

-- What a match leaves: the last trade price of its instrument is that of its last fill.
abbrev pub after_match : ℕ → State → MatchState → State × List Event
after_match instrument state end =
    (record state { book = end.book; last = last_after instrument (last_fill end.events) state.last; desk = end.desk }, end.events)

abbrev pub accepted : Naming → Terms → NewOrder → State → State × List Event
accepted naming terms new state = after_match terms.instrument.number state (new_of naming terms new state)

abbrev pub accepted_or_refused : Naming → Result Terms NewFault → NewOrder → State → State × List Event
accepted_or_refused naming (Ok terms) new state = accepted naming terms new state
accepted_or_refused naming (Err f) new state = refused f new state

-- a new order is refused by the first rule that holds, or else accepted
abbrev pub new_step : Naming → ProductLists → NewOrder → State → State × List Event
new_step naming product new state = accepted_or_refused naming (terms_of product new state) new state
