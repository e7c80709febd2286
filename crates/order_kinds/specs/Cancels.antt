-- Cancels, and messages that a session rule refuses.
use Rattle.std.specs.Prelude.{ℕ, false, List, [], ◌∷◌, Option, Some, None}
use Rattle.gx_base.specs.declared.order.Order.{Order}
use Rattle.gx_base.specs.declared.order.Desk.{Desk}
use Rattle.gx_base.specs.declared.event.Event.{Event}
use Rattle.gx_base.specs.declared.event.Event.TheVariants.{Cancelled, RefusedSession}
use Rattle.gx_base.specs.declared.event.Cause.TheVariants.{Asked}
use Rattle.gx_base.specs.declared.event.ChangeFault.TheVariants as change
use Rattle.fix_request.specs.declared.request.CancelOrder.{CancelOrder}
use Rattle.fix_request.specs.declared.request.Refusal.{Refusal}
use Rattle.plain_book.specs.Orders.{order_of, slot_named}
use Rattle.plain_book.specs.Book.{live_orders, book_without}
use Rattle.plain_book.specs.Match.{report_counted, next_head}
use Rattle.order_kinds.specs.State.{State}
use Rattle.order_kinds.specs.Reports.{next_line_head, line_counted, unchanged}
use Rattle.order_kinds.specs.Entering.{closed}

-- ---- cancels

-- no live order has the id: the cancel is refused
abbrev pub cancel_refused : CancelOrder → State → State × List Event
cancel_refused request state = unchanged request.sender request.id request.old 0 0 false change.Unknown state

abbrev pub order_cancelled : CancelOrder → Order → Desk → Event
order_cancelled request o desk =
    Cancelled (next_head desk request.sender.firm request.sender.time) (closed o) o.leaves (Some request.id) Asked

-- the order of this slot leaves, and what was open is reported to its firm, under the id of the cancel
abbrev pub cancelled : CancelOrder → ℕ → State → State × List Event
cancelled request slot state =
    let o = order_of slot (live_orders state.book) in (
      record state { book = book_without slot state.book; desk = report_counted state.desk request.sender.firm },
      order_cancelled request o state.desk ∷ [],
    )

abbrev pub cancel_by : Option ℕ → CancelOrder → State → State × List Event
cancel_by None request state = cancel_refused request state
cancel_by (Some slot) request state = cancelled request slot state

-- the live order of the firm with the old id is cancelled
abbrev pub cancel_step : CancelOrder → State → State × List Event
cancel_step request state = cancel_by (slot_named request.sender.firm request.old (live_orders state.book)) request state

-- ---- messages that a session rule refuses

abbrev pub rejected : Refusal → Desk → Event
rejected refusal desk = RefusedSession (next_line_head desk refusal.firm refusal.time) refusal.seq refusal.tag refusal.reason refusal.rule

-- a reject is reported to the sender, as far as it is known
abbrev pub message_refused : Refusal → State → State × List Event
message_refused refusal state = (record state { desk = line_counted state.desk refusal.firm }, rejected refusal state.desk ∷ [])
