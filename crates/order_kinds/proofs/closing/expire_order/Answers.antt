use Rattle.std.proofs.Common.{◌<◌, [], ◌∷◌, sym, ap, subst, ◌∙◌}
use Rattle.gx_base.specs.declared.limits.TheConstants.{MOST_FIRMS}
use Rattle.gx_base.specs.declared.order.Order.{Order}
use Rattle.gx_base.specs.declared.event.Head.{Head}
use Rattle.gx_base.specs.declared.event.Event.{Event}
use Rattle.gx_base.specs.EmitLaws.{emits_as, emits_one}
use Rattle.plain_book.specs.Orders.{order_of}
use Rattle.plain_book.specs.Book.{live_orders}
use Rattle.plain_book.specs.Match.{next_head}
use Rattle.order_kinds.specs.TradingSessions.{expired}
use Rattle.order_kinds.proofs.LiveOrders.{live-fits, fit-firm}
use Rattle.order_kinds.proofs.ExpiryReports.{room-reports, room-lines, room-left}
use Rattle.order_kinds.proofs.closing.expire_order.Goals as goal

pub count_report-head-requires-clause-firm : goal.count_report-head-requires-clause-firm
count_report-head-requires-clause-firm g c =
    let b = g.B.Book.book c.args.book.now in
    let slot = c.args.slot.0 in
    subst (λ (o : Order). o.firm < MOST_FIRMS) (sym c.order-order.ensures) (fit-firm b.instruments (order_of slot (live_orders b)) (live-fits b slot c.rules.ensures c.requires.live))

pub count_report-head-requires-clause-reports : goal.count_report-head-requires-clause-reports
count_report-head-requires-clause-reports g c = room-reports (g.B.Book.book c.args.book.now) c.rules.ensures c.args.slot.0 c.requires.live c.args.desk.now c.requires.room

pub count_report-head-requires-clause-lines : goal.count_report-head-requires-clause-lines
count_report-head-requires-clause-lines g c =
    room-lines (g.B.Book.book c.args.book.now) c.rules.ensures c.args.slot.0 c.requires.live c.args.desk.now c.requires.room c.order-order.result.now.firm

pub returns-clause-emits : goal.returns-clause-emits
returns-clause-emits g c =
    let order = c.order-order.result.now in
    emits_as g.E.Emit.meanings _ _ _ _
    (ap (λ (e : Event). e ∷ []) c.of_end.ensures ∙ ap (λ (h : Head). expired h order ∷ []) c.count_report-head.ensures.head
    ∙ ap (λ (o : Order). expired (next_head c.args.desk.now o.firm c.args.time) o ∷ []) c.order-order.ensures)
    (emits_one g.E.Emit.meanings _ _ _ c.put_execution.ensures)

pub returns-clause-room : goal.returns-clause-room
returns-clause-room g c =
    room-left (g.B.Book.book c.args.book.now) c.rules.ensures c.args.slot.0 c.requires.live c.args.desk.now c.requires.room
    (g.B.Book.book c.leave.new.self) c.leave.ensures.left c.order-order.result.now.firm c.count_report-head.new.desk c.count_report-head.ensures.desk
