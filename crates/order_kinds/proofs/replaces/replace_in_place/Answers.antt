use Rattle.std.proofs.Common.{◌≡◌, [], ◌∷◌, sym, ap, subst, ◌∙◌}
use Rattle.std.specs.Prelude.{◌<◌}
use Rattle.gx_base.specs.declared.limits.TheConstants.{MOST_FIRMS}
use Rattle.gx_base.specs.declared.order.Order.{Order}
use Rattle.gx_base.specs.declared.event.Event.{Event}
use Rattle.gx_base.specs.Emits.{Emits}
use Rattle.gx_base.specs.EmitLaws.{emits_as, emits_one}
use Rattle.plain_book.specs.Orders.{HasSlot, order_of}
use Rattle.plain_book.specs.Book.{Book, live_orders}
use Rattle.order_kinds.specs.State.{State}
use Rattle.order_kinds.specs.Replaces.{least_after, replaced_in_place}
use Rattle.order_kinds.proofs.LiveOrders.{live-fits, fit-firm, changed-has}
use Rattle.order_kinds.proofs.Replaced.{resting-least, kept-events}
use Rattle.order_kinds.proofs.replaces.replace_in_place.Goals as goal

pub change-requires-clause-no_min : goal.change-requires-clause-no_min
change-requires-clause-no_min g c =
    let s = c.args.slot.0 in
    let request = c.args.request.now in
    let was = subst (λ (x : State). c.args.order.now ≡ order_of s (live_orders x.book)) (sym c.state.view_is) c.requires.order in
    λ rests. c.least_after-least.ensures ∙ ap (least_after request) was ∙ resting-least request (g.B.Book.book c.state.inside.book) s c.rules.ensures rests

pub count_report-head-requires-clause-firm : goal.count_report-head-requires-clause-firm
count_report-head-requires-clause-firm g c =
    let s = c.args.slot.0 in
    let b = g.B.Book.book c.state.inside.book in
    let has = subst (λ (x : State). HasSlot s (live_orders x.book)) (sym c.state.view_is) c.requires.live in
    let was = subst (λ (x : State). c.args.order.now ≡ order_of s (live_orders x.book)) (sym c.state.view_is) c.requires.order in
    subst (λ (o : Order). o.firm < MOST_FIRMS) (sym was) (fit-firm b.instruments (order_of s (live_orders b)) (live-fits b s c.rules.ensures has))

pub order-requires : goal.order-requires
order-requires g c =
    let s = c.args.slot.0 in
    let request = c.args.request.now in
    let has = subst (λ (x : State). HasSlot s (live_orders x.book)) (sym c.state.view_is) c.requires.live in
    subst (λ (b : Book). HasSlot s (live_orders b)) (sym c.change.ensures) (changed-has s request.id request.quantity c.least_after-least.result (g.B.Book.book c.state.inside.book) has)

pub returns-clause-emits : goal.returns-clause-emits
returns-clause-emits g c =
    let m = g.E.Emit.meanings in
    let s = c.args.slot.0 in
    let request = c.args.request.now in
    let old : State = record { book = g.B.Book.book c.state.inside.book; last = c.state.inside.last.items; desk = c.state.inside.desk; trading = c.state.inside.trading } in
    let has = subst (λ (x : State). HasSlot s (live_orders x.book)) (sym c.state.view_is) c.requires.live in
    let was = subst (λ (x : State). c.args.order.now ≡ order_of s (live_orders x.book)) (sym c.state.view_is) c.requires.order in
    subst (λ (x : State). Emits m c.args.out.now c.put_execution.new.self (replaced_in_place request s x).1) c.state.view_is
    (emits_as m _ _ _ _
    (ap (λ (e : Event). e ∷ []) c.replaced.ensures ∙ kept-events request s old (g.B.Book.book c.change.new.self) c.args.order.now c.order.result.now c.least_after-least.result c.count_report-head.result has was c.least_after-least.ensures c.change.ensures c.order.ensures c.count_report-head.ensures.head)
    (emits_one m _ _ _ c.put_execution.ensures))
