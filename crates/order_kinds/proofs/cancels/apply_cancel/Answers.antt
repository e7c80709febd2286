use Rattle.std.proofs.Common.{◌≡◌, ℕ, Option, Some, None, option_map, false, sym, ap, subst, ◌∙◌}
use Rattle.gx_base.specs.declared.order.Desk.{Desk}
use Rattle.gx_base.specs.declared.event.ChangeFault.TheVariants.{Unknown}
use Rattle.plain_book.specs.Orders.{slot_named}
use Rattle.plain_book.specs.Book.{Book, live_orders, slot_number}
use Rattle.order_kinds.specs.State.{State}
use Rattle.order_kinds.specs.Cancels.{cancelled, cancel_by, cancel_step}
use Rattle.order_kinds.specs.Stops.{by_number}
use Rattle.order_kinds.specs.Inner.Taking.{Takes}
use Rattle.order_kinds.proofs.Numbering.{named-has}
use Rattle.order_kinds.proofs.TakenSteps.{takes-known, takes-refused}
use Rattle.order_kinds.proofs.cancels.apply_cancel.Goals as goal

pub cancel_order-requires-clause-live : goal.cancel_order-requires-clause-live
cancel_order-requires-clause-live g c =
    named-has c.args.request.now.sender.firm c.args.request.now.old c.in-Some.slot.0 (live_orders (g.B.Book.book c.state.inside.book)) (sym c.find.ensures ∙ ap (option_map slot_number) c.in-Some.is)

pub returns-in-Some-clause-takes : goal.returns-in-Some-clause-takes
returns-in-Some-clause-takes g c =
    let m = g.E.Emit.meanings in
    let request = c.args.request.now in
    let old : State = record { book = g.B.Book.book c.state.inside.book; last = c.state.inside.last.items; desk = c.state.inside.desk; trading = c.state.inside.trading } in
    let new : State = record { book = g.B.Book.book c.cancel_order.new.book; last = c.state.inside.last.items; desk = c.cancel_order.new.desk; trading = c.state.inside.trading } in
    let slot = c.in-Some.slot.0 in
    let named : slot_named request.sender.firm request.old (live_orders old.book) ≡ Some slot = sym c.find.ensures ∙ ap (option_map slot_number) c.in-Some.is in
    subst (λ (s : State). Takes m (λ state naming. Unit {0}) (λ naming. cancel_step request) s new c.args.out.now c.cancel_order.new.out) c.state.view_is
    (takes-known m (λ state naming. Unit {0}) (λ naming. cancel_step request) old _ _ by_number (cancelled request slot old) new tt
    (ap (λ (s : Option ℕ). cancel_by s request old) named)
    (ap (λ (b : Book). record new { book = b }) c.cancel_order.ensures.left ∙ ap (λ (d : Desk). record (cancelled request slot old).0 { desk = d }) c.cancel_order.ensures.desk)
    c.cancel_order.ensures.emits)

pub returns-in-None-clause-takes : goal.returns-in-None-clause-takes
returns-in-None-clause-takes g c =
    let m = g.E.Emit.meanings in
    let request = c.args.request.now in
    let old : State = record { book = g.B.Book.book c.state.inside.book; last = c.state.inside.last.items; desk = c.state.inside.desk; trading = c.state.inside.trading } in
    let new : State = record old { desk = c.report.new.desk } in
    let named : slot_named request.sender.firm request.old (live_orders old.book) ≡ None = sym c.find.ensures ∙ ap (option_map slot_number) c.in-None.is in
    subst (λ (s : State). Takes m (λ state naming. Unit {0}) (λ naming. cancel_step request) s new c.args.out.now c.report.new.out) c.state.view_is
    (takes-refused m (λ state naming. Unit {0}) (λ naming. cancel_step request) old _ _ c.refused.result request.sender request.id request.old 0 0 false Unknown c.report.new.desk
    c.refused.ensures.change c.refused.ensures.sender c.report.ensures.desk c.report.ensures.emits tt
    (ap (λ (s : Option ℕ). cancel_by s request old) named))
