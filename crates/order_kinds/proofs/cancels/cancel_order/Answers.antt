use Rattle.std.proofs.Common.{[], ◌∷◌, Some, ap, ◌∙◌}
use Rattle.gx_base.specs.declared.order.Order.{Order}
use Rattle.gx_base.specs.declared.event.Head.{Head}
use Rattle.gx_base.specs.declared.event.Event.{Event}
use Rattle.gx_base.specs.declared.event.Event.TheVariants.{Cancelled}
use Rattle.gx_base.specs.declared.event.Cause.TheVariants.{Asked}
use Rattle.gx_base.specs.EmitLaws.{emits_as, emits_one}
use Rattle.order_kinds.specs.Entering.{closed}
use Rattle.order_kinds.specs.Cancels.{order_cancelled}
use Rattle.order_kinds.proofs.cancels.cancel_order.Goals as goal

pub returns-clause-emits : goal.returns-clause-emits
returns-clause-emits g c =
    let by = Some c.args.request.now.id in
    let order = c.order-order.result.now in
    emits_as g.E.Emit.meanings _ _ _ _
    (ap (λ (e : Event). e ∷ []) c.cancelled.ensures ∙ ap (λ (h : Head). Cancelled h (closed order) order.leaves by Asked ∷ []) c.count_report-head.ensures.head
    ∙ ap (λ (o : Order). order_cancelled c.args.request.now o c.args.desk.now ∷ []) c.order-order.ensures)
    (emits_one g.E.Emit.meanings _ _ _ c.put_execution.ensures)
