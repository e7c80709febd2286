use Rattle.std.proofs.Common.{[], ◌∷◌, None, ap, ◌∙◌}
use Rattle.gx_base.specs.declared.event.Head.{Head}
use Rattle.gx_base.specs.declared.event.Event.{Event}
use Rattle.gx_base.specs.declared.event.Event.TheVariants.{Cancelled}
use Rattle.gx_base.specs.EmitLaws.{emits_as, emits_one}
use Rattle.order_kinds.specs.Entering.{closed}
use Rattle.order_kinds.proofs.entering.cancel_taker.Goals as goal

pub returns-clause-emits : goal.returns-clause-emits
returns-clause-emits g c =
    let order = c.args.taker.now.order in
    emits_as g.E.Emit.meanings _ _ _ _
    (ap (λ (e : Event). e ∷ []) c.cancelled_unasked.ensures ∙ ap (λ (h : Head). Cancelled h (closed order) order.leaves None c.args.cause ∷ []) c.count_report-head.ensures.head)
    (emits_one g.E.Emit.meanings _ _ _ c.put_execution.ensures)
