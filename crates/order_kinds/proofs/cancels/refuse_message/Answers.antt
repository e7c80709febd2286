use Rattle.std.proofs.Common.{[], ◌∷◌, ap}
use Rattle.gx_base.specs.declared.event.Head.{Head}
use Rattle.gx_base.specs.declared.event.Event.TheVariants.{RefusedSession}
use Rattle.gx_base.specs.EmitLaws.{emits_as, emits_one}
use Rattle.order_kinds.proofs.cancels.refuse_message.Goals as goal

pub returns-clause-emits : goal.returns-clause-emits
returns-clause-emits g c =
    let refusal = c.args.refusal.now in
    emits_as g.E.Emit.meanings _ _ _ _
    (ap (λ (h : Head). RefusedSession h refusal.seq refusal.tag refusal.reason refusal.rule ∷ []) c.count_line-head.ensures.head)
    (emits_one g.E.Emit.meanings _ _ _ c.put.ensures)
