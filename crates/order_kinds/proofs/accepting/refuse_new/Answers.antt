use Rattle.std.proofs.Common.{[], ◌∷◌, ap, ◌∙◌}
use Rattle.gx_base.specs.declared.event.Head.{Head}
use Rattle.gx_base.specs.declared.event.NewRefused.{NewRefused}
use Rattle.gx_base.specs.declared.event.Event.TheVariants.{RefusedNew}
use Rattle.gx_base.specs.EmitLaws.{emits_as, emits_one}
use Rattle.order_kinds.specs.Accepting.{refused_of}
use Rattle.order_kinds.proofs.accepting.refuse_new.Goals as goal

pub returns-clause-emits : goal.returns-clause-emits
returns-clause-emits g c =
    emits_as g.E.Emit.meanings _ _ _ _
    (ap (λ (r : NewRefused). RefusedNew c.count_report-head.result r c.args.fault ∷ []) c.new_refused.ensures ∙ ap (λ (h : Head). RefusedNew h (refused_of c.args.new.now) c.args.fault ∷ []) c.count_report-head.ensures.head)
    (emits_one g.E.Emit.meanings _ _ _ c.put.ensures)
