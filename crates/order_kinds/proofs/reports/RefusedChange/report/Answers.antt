use Rattle.std.proofs.Common.{[], ◌∷◌, ap}
use Rattle.gx_base.specs.declared.event.Head.{Head}
use Rattle.gx_base.specs.declared.event.Event.TheVariants.{RefusedChange}
use Rattle.gx_base.specs.EmitLaws.{emits_as, emits_one}
use Rattle.order_kinds.proofs.reports.RefusedChange.report.Goals as goal

pub returns-clause-emits : goal.returns-clause-emits
returns-clause-emits g c =
    let change = c.args.self.now in
    emits_as g.E.Emit.meanings _ _ _ _
    (ap (λ (h : Head). RefusedChange h change.id change.old change.number change.filled change.replace c.args.fault ∷ []) c.count_line-head.ensures.head)
    (emits_one g.E.Emit.meanings _ _ _ c.put.ensures)
