use Rattle.std.proofs.Common.{ℕ, List, Option, None, [], ◌∷◌, ◌++◌, codes, ap, ◌∙◌}
use Rattle.std.specs.Option.{option_copied}
use Rattle.gx_base.specs.Frames.{field}
use Rattle.gx_base.specs.Executions.{order_after}
use Rattle.gx_base.specs.Line.{order_front, state_fields}
use Rattle.line_parts.specs.Rows.{ended}
use Rattle.exec_report.proofs.Rows.{four_in_a_row}
use Rattle.exec_report.proofs.body.triggered_fields.Goals as goal

pub returns-clause-fields : goal.returns-clause-fields
returns-clause-fields c =
    let old = ended c.args.at c.args.into.now in
    let head = c.args.execution.now.head.now in
    let order = order_after c.args.execution.now in
    let update = c.own_update-update.result in
    let front = λ (id : List ℕ) (by : Option (List ℕ)) (status : ℕ). order_front c.args.names.now head order id by (status ∷ []) in
    four_in_a_row old (front order.id None 48) (state_fields head order) (field "58" (codes "TRIGGERED")) (field "9003" (codes "0")) _ _ _ _
    (c.order_front-front.ensures.fields
    ∙ ap (λ (id : List ℕ). old ++ front id (option_copied update.old) update.status) c.own_update-update.ensures.id
    ∙ ap (λ by. old ++ front order.id (option_copied by) update.status) c.own_update-update.ensures.old
    ∙ ap (λ (status : ℕ). old ++ front order.id None status) c.own_update-update.ensures.status)
    c.state_fields-at.ensures.fields c.text-at.ensures.fields c.text.ensures.fields
