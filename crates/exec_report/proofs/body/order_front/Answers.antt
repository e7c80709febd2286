use Rattle.std.proofs.Common.{[], ◌∷◌, codes, decimal}
use Rattle.std.specs.Option.{option_copied}
use Rattle.gx_base.specs.Frames.{field}
use Rattle.gx_base.specs.Executions.{order_after}
use Rattle.gx_base.specs.Line.{field_if, line_head, report_fields, order_fields}
use Rattle.line_parts.specs.Rows.{ended}
use Rattle.exec_report.proofs.Rows.{ids_in_a_row}
use Rattle.exec_report.proofs.body.order_front.Goals as goal

pub returns-clause-fields : goal.returns-clause-fields
returns-clause-fields c =
    let names = c.args.names.now in
    let head = c.args.execution.now.head.now in
    let order = order_after c.args.execution.now in
    let update = c.args.update.now in
    ids_in_a_row (ended c.args.at c.args.into.now) (line_head names (codes "8") head) (field "37" (decimal order.number)) (field "11" update.id.now) (field_if "41" (option_copied update.old))
    (report_fields head (update.status ∷ [])) (order_fields names order) _ _ _ _
    c.order_head-at.ensures.fields c.client_ids-at.ensures.fields c.report_fields-at.ensures.fields c.order_fields.ensures.fields
