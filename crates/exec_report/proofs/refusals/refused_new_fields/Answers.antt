use Rattle.std.proofs.Common.{codes}
use Rattle.gx_base.specs.Line.{line_head, refused_fields, wanted_fields, nothing_fields, fault_fields}
use Rattle.line_parts.specs.Rows.{ended}
use Rattle.exec_report.proofs.Rows.{five_in_a_row}
use Rattle.exec_report.proofs.refusals.refused_new_fields.Goals as goal

pub returns-clause-fields : goal.returns-clause-fields
returns-clause-fields c =
    let head = c.args.head.now in
    let order = c.args.order.now in
    let fault = c.args.fault in
    five_in_a_row (ended c.args.at c.args.into.now) (line_head c.args.names.now (codes "8") head) (refused_fields head order fault) (wanted_fields order) (nothing_fields head) (fault_fields order fault) _ _ _ _ _
    c.line_head-at.ensures.fields c.refused_fields-at.ensures.fields c.wanted_fields-at.ensures.fields c.nothing_fields-at.ensures.fields c.fault_fields.ensures.fields
