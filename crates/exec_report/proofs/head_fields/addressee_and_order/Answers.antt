use Rattle.std.proofs.Common.{codes, decimal}
use Rattle.gx_base.specs.Frames.{field}
use Rattle.gx_base.specs.Line.{firm_name}
use Rattle.exec_report.proofs.Rows.{fronted}
use Rattle.exec_report.proofs.head_fields.addressee_and_order.Goals as goal

pub returns-in-Some-clause-fields : goal.returns-in-Some-clause-fields
returns-in-Some-clause-fields c =
    rw c.in-Some.is
    (fronted c.args.into.now c.append_firm_front-at.new.into c.counter_value.new.into (field "56" (firm_name c.args.names.now c.in-Some.firm)) (codes "37=") (decimal c.args.order_number) c.args.at c.append_firm_front-at.result _
    c.append_firm_front-at.ensures.bytes c.counter_value.ensures.value)
