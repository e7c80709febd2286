use Rattle.std.proofs.Common.{[], ◌∷◌, codes, decimal}
use Rattle.gx_base.specs.Frames.{field}
use Rattle.line_parts.specs.Rows.{ended}
use Rattle.exec_report.proofs.Rows.{fronted, pair_in_a_row}
use Rattle.exec_report.proofs.head_fields.timed_head.Goals as goal

pub returns-clause-fields : goal.returns-clause-fields
returns-clause-fields c =
    let exchange = field "49" c.args.names.now.exchange in
    let time = c.args.head.now.time in
    let sent =
    fronted c.counter-at.new.into c.append_exchange_front-at.new.into c.time_value.new.into exchange (codes "52=") time c.counter-at.result c.append_exchange_front-at.result _
    c.append_exchange_front-at.ensures.bytes c.time_value.ensures.value in
    pair_in_a_row (ended c.args.at c.args.into.now) (field "35" (c.args.message_type ∷ [])) (field "34" (decimal c.args.head.now.line)) exchange (field "52" time) _ _ _
    c.letter-at.ensures.field c.counter-at.ensures.field sent
