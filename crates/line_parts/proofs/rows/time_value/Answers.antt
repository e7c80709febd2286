use Rattle.line_parts.proofs.RowLaws.{value_ended}
use Rattle.line_parts.proofs.rows.time_value.Goals as goal

pub returns-clause-value : goal.returns-clause-value
returns-clause-value c = value_ended c.args.into.now c.append_to.new.into c.args.time.now c.args.at c.append_to.result c.append_to.ensures.bytes
