use Rattle.std.proofs.Common.{decimal}
use Rattle.line_parts.proofs.RowLaws.{value_ended}
use Rattle.line_parts.proofs.rows.number_value.Goals as goal

pub returns-clause-value : goal.returns-clause-value
returns-clause-value c = value_ended c.args.into.now c.append_number.new.into (decimal c.args.n) c.args.at c.append_number.result c.append_number.ensures.digits
