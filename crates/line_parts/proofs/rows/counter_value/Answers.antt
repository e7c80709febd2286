use Rattle.std.proofs.Common.{decimal}
use Rattle.line_parts.proofs.RowLaws.{value_ended}
use Rattle.line_parts.proofs.rows.counter_value.Goals as goal

pub returns-clause-value : goal.returns-clause-value
returns-clause-value c = value_ended c.args.into.now c.append_counter.new.into (decimal c.args.n) c.args.at c.append_counter.result c.append_counter.ensures.digits
