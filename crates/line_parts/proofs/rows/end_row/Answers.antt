use Rattle.line_parts.proofs.RowLaws.{ended_is}
use Rattle.line_parts.proofs.rows.end_row.Goals as goal

pub returns-clause-row : goal.returns-clause-row
returns-clause-row c = ended_is c.args.into.now c.append_few.new.into c.args.at c.append_few.result c.append_few.ensures.bytes
