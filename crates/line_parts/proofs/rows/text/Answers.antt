use Rattle.line_parts.proofs.RowLaws.{text_ended}
use Rattle.line_parts.proofs.rows.text.Goals as goal

pub returns-clause-fields : goal.returns-clause-fields
returns-clause-fields c =
    text_ended c.args.into.now c.append_few.new.into c.args.text.now c.args.at c.append_few.result c.requires.begins c.append_few.ensures.bytes
