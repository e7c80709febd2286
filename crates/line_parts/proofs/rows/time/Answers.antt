use Rattle.line_parts.proofs.RowLaws.{field_ended}
use Rattle.line_parts.proofs.rows.time.Goals as goal

pub returns-clause-field : goal.returns-clause-field
returns-clause-field c =
    field_ended c.args.into.now c.append_few-end.new.into _ c.args.front.now c.args.time.now c.args.at c.append_few-end.result _ c.requires.begins c.append_few-end.ensures.bytes c.append_to.ensures.bytes
