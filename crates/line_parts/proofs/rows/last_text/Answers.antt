use Rattle.std.proofs.Common.{◌∙◌}
use Rattle.line_parts.proofs.RowLaws.{ended_before}
use Rattle.line_parts.proofs.rows.last_text.Goals as goal

pub returns-clause-row : goal.returns-clause-row
returns-clause-row c =
    c.append_few.ensures.bytes ∙ ended_before c.args.into.now c.args.text.now c.args.at c.requires.begins
