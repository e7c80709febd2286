use Rattle.std.proofs.Common.{◌∙◌, arith}
use Rattle.gx_base.proofs.Written.{same_further}
use Rattle.line_parts.proofs.fields.number.Goals as goal

pub returns-clause-behind : goal.returns-clause-behind
returns-clause-behind c =
    c.append_few.ensures.behind
    ∙ same_further _ _ c.append_number-end.new.into c.append_few-end.new.into (omega arith) c.append_number-end.ensures.behind
    ∙ same_further _ _ c.append_few-end.new.into c.args.into.now (omega arith) c.append_few-end.ensures.behind
