use Rattle.std.proofs.Common.{◌∙◌, arith}
use Rattle.gx_base.proofs.Written.{same_further}
use Rattle.line_parts.proofs.fields.head_fields.Goals as goal

pub returns-clause-behind : goal.returns-clause-behind
returns-clause-behind c =
    c.number.ensures.behind
    ∙ same_further _ _ c.word-at.new.into c.args.into.now (omega arith) c.word-at.ensures.behind
