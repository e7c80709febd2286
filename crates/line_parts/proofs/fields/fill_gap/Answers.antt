use Rattle.std.proofs.Common.{◌≡◌, drop, sym, ap, ◌∙◌, arith}
use Rattle.gx_base.proofs.Written.{same_further}
use Rattle.line_parts.specs.declared.fields.TheConstants.{GAP}
use Rattle.line_parts.proofs.fields.fill_gap.Goals as goal

pub returns-clause-behind : goal.returns-clause-behind
returns-clause-behind c =
    let full : c.append_few.result ≡ GAP = omega (arith, c.append_few.ensures.end, c.append_three-at.ensures.end, c.append_few-at.ensures.end) in
    ap (λ k. drop k c.append_few.new.into) (sym full)
    ∙ c.append_few.ensures.behind
    ∙ same_further _ _ c.append_three-at.new.into c.append_few-at.new.into (omega arith) c.append_three-at.ensures.behind
    ∙ same_further _ _ c.append_few-at.new.into c.args.into.now (omega arith) c.append_few-at.ensures.behind
    ∙ ap (λ k. drop k c.args.into.now) full
