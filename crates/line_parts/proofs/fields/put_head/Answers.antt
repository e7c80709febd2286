use Rattle.std.proofs.Common.{refl, ℕ, ◌+◌, ◌-◌, ◌≡◌, List, take, decimal, sym, ◌∙◌, ap, arith}
use Rattle.gx_base.specs.Frames.{head_of}
use Rattle.line_parts.specs.declared.fields.TheConstants.{GAP}
use Rattle.line_parts.proofs.Framing.{head_fills}
use Rattle.line_parts.proofs.fields.put_head.Goals as goal

pub returns-clause-head : goal.returns-clause-head
returns-clause-head c =
    let old : List ℕ = c.args.into.now in
    let new : List ℕ = c.fill_gap.new.into in
    let all : GAP + (c.args.end - GAP) ≡ c.args.end = omega arith in
    ap (λ k. take k new) (sym all)
    ∙ head_fills old new (head_of (decimal (c.args.end - GAP))) GAP c.args.end (omega arith) refl c.fill_gap.ensures.head c.fill_gap.ensures.behind
