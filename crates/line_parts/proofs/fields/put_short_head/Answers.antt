use Rattle.std.proofs.Common.{ℕ, ◌-◌, List, decimal, arith}
use Rattle.gx_base.specs.Frames.{head_of}
use Rattle.line_parts.specs.declared.fields.TheConstants.{GAP}
use Rattle.line_parts.proofs.Framing.{body_moved}
use Rattle.line_parts.proofs.fields.put_short_head.Goals as goal

pub returns-clause-head : goal.returns-clause-head
returns-clause-head c =
    let old : List ℕ = c.args.into.now in
    let new : List ℕ = c.head_fields-at.new.into in
    let head : List ℕ = head_of (decimal (c.args.end - GAP)) in
    body_moved old new head _ c.head_fields-at.result c.args.end (omega arith) (omega arith) c.head_fields-at.ensures.fields c.head_fields-at.ensures.behind c.move_body.ensures
