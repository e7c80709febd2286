use Rattle.std.proofs.Common.{arith}
use Rattle.line_parts.proofs.Sums.{sum-more, sum-rest}
use Rattle.line_parts.proofs.sum.block_checksum.Goals as goal

pub loop-at-preserved : goal.loop-at-preserved
loop-at-preserved c =
    let at = c.loop-at.at in
    (omega arith, omega (arith, c.added-sums.ensures, sum-more c.args.bytes.now at, c.loop-at.invariant.1))

pub returns : goal.returns
returns c =
    let text = c.args.bytes.now in
    omega (arith, c.total.ensures, c.added.ensures, c.last_of.ensures, sum-rest text c.loop-at.at c.loop-at.invariant.0 (omega arith) c.requires, c.loop-at.invariant.1)
