use Rattle.line_parts.proofs.Sums.{sum-total}
use Rattle.line_parts.proofs.sum.total.Goals as goal

pub returns : goal.returns
returns c = sum-total c.args.sums
