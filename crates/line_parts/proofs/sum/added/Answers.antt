use Rattle.std.proofs.Common.{sym, ◌∙◌}
use Rattle.line_parts.proofs.Sums.{sum-added}
use Rattle.line_parts.proofs.sum.added.Goals as goal

pub returns : goal.returns
returns c = sum-added c.args.a c.args.b (c.fits-a.0 ∙ sym c.fits-b.0)
