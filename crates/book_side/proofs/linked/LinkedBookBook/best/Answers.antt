use Rattle.std.proofs.Common.{◌∙◌}
use Rattle.book_side.proofs.Seen.{best-is}
use Rattle.book_side.proofs.linked.LinkedBookBook.best.Goals as goal

pub returns : goal.returns
returns c = c.best.ensures ∙ best-is c.self.invariant.0 c.self.view_is c.args.instrument c.args.side
