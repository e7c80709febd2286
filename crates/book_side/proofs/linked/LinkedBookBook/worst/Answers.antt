use Rattle.std.proofs.Common.{◌∙◌}
use Rattle.book_side.proofs.Seen.{worst-is}
use Rattle.book_side.proofs.linked.LinkedBookBook.worst.Goals as goal

pub returns : goal.returns
returns c = c.worst.ensures ∙ worst-is c.self.invariant.0 c.self.view_is c.args.instrument c.args.side
