use Rattle.std.proofs.Common.{◌∙◌}
use Rattle.book_side.proofs.Seen.{better-is}
use Rattle.book_side.proofs.linked.LinkedBookBook.better.Goals as goal

pub returns : goal.returns
returns c = c.better.ensures ∙ better-is c.self.invariant.0 c.self.view_is c.args.instrument c.args.side c.args.price
