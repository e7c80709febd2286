use Rattle.std.proofs.Common.{◌∙◌}
use Rattle.book_side.proofs.Seen.{worse-is}
use Rattle.book_side.proofs.linked.LinkedBookBook.worse.Goals as goal

pub returns : goal.returns
returns c = c.worse.ensures ∙ worse-is c.self.invariant.0 c.self.view_is c.args.instrument c.args.side c.args.price
