use Rattle.std.proofs.Common.{◌∙◌}
use Rattle.book_side.proofs.Reached.{stop-listed, reached-is}
use Rattle.book_side.proofs.linked.LinkedBookBook.first_reached.Goals as goal

pub first_reached-requires : goal.first_reached-requires
first_reached-requires c = stop-listed c.self.invariant.0 c.self.view_is c.self.invariant.2 c.args.instrument c.requires

pub returns : goal.returns
returns c = c.first_reached.ensures ∙ reached-is c.self.invariant.0 c.self.view_is c.self.invariant.2 (c.args.least, c.args.greatest) c.args.instrument c.requires
