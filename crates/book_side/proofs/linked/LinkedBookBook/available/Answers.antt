use Rattle.std.proofs.Common.{◌∙◌}
use Rattle.book_side.proofs.Seen.{open-is, open-fits}
use Rattle.book_side.proofs.linked.LinkedBookBook.available.Goals as goal

pub available-requires-clause-fits : goal.available-requires-clause-fits
available-requires-clause-fits c = open-fits c.self.invariant.0 c.self.view_is

pub returns : goal.returns
returns c = c.available.ensures ∙ open-is c.self.invariant.0 c.self.view_is c.args.instrument c.args.side c.args.limit
