use Rattle.book_side.proofs.Given.{shows}
use Rattle.book_side.proofs.linked.LinkedBookBook.set_shown.Goals as goal

pub set_order-requires-clause-fit : goal.set_order-requires-clause-fit
set_order-requires-clause-fit c = shows c.args.self.now c.rules.ensures c.args.slot.0 c.requires.rests c.resting.result.now c.resting.ensures c.args.shown c.requires.display c.requires.some c.requires.within
