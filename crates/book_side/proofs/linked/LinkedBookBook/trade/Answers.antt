use Rattle.book_side.proofs.Given.{within, whole}
use Rattle.book_side.proofs.linked.LinkedBookBook.trade.Goals as goal

pub filled-given-requires-clause-within : goal.filled-given-requires-clause-within
filled-given-requires-clause-within c = within c.args.self.now c.rules.ensures c.args.slot.0 c.requires.rests c.resting.result.now c.resting.ensures

pub filled-given-requires-clause-whole : goal.filled-given-requires-clause-whole
filled-given-requires-clause-whole c = whole c.args.self.now c.rules.ensures c.args.slot.0 c.requires.rests c.resting.result.now c.resting.ensures
