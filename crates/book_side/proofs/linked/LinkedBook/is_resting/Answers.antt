use Rattle.book_side.proofs.Seen.{live, rests-or-waits}
use Rattle.book_side.proofs.linked.LinkedBook.is_resting.Goals as goal

pub queue_of-requires : goal.queue_of-requires
queue_of-requires c = live c.self.invariant.0 c.self.view_is c.args.slot.0 c.requires

pub returns : goal.returns
returns c = rests-or-waits c.self.invariant.0 c.self.view_is c.args.slot.0 c.rules.ensures c.rules-2.ensures c.requires c.queue_of.result c.queue_of.ensures
