use Rattle.book_side.proofs.Seen.{rests-live, resting-is}
use Rattle.book_side.proofs.linked.LinkedBook.resting.Goals as goal

pub order-requires : goal.order-requires
order-requires c = rests-live c.self.invariant.0 c.self.view_is c.args.slot.0 c.requires

pub returns : goal.returns
returns c = resting-is c.self.invariant.0 c.self.view_is c.args.slot.0 c.order.result.now c.requires c.order.ensures
