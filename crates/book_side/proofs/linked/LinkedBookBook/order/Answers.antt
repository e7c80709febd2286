use Rattle.book_side.proofs.Seen.{live, order-is}
use Rattle.book_side.proofs.linked.LinkedBookBook.order.Goals as goal

pub order-requires : goal.order-requires
order-requires c = live c.self.invariant.0 c.self.view_is c.args.slot.0 c.requires

pub returns : goal.returns
returns c = order-is c.self.invariant.0 c.self.view_is c.args.slot.0 c.order.result.now c.requires c.order.ensures
