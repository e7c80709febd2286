use Rattle.std.proofs.Common.{refl}
use Rattle.plain_book.proofs.Levels.{HasSlot-right}
use Rattle.book_side.proofs.Seen.{waits-live, id-there}
use Rattle.book_side.proofs.Became.{stop-left}
use Rattle.book_side.proofs.Reached.{IsStopAt, stop-at, stop-low, stand-out, slots-differ}
use Rattle.book_side.proofs.linked.LinkedBook.take_stop.Goals as goal
use Rattle.book_side.proofs.linked.LinkedBook.take_stop.Goals.{After-order-order}

pub order-order-requires : goal.order-order-requires
order-order-requires c = waits-live c.self.invariant.0 c.self.view_is c.args.slot.0 c.requires

pub unlink-requires : goal.unlink-requires
unlink-requires c = waits-live c.self.invariant.0 c.self.view_is c.args.slot.0 c.requires

pub remove-requires : goal.remove-requires
remove-requires c = id-there c.self.invariant.0 c.self.view_is c.args.slot.0 c.order-order.result.now (HasSlot-right c.args.slot.0 c.args.self.now.resting c.args.self.now.waiting c.requires) c.order-order.ensures

-- the queue of the stop
stands : (c : After-order-order) → IsStopAt c.self.invariant.0 c.self.view_is c.self.invariant.2 c.args.slot.0 c.order-order.result.now
stands c = stop-at c.self.invariant.0 c.self.view_is c.self.invariant.2 c.args.slot.0 c.order-order.result.now c.requires c.order-order.ensures

pub take_out-requires-clause-listed : goal.take_out-requires-clause-listed
take_out-requires-clause-listed c = (stands (goal.at.take_out-requires-clause-listed c).After-order-order).in_lists

pub take_out-requires-clause-slot : goal.take_out-requires-clause-slot
take_out-requires-clause-slot c = stop-low c.self.invariant.0 c.self.view_is c.self.invariant.2 c.args.slot.0 c.rules.ensures (waits-live c.self.invariant.0 c.self.view_is c.args.slot.0 c.requires) refl

pub take_out-requires-clause-differ : goal.take_out-requires-clause-differ
take_out-requires-clause-differ c =
    let w = stands (goal.at.take_out-requires-clause-differ c).After-order-order in
    slots-differ c.self.invariant.2 c.order-order.result.now.instrument w.listed c.args.slot.0 c.rules.ensures w.at

pub invariant_of-self : goal.invariant_of-self
invariant_of-self c =
    let out = c.unlink.ensures in
    let w = stands (goal.at.invariant_of-self c).After-order-order in
    ((stop-left c.self.invariant.0 c.self.view_is c.args.slot.0 c.order-order.result.now c.requires c.rules.ensures c.rules-2.ensures c.order-order.ensures out.queues out.live c.remove.ensures).linked, c.self.invariant.1, stand-out c.self.invariant.2 c.order-order.result.now.instrument w.listed c.args.slot.0 c.rules.ensures w.at out.queues c.take_out.ensures)

pub returns : goal.returns
returns c =
    let out = c.unlink.ensures in
    (stop-left c.self.invariant.0 c.self.view_is c.args.slot.0 c.order-order.result.now c.requires c.rules.ensures c.rules-2.ensures c.order-order.ensures out.queues out.live c.remove.ensures).view
