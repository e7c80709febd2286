use Rattle.std.proofs.Common.{◌∙◌, refl}
use Rattle.plain_book.proofs.Levels.{HasSlot-left}
use Rattle.book_side.proofs.Seen.{IsAtRow, rests-live, id-there, at-row}
use Rattle.book_side.proofs.Became.{left}
use Rattle.book_side.proofs.Reached.{rests-below, stand-left}
use Rattle.book_side.proofs.linked.LinkedBook.take_out.Goals as goal
use Rattle.book_side.proofs.linked.LinkedBook.take_out.Goals.{After-order-order}

pub queue_of-queue-requires : goal.queue_of-queue-requires
queue_of-queue-requires c = rests-live c.self.invariant.0 c.self.view_is c.args.slot.0 c.requires

pub order-order-requires : goal.order-order-requires
order-order-requires c = rests-live c.self.invariant.0 c.self.view_is c.args.slot.0 c.requires

pub unlink-requires : goal.unlink-requires
unlink-requires c = rests-live c.self.invariant.0 c.self.view_is c.args.slot.0 c.requires

-- the order and its level
row : (c : After-order-order) → IsAtRow c.self.invariant.0 c.self.view_is c.args.slot.0 c.queue_of-queue.result c.order-order.result.now
row c = at-row c.self.invariant.0 c.self.view_is c.args.slot.0 c.requires c.rules.ensures c.queue_of-queue.ensures c.order-order.ensures

pub leave_level-requires : goal.leave_level-requires
leave_level-requires c =
    let at = row (goal.at.leave_level-requires c).After-order-order in
    let held = at.held _ refl in
    record { has = at.is_row; some = held.some; shown = held.shown; leaves = held.leaves }

pub drop_top-requires : goal.drop_top-requires
drop_top-requires c = (row (goal.at.drop_top-requires c).After-order-order).listed

pub remove-requires : goal.remove-requires
remove-requires c = id-there c.self.invariant.0 c.self.view_is c.args.slot.0 c.order-order.result.now (HasSlot-left c.args.slot.0 c.args.self.now.resting c.args.self.now.waiting c.requires) c.order-order.ensures

pub invariant_of-self : goal.invariant_of-self
invariant_of-self c =
    let out = c.unlink.ensures in
    let low = rests-below c.self.invariant.0 c.self.view_is c.self.invariant.2 c.args.slot.0 c.queue_of-queue.result c.requires c.rules.ensures c.queue_of-queue.ensures c.rules-2.ensures in
    let top = c.drop_top.ensures in
    ((left c.self.invariant.0 c.self.view_is c.args.slot.0 c.queue_of-queue.result c.order-order.result.now c.requires c.rules.ensures c.rules-2.ensures c.queue_of-queue.ensures c.order-order.ensures out.queues out.live c.leave_level.ensures c.remove.ensures top.length top.tops).linked, c.drop_top.ensures.room ∙ c.self.invariant.1, stand-left c.self.invariant.2 c.args.slot.0 c.queue_of-queue.result c.rules.ensures c.queue_of-queue.ensures low out.queues)

pub returns : goal.returns
returns c =
    let out = c.unlink.ensures in
    let top = c.drop_top.ensures in
    (left c.self.invariant.0 c.self.view_is c.args.slot.0 c.queue_of-queue.result c.order-order.result.now c.requires c.rules.ensures c.rules-2.ensures c.queue_of-queue.ensures c.order-order.ensures out.queues out.live c.leave_level.ensures c.remove.ensures top.length top.tops).view
