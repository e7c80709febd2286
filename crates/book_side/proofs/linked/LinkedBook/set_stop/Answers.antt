use Rattle.plain_book.proofs.Levels.{HasSlot-right}
use Rattle.book_side.proofs.Seen.{waits-live}
use Rattle.book_side.proofs.Became.{stop-changed}
use Rattle.book_side.proofs.Reached.{stand-changed}
use Rattle.book_side.proofs.linked.LinkedBook.set_stop.Goals as goal

pub set-requires : goal.set-requires
set-requires c = waits-live c.self.invariant.0 c.self.view_is c.args.slot.0 c.requires.waits

pub invariant_of-self : goal.invariant_of-self
invariant_of-self c =
    let r = c.requires in
    ((stop-changed c.self.invariant.0 c.self.view_is c.args.slot.0 c.args.order.now r.waits r.level r.firm r.id r.fit c.set.ensures.queues c.set.ensures.live).linked, c.self.invariant.1, stand-changed c.self.invariant.0 c.self.view_is c.self.invariant.2 c.args.slot.0 c.args.order.now c.rules.ensures (HasSlot-right c.args.slot.0 c.args.self.now.resting c.args.self.now.waiting r.waits) r.level r.trigger c.set.ensures.queues)

pub returns : goal.returns
returns c =
    let r = c.requires in
    (stop-changed c.self.invariant.0 c.self.view_is c.args.slot.0 c.args.order.now r.waits r.level r.firm r.id r.fit c.set.ensures.queues c.set.ensures.live).view
