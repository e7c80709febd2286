use Rattle.std.proofs.Common.{ap}
use Rattle.order_pool.specs.Queues.{Queues}
use Rattle.book_side.proofs.Seen.{id-absent}
use Rattle.book_side.proofs.Became.{stop-came}
use Rattle.book_side.proofs.Reached.{stop-listed, stop-low, stop-room, stop-stands}
use Rattle.book_side.proofs.linked.LinkedBookBook.wait.Goals as goal

pub insert-requires-clause-absent : goal.insert-requires-clause-absent
insert-requires-clause-absent c = id-absent c.self.invariant.0 c.self.view_is c.args.order.firm c.args.order.id c.requires.unnamed

pub put-requires-clause-listed : goal.put-requires-clause-listed
put-requires-clause-listed c = stop-listed c.self.invariant.0 c.self.view_is c.self.invariant.2 c.args.order.instrument c.requires.fit.listed

pub put-requires-clause-slot : goal.put-requires-clause-slot
put-requires-clause-slot c =
    let pushed = c.push_back-slot.ensures in
    stop-low c.self.invariant.0 c.self.view_is c.self.invariant.2 c.push_back-slot.result.0 c.rules-2.ensures (_, pushed.placed) (ap (λ (y : Queues). y.capacity) pushed.queues)

pub put-requires-clause-room : goal.put-requires-clause-room
put-requires-clause-room c = stop-room c.self.invariant.0 c.self.view_is c.self.invariant.2 c.args.order.instrument c.requires.fit.listed c.requires.room

pub invariant_of-self : goal.invariant_of-self
invariant_of-self c =
    let r = c.requires in
    let pushed = c.push_back-slot.ensures in (
      (stop-came c.self.invariant.0 c.self.view_is c.push_back-slot.result c.from.result c.args.order c.rules.ensures r.fit r.unnamed r.room c.from.ensures pushed.queues pushed.fresh pushed.live c.insert.ensures).now.linked,
      c.self.invariant.1,
      stop-stands c.self.invariant.0 c.self.view_is c.self.invariant.2 c.push_back-slot.result c.from.result c.args.order r.fit c.from.ensures pushed.queues c.put.ensures,
    )

pub returns : goal.returns
returns c =
    let r = c.requires in
    let pushed = c.push_back-slot.ensures in
    let new = stop-came c.self.invariant.0 c.self.view_is c.push_back-slot.result c.from.result c.args.order c.rules.ensures r.fit r.unnamed r.room c.from.ensures pushed.queues pushed.fresh pushed.live c.insert.ensures in
    record { fresh = new.fresh; waited = new.now.view }
