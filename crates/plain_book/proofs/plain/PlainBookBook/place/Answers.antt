use Rattle.plain_book.proofs.KeptCalls.{seen-fresh, seen-placed}
use Rattle.plain_book.proofs.plain.PlainBookBook.place.Goals as goal

pub invariant_of-self : goal.invariant_of-self
invariant_of-self c =
    let slot = c.take_slot-slot in
    let put = c.place_order.ensures in
    seen-placed c.self.invariant c.self.view_is slot.result slot.new.free.items slot.ensures.slot slot.ensures.capacity c.args.order c.requires.unnamed c.args.top_min put.entries put.capacity c.requires.fit

pub returns-clause-fresh : goal.returns-clause-fresh
returns-clause-fresh c = let slot = c.take_slot-slot in seen-fresh c.self.invariant c.self.view_is slot.result slot.new.free.items slot.ensures.slot slot.ensures.capacity
