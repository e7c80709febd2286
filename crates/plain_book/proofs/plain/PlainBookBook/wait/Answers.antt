use Rattle.plain_book.proofs.KeptCalls.{seen-fresh, seen-waited}
use Rattle.plain_book.proofs.plain.PlainBookBook.wait.Goals as goal

pub invariant_of-self : goal.invariant_of-self
invariant_of-self c =
    let slot = c.take_slot-slot in
    let put = c.line_up.ensures in
    seen-waited c.self.invariant c.self.view_is slot.result slot.new.free.items slot.ensures.slot slot.ensures.capacity c.args.order c.requires.unnamed put.entries put.capacity c.requires.fit

pub returns-clause-fresh : goal.returns-clause-fresh
returns-clause-fresh c = let slot = c.take_slot-slot in seen-fresh c.self.invariant c.self.view_is slot.result slot.new.free.items slot.ensures.slot slot.ensures.capacity
