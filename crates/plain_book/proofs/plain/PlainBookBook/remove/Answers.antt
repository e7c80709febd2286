use Rattle.plain_book.proofs.KeptCalls.{seen-removed}
use Rattle.plain_book.proofs.plain.PlainBookBook.remove.Goals as goal

pub invariant_of-self : goal.invariant_of-self
invariant_of-self c =
    let rest = c.take_out.ensures in
    let wait = c.take_out-2.ensures in
    let slot = c.give_slot.ensures in
    seen-removed c.self.invariant c.self.view_is c.args.slot.0 c.requires.live rest.entries rest.capacity wait.entries wait.capacity slot.free slot.capacity
