use Rattle.std.proofs.Common.{◌≡◌, ◌++◌, drop}
use Rattle.plain_book.specs.Orders.{HasSlot, order_of}
use Rattle.plain_book.proofs.scan.order_in.Given as goal

abbrev pub invariant-loop-entry : goal.invariant-loop-entry
invariant-loop-entry l = (HasSlot l.slot (drop l.entry-index l.resting ++ l.waiting)) × (order_of l.slot (drop l.entry-index l.resting ++ l.waiting) ≡ order_of l.slot (l.resting ++ l.waiting))
