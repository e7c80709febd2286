use Rattle.std.proofs.Common.{◌≡◌, drop}
use Rattle.plain_book.specs.Orders.{HasSlot, order_of}
use Rattle.plain_book.proofs.scan.order_at.Given as goal

abbrev pub invariant-loop-entry : goal.invariant-loop-entry
invariant-loop-entry l = (HasSlot l.slot (drop l.entry-index l.entries)) × (order_of l.slot (drop l.entry-index l.entries) ≡ order_of l.slot l.entries)
