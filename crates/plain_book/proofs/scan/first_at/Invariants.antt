use Rattle.std.proofs.Common.{◌≡◌, drop}
use Rattle.plain_book.specs.Orders.{orders_at, level, slot_of}
use Rattle.plain_book.proofs.scan.first_at.Given as goal

abbrev pub invariant-loop-entry : goal.invariant-loop-entry
invariant-loop-entry l = slot_of (orders_at (level l.instrument l.side l.price) (drop l.entry-index l.entries)) ≡ slot_of (orders_at (level l.instrument l.side l.price) l.entries)
