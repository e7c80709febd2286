use Rattle.std.proofs.Common.{◌≡◌, drop, true, false}
use Rattle.plain_book.specs.Orders.{orders_at, level_of, slot_of, slot_after}
use Rattle.plain_book.proofs.scan.next_at.Given as goal

abbrev pub invariant-loop-entry : goal.invariant-loop-entry
invariant-loop-entry l = record {
  past : l.found ≡ true → slot_of (orders_at (level_of l.order) (drop l.entry-index l.entries)) ≡ slot_after l.slot (orders_at (level_of l.order) l.entries);
  before : l.found ≡ false → slot_after l.slot (orders_at (level_of l.order) (drop l.entry-index l.entries)) ≡ slot_after l.slot (orders_at (level_of l.order) l.entries);
}
