use Rattle.std.proofs.Common.{◌≡◌, drop, true, false}
use Rattle.plain_book.specs.Orders.{stops_of, slot_of, slot_after}
use Rattle.plain_book.proofs.scan.next_stop.Given as goal

abbrev pub invariant-loop-entry : goal.invariant-loop-entry
invariant-loop-entry l = record {
  past : l.found ≡ true → slot_of (stops_of l.instrument (drop l.entry-index l.entries)) ≡ slot_after l.slot (stops_of l.instrument l.entries);
  before : l.found ≡ false → slot_after l.slot (stops_of l.instrument (drop l.entry-index l.entries)) ≡ slot_after l.slot (stops_of l.instrument l.entries);
}
