use Rattle.std.proofs.Common.{◌≡◌, drop}
use Rattle.plain_book.specs.Orders.{stops_of, slot_of}
use Rattle.plain_book.proofs.scan.first_stop.Given as goal

abbrev pub invariant-loop-entry : goal.invariant-loop-entry
invariant-loop-entry l = slot_of (stops_of l.instrument (drop l.entry-index l.entries)) ≡ slot_of (stops_of l.instrument l.entries)
