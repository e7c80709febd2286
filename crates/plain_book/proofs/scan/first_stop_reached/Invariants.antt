use Rattle.std.proofs.Common.{◌≡◌, drop}
use Rattle.plain_book.specs.Orders.{slot_of}
use Rattle.plain_book.specs.Waiting.{reached_stops}
use Rattle.plain_book.proofs.scan.first_stop_reached.Given as goal

abbrev pub invariant-loop-entry : goal.invariant-loop-entry
invariant-loop-entry l = slot_of (reached_stops l.instrument (l.least, l.greatest) (drop l.entry-index l.entries)) ≡ slot_of (reached_stops l.instrument (l.least, l.greatest) l.entries)
