use Rattle.std.proofs.Common.{◌≡◌, drop}
use Rattle.plain_book.specs.Orders.{slot_named}
use Rattle.plain_book.proofs.scan.find_at.Given as goal

abbrev pub invariant-loop-entry : goal.invariant-loop-entry
invariant-loop-entry l = slot_named l.firm l.id (drop l.entry-index l.entries) ≡ slot_named l.firm l.id l.entries
