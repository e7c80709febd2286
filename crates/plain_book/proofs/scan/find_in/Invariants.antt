use Rattle.std.proofs.Common.{◌≡◌, ◌++◌, drop}
use Rattle.plain_book.specs.Orders.{slot_named}
use Rattle.plain_book.proofs.scan.find_in.Given as goal

abbrev pub invariant-loop-entry : goal.invariant-loop-entry
invariant-loop-entry l = slot_named l.firm l.id (drop l.entry-index l.resting ++ l.waiting) ≡ slot_named l.firm l.id (l.resting ++ l.waiting)
