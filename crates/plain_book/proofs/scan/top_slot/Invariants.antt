use Rattle.std.proofs.Common.{◌≡◌, drop}
use Rattle.plain_book.specs.Orders.{top_of}
use Rattle.plain_book.proofs.scan.top_slot.Given as goal

abbrev pub invariant-loop-entry : goal.invariant-loop-entry
invariant-loop-entry l = top_of l.instrument l.side (drop l.entry-index l.entries) ≡ top_of l.instrument l.side l.entries
