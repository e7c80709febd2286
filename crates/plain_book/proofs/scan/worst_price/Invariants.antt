use Rattle.std.proofs.Common.{◌≡◌, drop}
use Rattle.plain_book.specs.Orders.{side_of, worst_of}
use Rattle.plain_book.proofs.Lasts.{last_after}
use Rattle.plain_book.proofs.scan.worst_price.Given as goal

abbrev pub invariant-loop-entry : goal.invariant-loop-entry
invariant-loop-entry l = last_after l.worst (side_of l.instrument l.side (drop l.entry-index l.entries)) ≡ worst_of l.instrument l.side l.entries
