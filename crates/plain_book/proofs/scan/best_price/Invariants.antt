use Rattle.std.proofs.Common.{◌≡◌, drop}
use Rattle.plain_book.specs.Orders.{best_of}
use Rattle.plain_book.proofs.scan.best_price.Given as goal

abbrev pub invariant-loop-entry : goal.invariant-loop-entry
invariant-loop-entry l = best_of l.instrument l.side (drop l.entry-index l.entries) ≡ best_of l.instrument l.side l.entries
