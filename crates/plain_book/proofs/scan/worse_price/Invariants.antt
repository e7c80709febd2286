use Rattle.std.proofs.Common.{◌≡◌, drop}
use Rattle.plain_book.specs.Orders.{worse_of}
use Rattle.plain_book.proofs.scan.worse_price.Given as goal

abbrev pub invariant-loop-entry : goal.invariant-loop-entry
invariant-loop-entry l = worse_of l.instrument l.side l.price.0 (drop l.entry-index l.entries) ≡ worse_of l.instrument l.side l.price.0 l.entries
