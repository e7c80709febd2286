use Rattle.std.proofs.Common.{◌≡◌, ◌≤◌, ◌*◌, take}
use Rattle.plain_book.specs.Orders.{open_within}
use Rattle.plain_book.proofs.scan.open_lots.Given as goal

abbrev pub invariant-loop-entry : goal.invariant-loop-entry
invariant-loop-entry l = (l.total ≡ open_within l.instrument l.side l.limit.0 (take l.entry-index l.entries)) × (l.total ≤ 4294967295 * l.entry-index)
