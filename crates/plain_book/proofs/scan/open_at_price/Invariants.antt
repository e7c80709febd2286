use Rattle.std.proofs.Common.{◌≡◌, ◌≤◌, ◌*◌, take}
use Rattle.plain_book.specs.Orders.{open_at, level}
use Rattle.plain_book.proofs.scan.open_at_price.Given as goal

abbrev pub invariant-loop-entry : goal.invariant-loop-entry
invariant-loop-entry l = (l.lots ≡ open_at (level l.instrument l.side l.price) (take l.entry-index l.entries)) × (l.lots ≤ 4294967295 * l.entry-index)
