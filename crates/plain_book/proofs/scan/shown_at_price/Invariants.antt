use Rattle.std.proofs.Common.{◌≡◌, ◌≤◌, ◌*◌, take}
use Rattle.plain_book.specs.Orders.{shown_at, level}
use Rattle.plain_book.proofs.scan.shown_at_price.Given as goal

abbrev pub invariant-loop-entry : goal.invariant-loop-entry
invariant-loop-entry l = (l.total ≡ shown_at (level l.instrument l.side l.price) (take l.entry-index l.entries)) × (l.total ≤ 4294967295 * l.entry-index)
