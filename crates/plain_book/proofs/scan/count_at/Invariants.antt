use Rattle.std.proofs.Common.{◌≡◌, ◌≤◌, take, length}
use Rattle.plain_book.specs.Orders.{orders_at, level}
use Rattle.plain_book.proofs.scan.count_at.Given as goal

abbrev pub invariant-loop-entry : goal.invariant-loop-entry
invariant-loop-entry l = (l.count ≡ length (orders_at (level l.instrument l.side l.price) (take l.entry-index l.entries))) × (l.count ≤ l.entry-index)
