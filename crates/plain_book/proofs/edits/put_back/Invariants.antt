use Rattle.std.proofs.Common.{◌≡◌}
use Rattle.plain_book.specs.Orders.{reordered}
use Rattle.plain_book.proofs.Mapped.{mapped}
use Rattle.plain_book.proofs.edits.put_back.Given as goal

abbrev pub invariant-loop-entry : goal.invariant-loop-entry
invariant-loop-entry l = l.entry-items ≡ mapped (reordered l.slot l.order) l.fn.entries.items l.entry-index
