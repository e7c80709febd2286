use Rattle.std.proofs.Common.{◌≡◌}
use Rattle.std.specs.Option.{option_map}
use Rattle.plain_book.specs.Orders.{topped}
use Rattle.plain_book.specs.Book.{slot_number}
use Rattle.plain_book.proofs.Mapped.{mapped}
use Rattle.plain_book.proofs.edits.mark_top.Given as goal

abbrev pub invariant-loop-entry : goal.invariant-loop-entry
invariant-loop-entry l = l.entry-items ≡ mapped (topped l.instrument l.side (option_map slot_number l.top)) l.fn.entries.items l.entry-index
