use Rattle.std.proofs.Common.{◌<◌, List, length, ap, arith}
use Rattle.std.specs.Option.{option_map}
use Rattle.plain_book.specs.declared.entry.Entry.{Entry}
use Rattle.plain_book.specs.Orders.{topped}
use Rattle.plain_book.specs.Book.{slot_number}
use Rattle.plain_book.proofs.Mapped.{mapped_more}
use Rattle.plain_book.proofs.edits.mark_top.Goals as goal

pub loop-entry-preserved : goal.loop-entry-preserved
loop-entry-preserved c =
    let entries = c.args.entries.now.items in
    let lt : c.loop-entry.entry-index < length entries = omega (arith, ap (λ (l : List Entry). length l) c.deref_mut-entry-items.ensures.value) in
    mapped_more (topped c.args.instrument c.args.side (option_map slot_number c.args.top)) entries c.loop-entry.entry-items c.loop-entry.entry-index _ c.topped.result lt c.loop-entry.invariant c.topped.ensures
