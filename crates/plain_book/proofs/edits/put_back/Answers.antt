use Rattle.std.proofs.Common.{◌<◌, List, length, ap, arith}
use Rattle.plain_book.specs.declared.entry.Entry.{Entry}
use Rattle.plain_book.specs.Orders.{reordered}
use Rattle.plain_book.proofs.Mapped.{mapped_more}
use Rattle.plain_book.proofs.edits.put_back.Goals as goal

pub loop-entry-preserved : goal.loop-entry-preserved
loop-entry-preserved c =
    let entries = c.args.entries.now.items in
    let lt : c.loop-entry.entry-index < length entries = omega (arith, ap (λ (l : List Entry). length l) c.deref_mut-entry-items.ensures.value) in
    mapped_more (reordered c.args.slot c.args.order.now) entries c.loop-entry.entry-items c.loop-entry.entry-index _ c.reordered.result lt c.loop-entry.invariant c.reordered.ensures
