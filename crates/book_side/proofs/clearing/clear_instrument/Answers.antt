use Rattle.std.proofs.Common.{length, ◌<◌, sym, ap, subst, ◌∙◌}
use Rattle.plain_book.specs.Book.{Book, live_orders}
use Rattle.book_side.specs.Inner.Steps.{AreFrom}
use Rattle.book_side.proofs.Cleared.{next-from, from-without, fewer-without}
use Rattle.book_side.proofs.clearing.clear_instrument.Goals as goal

pub loop-slot-smaller : goal.loop-slot-smaller
loop-slot-smaller c = subst (λ (b : Book). length (live_orders b) < length (live_orders c.loop-slot.book)) (sym c.remove.ensures.left) (fewer-without c.in-Some.slot.0 c.loop-slot.book c.rules.ensures c.in-Some.ensures)

pub loop-slot-preserved : goal.loop-slot-preserved
loop-slot-preserved c =
    let left = c.remove.ensures.left in
    let was = c.loop-slot.invariant in (
      ap (λ (b : Book). b.capacity) left ∙ was.0,
      ap (λ (b : Book). b.instruments) left ∙ was.1,
      subst (λ (b : Book). AreFrom c.args.instrument (live_orders b)) (sym left) (from-without c.args.instrument c.in-Some.slot.0 c.loop-slot.book was.2),
    )

pub returns-clause-from : goal.returns-clause-from
returns-clause-from c = next-from c.args.instrument (live_orders c.loop-slot.book) c.loop-slot.invariant.2 c.in_default.ensures
