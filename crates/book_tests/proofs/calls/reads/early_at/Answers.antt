use Rattle.std.proofs.Common.{sym, ap, ◌∙◌}
use Rattle.std.specs.Prelude.{option_map}
use Rattle.plain_book.specs.Orders.{Level, HasSlot, level, orders_at, slot_of, slot_after}
use Rattle.plain_book.specs.Book.{slot_number}
use Rattle.plain_book.proofs.Found.{first-rests}
use Rattle.plain_book.proofs.Levels.{AllDiffer-front}
use Rattle.plain_book.proofs.Live.{first-has}
use Rattle.book_tests.proofs.Slots.{stands-after, held-level}
use Rattle.book_tests.proofs.calls.reads.early_at.Goals as goal

pub next-requires : goal.next-requires
next-requires g c =
    first-rests (level c.args.instrument c.args.side c.args.price) (g.B.Book.book c.args.book.now).resting c.first.result c.in_ok-first.first c.first.ensures c.in_ok-first.was

pub returns : goal.returns
returns g c =
    let b = g.B.Book.book c.args.book.now in
    let k = level c.args.instrument c.args.side c.args.price in
    let es = orders_at k b.resting in
    let s = c.in_ok-first.first.0 in
    let has : HasSlot s es = first-has s es (sym {b = slot_of es} c.first.ensures ∙ ap (option_map slot_number) c.in_ok-first.was) in
    let is = held-level k s b.resting (AllDiffer-front b.resting b.waiting c.rules.ensures.differ) has in
    stands-after s es c.next.result (c.next.ensures ∙ ap (λ (j : Level). slot_after s (orders_at j b.resting)) is)
