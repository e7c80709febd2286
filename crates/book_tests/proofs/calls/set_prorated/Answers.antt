use Rattle.plain_book.proofs.Levels.{HasSlot-left}
use Rattle.book_tests.proofs.calls.set_prorated.Goals as goal

pub order_at-order-requires : goal.order_at-order-requires
order_at-order-requires g c =
    let b = g.B.Book.book c.args.book.now in
    HasSlot-left c.in-Some.slot.0 b.resting b.waiting c.in-Some.ensures
