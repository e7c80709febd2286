use Rattle.std.proofs.Common.{sym, subst}
use Rattle.plain_book.specs.Orders.{HasSlot}
use Rattle.plain_book.specs.Book.{Book, live_orders}
use Rattle.book_tests.proofs.Slots.{placed-live}
use Rattle.book_tests.proofs.calls.place.Goals as goal

pub answer_at-requires : goal.answer_at-requires
answer_at-requires g c =
    let s = c.place-slot.result.0 in
    subst (λ (b : Book). HasSlot s (live_orders b)) (sym c.place-slot.ensures.placed) (placed-live s c.order-order.result c.top_min-top_min.result (g.B.Book.book c.args.book.now))
