use Rattle.std.proofs.Common.{sym, subst}
use Rattle.plain_book.specs.Orders.{HasSlot}
use Rattle.plain_book.specs.Book.{Book, live_orders}
use Rattle.book_tests.proofs.Slots.{waited-live}
use Rattle.book_tests.proofs.calls.enter_stop.Goals as goal

pub answer_at-requires : goal.answer_at-requires
answer_at-requires g c =
    let s = c.wait-slot.result.0 in
    subst (λ (b : Book). HasSlot s (live_orders b)) (sym c.wait-slot.ensures.waited) (waited-live s c.args.order (g.B.Book.book c.args.book.now))
