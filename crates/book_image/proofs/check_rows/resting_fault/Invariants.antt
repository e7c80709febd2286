use Rattle.std.proofs.Common.{◌≡◌, length}
use Rattle.plain_book.specs.Book.{live_orders}
use Rattle.book_image.specs.Faults.{orders_at}
use Rattle.book_image.specs.Inner.Checking.{AreRightBelow, is_right_resting_at, HasNames, IsAsMade, IsFrontOf}
use Rattle.book_image.proofs.check_rows.resting_fault.Given as goal

abbrev pub invariant-loop-k : goal.invariant-loop-k
invariant-loop-k g l =
    let book = g.B.Book.book l.book in
    record {
      right : AreRightBelow (is_right_resting_at l.product l.asked l.payload l.first) l.k;
      front : IsFrontOf (orders_at l.payload l.first l.k) l.front;
      names : HasNames book (orders_at l.payload l.first l.k);
      count : length (live_orders book) ≡ l.k;
      made : IsAsMade (g.B.Book.book l.initial.book) book;
    }
