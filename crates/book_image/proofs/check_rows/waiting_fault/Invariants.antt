use Rattle.std.proofs.Common.{◌≡◌, ◌+◌, ◌++◌, length}
use Rattle.std.specs.Prelude.{nat_le}
use Rattle.gx_base.specs.declared.order.Order.{Order}
use Rattle.plain_book.specs.Book.{live_orders}
use Rattle.book_image.specs.Rules.{is_in_line}
use Rattle.book_image.specs.Faults.{orders_at}
use Rattle.book_image.specs.Inner.Checking.{AreRightBelow, is_right_waiting_at, HasNames, IsAsMade}
use Rattle.book_image.proofs.check_rows.waiting_fault.Given as goal

abbrev pub invariant-loop-k : goal.invariant-loop-k
invariant-loop-k g l =
    let book = g.B.Book.book l.book in
    record {
      right : AreRightBelow (is_right_waiting_at l.product l.asked g.resting l.payload l.first) l.k;
      line : (o : Order) → is_in_line o (orders_at l.payload l.first l.k) ≡ nat_le l.instrument o.instrument;
      names : HasNames book (g.resting ++ orders_at l.payload l.first l.k);
      count : length (live_orders book) ≡ length (live_orders (g.B.Book.book l.initial.book)) + l.k;
      made : IsAsMade (g.B.Book.book l.initial.book) book;
    }
