use Rattle.std.proofs.Common.{option_map}
use Rattle.plain_book.specs.Orders.{level, orders_at}
use Rattle.plain_book.specs.Book.{slot_number}
use Rattle.book_image.proofs.LoadTops.{IsPassed}
use Rattle.book_walks.proofs.OrderWalks.{left_from}
use Rattle.book_image.proofs.mark_tops.order_numbered.Given as goal

abbrev pub invariant-loop-at : goal.invariant-loop-at
invariant-loop-at g l = IsPassed l.number (orders_at (level l.instrument l.fn.side l.fn.price) (g.B.Book.book l.book).resting) (option_map slot_number l.at)

abbrev pub decreases-loop-at : goal.decreases-loop-at
decreases-loop-at g l = left_from (option_map slot_number l.at) (orders_at (level l.instrument l.fn.side l.fn.price) (g.B.Book.book l.book).resting)
