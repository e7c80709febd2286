use Rattle.std.proofs.Common.{map}
use Rattle.book_image.specs.Reading.{entry_of}
use Rattle.book_image.specs.Inner.Loading.{order_in, orders_from, HasWaiting}
use Rattle.book_image.proofs.wait_rows.wait_rows.Given as goal

abbrev pub invariant-loop-k : goal.invariant-loop-k
invariant-loop-k g l = HasWaiting (g.B.Book.book l.initial.book) (g.B.Book.book l.book) (map entry_of (orders_from (order_in l.payload l.first) 0 l.k))
