use Rattle.plain_book.specs.Book.{live_orders}
use Rattle.feed_print.proofs.Noted.{found-has}
use Rattle.feed_print.proofs.applying.note_asked.Goals as goal

pub order-order-requires : goal.order-order-requires
order-order-requires g c =
    found-has c.in-Replace.asked.sender.firm c.in-Replace.asked.old (live_orders (g.B.Book.book c.book-book.result.now)) c.find.result c.in-Some.slot c.find.ensures c.in-Some.is
