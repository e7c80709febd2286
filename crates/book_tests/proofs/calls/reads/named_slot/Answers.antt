use Rattle.plain_book.specs.Book.{live_orders}
use Rattle.book_tests.proofs.Slots.{stands-named}
use Rattle.book_tests.proofs.calls.reads.named_slot.Goals as goal

pub returns : goal.returns
returns g c = stands-named _ _ (live_orders (g.B.Book.book c.args.book.now)) c.find.result c.find.ensures
