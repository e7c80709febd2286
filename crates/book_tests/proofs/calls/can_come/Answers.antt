use Rattle.plain_book.specs.Book.{live_orders}
use Rattle.book_tests.proofs.Slots.{none-named}
use Rattle.book_tests.proofs.calls.can_come.Goals as goal

pub returns-clause-unnamed : goal.returns-clause-unnamed
returns-clause-unnamed g c = λ is.
    none-named c.args.firm c.args.id.now (live_orders (g.B.Book.book c.args.book.now)) c.find.result c.is_none.result c.find.ensures c.is_none.ensures is
