use Rattle.plain_book.specs.Orders.{is_at}
use Rattle.book_tests.proofs.Slots.{stands-part}
use Rattle.book_tests.proofs.calls.resting_slot.Goals as goal

pub returns : goal.returns
returns g c = stands-part (is_at _) (g.B.Book.book c.args.book.now).resting c.early_at.result c.early_at.ensures
