use Rattle.book_tests.proofs.Slots.{stands-resting}
use Rattle.book_tests.proofs.calls.leaving_slot.Goals as goal

pub returns : goal.returns
returns g c = stands-resting (g.B.Book.book c.args.book.now) c.resting_slot.result c.resting_slot.ensures
