use Rattle.book_tests.proofs.Slots.{stands-waiting, stands-reached}
use Rattle.book_tests.proofs.calls.reads.reached_slot.Goals as goal

pub returns : goal.returns
returns g c =
    let b = g.B.Book.book c.args.book.now in
    stands-waiting b c.first_reached.result (stands-reached _ _ b.waiting c.first_reached.result c.first_reached.ensures)
