use Rattle.book_tests.proofs.Slots.{stands-resting, stands-top}
use Rattle.book_tests.proofs.calls.reads.top_of.Goals as goal

pub answer_at-requires : goal.answer_at-requires
answer_at-requires g c =
    let b = g.B.Book.book c.args.book.now in
    stands-resting b c.top.result (stands-top c.args.instrument c.args.side b.resting c.top.result c.top.ensures)
