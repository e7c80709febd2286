use Rattle.plain_book.proofs.Levels.{AllDiffer-front}
use Rattle.book_tests.proofs.Slots.{early-tops}
use Rattle.book_tests.proofs.calls.top_slot.Goals as goal

pub returns : goal.returns
returns g c =
    let b = g.B.Book.book c.args.book.now in
    early-tops c.args.instrument c.args.side c.best.result c.in_ok-price.price b.resting (AllDiffer-front b.resting b.waiting c.rules.ensures.differ) c.best.ensures c.in_ok-price.was c.early_at.result c.early_at.ensures
