use Rattle.plain_book.specs.Orders.{is_at, orders_at}
use Rattle.book_tests.proofs.Slots.{StandsIn, stands-first, stands-after, stands-part, stands-resting}
use Rattle.book_tests.proofs.calls.reads.read_level.Given.{Over}
use Rattle.book_tests.proofs.calls.reads.read_level.Goals as goal
use Rattle.book_tests.proofs.calls.reads.read_level.Goals.{After-first-at, After-next-at}

-- the first order rests
first : (g : Over) (c : After-first-at g) → StandsIn (g.B.Book.book c.args.book.now).resting c.first-at.result
first g c =
    let es = (g.B.Book.book c.args.book.now).resting in
    stands-part (is_at _) es c.first-at.result (stands-first (orders_at _ es) c.first-at.result c.first-at.ensures)

-- so does the next one
next : (g : Over) (c : After-next-at g) → StandsIn (g.B.Book.book c.args.book.now).resting c.next-at.result
next g c =
    let es = (g.B.Book.book c.args.book.now).resting in
    stands-part (is_at _) es c.next-at.result (stands-after c.in-Some.slot.0 (orders_at _ es) c.next-at.result c.next-at.ensures)

pub answer_at-requires : goal.answer_at-requires
answer_at-requires g c = stands-resting (g.B.Book.book c.args.book.now) c.first-at.result (first g (goal.at.answer_at-requires g c).After-first-at)

pub loop-order-init : goal.loop-order-init
loop-order-init g c = first g (goal.at.loop-order-init g c).After-first-at

pub answer_at-requires-in-loop-order : goal.answer_at-requires-in-loop-order
answer_at-requires-in-loop-order g c = stands-resting (g.B.Book.book c.args.book.now) c.next-at.result (next g (goal.at.answer_at-requires-in-loop-order g c).After-next-at)

pub loop-order-preserved : goal.loop-order-preserved
loop-order-preserved g c = next g (goal.at.loop-order-preserved g c).After-next-at
