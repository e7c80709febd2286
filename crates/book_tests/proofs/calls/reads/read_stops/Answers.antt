use Rattle.plain_book.specs.Orders.{is_of, stops_of}
use Rattle.book_tests.proofs.Slots.{StandsIn, stands-first, stands-after, stands-part, stands-waiting}
use Rattle.book_tests.proofs.calls.reads.read_stops.Given.{Over}
use Rattle.book_tests.proofs.calls.reads.read_stops.Goals as goal
use Rattle.book_tests.proofs.calls.reads.read_stops.Goals.{After-first_waiting-at, After-next_waiting-at}

-- the first stop waits
first : (g : Over) (c : After-first_waiting-at g) → StandsIn (g.B.Book.book c.args.book.now).waiting c.first_waiting-at.result
first g c =
    let es = (g.B.Book.book c.args.book.now).waiting in
    stands-part (is_of _) es c.first_waiting-at.result (stands-first (stops_of _ es) c.first_waiting-at.result c.first_waiting-at.ensures)

-- so does the next one
next : (g : Over) (c : After-next_waiting-at g) → StandsIn (g.B.Book.book c.args.book.now).waiting c.next_waiting-at.result
next g c =
    let es = (g.B.Book.book c.args.book.now).waiting in
    stands-part (is_of _) es c.next_waiting-at.result (stands-after c.in-Some.slot.0 (stops_of _ es) c.next_waiting-at.result c.next_waiting-at.ensures)

pub answer_at-requires : goal.answer_at-requires
answer_at-requires g c = stands-waiting (g.B.Book.book c.args.book.now) c.first_waiting-at.result (first g (goal.at.answer_at-requires g c).After-first_waiting-at)

pub loop-stop-init : goal.loop-stop-init
loop-stop-init g c = first g (goal.at.loop-stop-init g c).After-first_waiting-at

pub answer_at-requires-in-loop-stop : goal.answer_at-requires-in-loop-stop
answer_at-requires-in-loop-stop g c = stands-waiting (g.B.Book.book c.args.book.now) c.next_waiting-at.result (next g (goal.at.answer_at-requires-in-loop-stop g c).After-next_waiting-at)

pub loop-stop-preserved : goal.loop-stop-preserved
loop-stop-preserved g c = next g (goal.at.loop-stop-preserved g c).After-next_waiting-at
