use Rattle.book_tests.proofs.Slots.{StandsIn}
use Rattle.book_tests.proofs.calls.reads.read_stops.Given as goal

abbrev pub invariant-loop-stop : goal.invariant-loop-stop
invariant-loop-stop g l = StandsIn (g.B.Book.book l.book).waiting l.at
