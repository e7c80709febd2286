use Rattle.book_tests.proofs.Slots.{StandsIn}
use Rattle.book_tests.proofs.calls.reads.read_level.Given as goal

abbrev pub invariant-loop-order : goal.invariant-loop-order
invariant-loop-order g l = StandsIn (g.B.Book.book l.book).resting l.at
