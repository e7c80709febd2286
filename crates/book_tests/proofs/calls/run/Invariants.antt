use Rattle.std.proofs.Common.{◌≡◌}
use Rattle.book_tests.specs.declared.calls.draws.TheConstants.{INSTRUMENTS}
use Rattle.book_tests.proofs.calls.run.Given as goal

abbrev pub invariant-loop-step : goal.invariant-loop-step
invariant-loop-step g l = (g.B.Book.book l.book).instruments ≡ INSTRUMENTS
