use Rattle.std.proofs.Common.{filter}
use Rattle.book_image.specs.Inner.Writing.{AppendsRows}
use Rattle.book_walks.proofs.InstrumentWalks.{is_of_before}
use Rattle.book_image.proofs.write.write_waiting.Given as goal

abbrev pub invariant-loop-instrument : goal.invariant-loop-instrument
invariant-loop-instrument g l = AppendsRows l.initial.into l.into l.rows l.end (filter (is_of_before l.instrument) (g.B.Book.book l.book).waiting)
