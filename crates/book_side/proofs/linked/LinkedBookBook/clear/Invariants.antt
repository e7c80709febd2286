use Rattle.std.proofs.Common.{◌≡◌}
use Rattle.plain_book.specs.Book.{live_orders}
use Rattle.book_side.specs.Inner.Steps.{AreFrom}
use Rattle.book_side.proofs.linked.LinkedBookBook.clear.Given as goal

abbrev pub invariant-loop-instrument : goal.invariant-loop-instrument
invariant-loop-instrument l = (l.self.capacity ≡ l.fn.self.capacity) × (l.self.instruments ≡ l.fn.self.instruments) × AreFrom l.instrument (live_orders l.self)
