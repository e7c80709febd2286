use Rattle.std.proofs.Common.{◌≡◌, length}
use Rattle.plain_book.specs.Book.{live_orders}
use Rattle.book_side.specs.Inner.Steps.{AreFrom}
use Rattle.book_side.proofs.clearing.clear_instrument.Given as goal

abbrev pub invariant-loop-slot : goal.invariant-loop-slot
invariant-loop-slot l = (l.book.capacity ≡ l.fn.book.capacity) × (l.book.instruments ≡ l.fn.book.instruments) × AreFrom l.instrument (live_orders l.book)

abbrev pub decreases-loop-slot : goal.decreases-loop-slot
decreases-loop-slot l = length (live_orders l.book)
