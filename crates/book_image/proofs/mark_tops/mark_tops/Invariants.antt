use Rattle.book_image.specs.Reading.{with_all_tops}
use Rattle.book_image.specs.Inner.Loading.{HasResting}
use Rattle.plain_book.specs.Numbers.{numbered}
use Rattle.book_image.proofs.mark_tops.mark_tops.Given as goal

abbrev pub invariant-loop-k : goal.invariant-loop-k
invariant-loop-k g l = HasResting (g.B.Book.book l.initial.book) (g.B.Book.book l.book) (with_all_tops l.payload l.k (numbered (g.B.Book.book l.initial.book).resting))
