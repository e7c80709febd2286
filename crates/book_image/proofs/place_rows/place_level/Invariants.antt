use Rattle.std.proofs.Common.{map}
use Rattle.book_image.specs.Reading.{entry_of}
use Rattle.book_image.specs.Inner.Loading.{order_in, HasResting}
use Rattle.book_image.proofs.LoadLevels.{placed_so_far}
use Rattle.book_image.proofs.place_rows.place_level.Given as goal

abbrev pub invariant-loop-k : goal.invariant-loop-k
invariant-loop-k g l =
    HasResting (g.B.Book.book l.initial.book) (g.B.Book.book l.book)
    (map entry_of (placed_so_far (order_in l.payload l.first) l.count l.start l.end l.k))
