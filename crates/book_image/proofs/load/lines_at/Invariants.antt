use Rattle.std.proofs.Common.{◌≡◌, ◌++◌, drop}
use Rattle.book_image.specs.Reading.{numbers_at}
use Rattle.book_image.proofs.load.lines_at.Given as goal

abbrev pub invariant-loop-k : goal.invariant-loop-k
invariant-loop-k l = l.lines ≡ numbers_at l.payload 32 l.k ++ drop l.k l.initial.lines
