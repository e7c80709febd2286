use Rattle.std.proofs.Common.{◌≡◌, ◌++◌, drop}
use Rattle.book_image.specs.Reading.{lasts_at}
use Rattle.book_image.proofs.load.load_lasts.Given as goal

abbrev pub invariant-loop-k : goal.invariant-loop-k
invariant-loop-k g l = l.core ≡ record l.initial.core { last = lasts_at l.payload 0 l.k ++ drop l.k l.initial.core.last }
