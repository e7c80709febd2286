use Rattle.std.proofs.Common.{◌≡◌, replicate, vec_capacity}
use Rattle.book_side.specs.Inner.Content.{no_tops}
use Rattle.book_side.proofs.tops.no_tops.Given as goal

abbrev pub invariant-loop : goal.invariant-loop
invariant-loop l = (l.tops.items ≡ replicate l.counter no_tops) × (vec_capacity l.tops ≡ l.instruments)
