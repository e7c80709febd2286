use Rattle.plain_book.specs.Matches.{match_at}
use Rattle.level_sweep.proofs.Rounds.{IsSwept}
use Rattle.level_sweep.proofs.sweeping.sweep.Given as goal

abbrev pub invariant-loop-price : goal.invariant-loop-price
invariant-loop-price g l =
    let before = match_at (g.B.Book.book l.fn.book) l.fn.desk l.fn.taker l.fn.out in
    IsSwept g.E.Emit.meanings l.fn.steps l.fn.limit before (match_at (g.B.Book.book l.book) l.desk l.taker l.out)

abbrev pub decreases-loop-price : goal.decreases-loop-price
decreases-loop-price g l = l.taker.order.leaves
