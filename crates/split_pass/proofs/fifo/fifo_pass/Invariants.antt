use Rattle.plain_book.specs.Matches.{match_at}
use Rattle.split_pass.proofs.Rounds.{IsRounding}
use Rattle.split_pass.proofs.fifo.fifo_pass.Given as goal

abbrev pub invariant-loop-taker : goal.invariant-loop-taker
invariant-loop-taker g l =
    IsRounding g.E.Emit.meanings l.fn.price (match_at (g.B.Book.book l.fn.book) l.fn.desk l.fn.taker l.fn.out) (match_at (g.B.Book.book l.book) l.desk l.taker l.out)

abbrev pub decreases-loop-taker : goal.decreases-loop-taker
decreases-loop-taker g l = l.taker.order.leaves
