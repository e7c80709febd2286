use Rattle.std.proofs.Common.{drop}
use Rattle.plain_book.specs.Matches.{match_at}
use Rattle.lmm_pass.proofs.UnderWay.{IsUnderWay}
use Rattle.lmm_pass.proofs.pass.lmm_pass.Given as goal

abbrev pub invariant-loop-share : goal.invariant-loop-share
invariant-loop-share g l =
    IsUnderWay g.E.Emit.meanings l.fn.price l.fn.shares (match_at (g.B.Book.book l.fn.book) l.fn.desk l.fn.taker l.fn.out) (drop l.share-index l.fn.shares) (match_at (g.B.Book.book l.book) l.desk l.taker l.out)
