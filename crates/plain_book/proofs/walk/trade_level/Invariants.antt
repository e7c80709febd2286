use Rattle.std.proofs.Common.{length}
use Rattle.std.specs.Prelude.{option_map}
use Rattle.plain_book.specs.Orders.{orders_at}
use Rattle.plain_book.specs.Book.{slot_number}
use Rattle.plain_book.specs.Matches.{match_at}
use Rattle.plain_book.specs.Shares.{shares_by}
use Rattle.plain_book.specs.Steps.{facing}
use Rattle.plain_book.proofs.WalkSteps.{still_to_come}
use Rattle.plain_book.proofs.WalkLevel.{IsWalk}
use Rattle.plain_book.proofs.walk.trade_level.Given as goal

abbrev pub invariant-loop-at : goal.invariant-loop-at
invariant-loop-at g l =
    let b = g.B.Book.book l.fn.book in
    let k = facing l.fn.level.price l.fn.taker in
    IsWalk g.E.Emit.meanings g.R.ShareRule.meanings k l.fn.level.step (shares_by g.R.ShareRule.meanings l.fn.rule (orders_at k b.resting)) (match_at b l.fn.desk l.fn.taker l.fn.out)
    (option_map slot_number l.at) (option_map slot_number l.end) l.rule (match_at (g.B.Book.book l.book) l.desk l.taker l.out)

abbrev pub decreases-loop-at : goal.decreases-loop-at
decreases-loop-at g l =
    length (still_to_come (option_map slot_number l.at) (option_map slot_number l.end) (orders_at (facing l.fn.level.price l.fn.taker) (g.B.Book.book l.book).resting))
