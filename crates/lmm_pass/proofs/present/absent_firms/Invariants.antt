use Rattle.std.proofs.Common.{option_map}
use Rattle.plain_book.specs.Orders.{orders_at}
use Rattle.plain_book.specs.Book.{slot_number}
use Rattle.plain_book.specs.Steps.{facing}
use Rattle.plain_book.proofs.LeftFrom.{left_from}
use Rattle.lmm_pass.proofs.Absent.{IsMeeting}
use Rattle.lmm_pass.proofs.present.absent_firms.Given as goal

abbrev pub invariant-loop-at : goal.invariant-loop-at
invariant-loop-at g l = IsMeeting (orders_at (facing l.fn.price l.fn.taker) (g.B.Book.book l.fn.book).resting) l.fn.firms l.absent (option_map slot_number l.at)

abbrev pub decreases-loop-at : goal.decreases-loop-at
decreases-loop-at g l = left_from (option_map slot_number l.at) (orders_at (facing l.fn.price l.fn.taker) (g.B.Book.book l.fn.book).resting)
