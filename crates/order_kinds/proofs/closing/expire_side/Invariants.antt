use Rattle.std.proofs.Common.{option_map}
use Rattle.plain_book.specs.Orders.{side_of}
use Rattle.plain_book.specs.Book.{slot_number}
use Rattle.book_walks.proofs.OrderWalks.{left_from}
use Rattle.order_kinds.proofs.EndedParts.{SideExpiring}
use Rattle.order_kinds.proofs.closing.expire_side.Given as goal

abbrev pub invariant-loop-at : goal.invariant-loop-at
invariant-loop-at g l =
    SideExpiring g.E.Emit.meanings l.time l.instrument l.fn.side (g.B.Book.book l.fn.book) l.fn.desk l.fn.out l.at (g.B.Book.book l.book) l.desk l.out

abbrev pub decreases-loop-at : goal.decreases-loop-at
decreases-loop-at g l = left_from (option_map slot_number l.at) (side_of l.instrument l.fn.side (g.B.Book.book l.fn.book).resting)
