use Rattle.std.proofs.Common.{length}
use Rattle.plain_book.specs.Orders.{side_of}
use Rattle.book_image.proofs.WriteWalks.{IsWalked}
use Rattle.book_walks.proofs.SideLevels.{ToComeFrom, from_price}
use Rattle.book_image.proofs.write.write_side.Given as goal

abbrev pub invariant-loop-next : goal.invariant-loop-next
invariant-loop-next g l =
    let side = side_of l.instrument l.fn.side (g.B.Book.book l.book).resting in
    IsWalked side (ToComeFrom l.fn.side side l.next) l.initial.into l.into l.fn.at l.end

abbrev pub decreases-loop-next : goal.decreases-loop-next
decreases-loop-next g l = length (from_price l.fn.side l.next (side_of l.instrument l.fn.side (g.B.Book.book l.book).resting))
