use Rattle.std.proofs.Common.{option_map}
use Rattle.plain_book.specs.Orders.{stops_of}
use Rattle.plain_book.specs.Book.{slot_number}
use Rattle.book_image.proofs.WriteWalks.{IsWalked}
use Rattle.book_walks.proofs.OrderWalks.{ToComeAt, left_from}
use Rattle.book_image.proofs.write.write_stops.Given as goal

abbrev pub invariant-loop-next : goal.invariant-loop-next
invariant-loop-next g l =
    IsWalked (stops_of l.instrument (g.B.Book.book l.book).waiting) (ToComeAt (option_map slot_number l.next)) l.initial.into l.into l.fn.at l.end

abbrev pub decreases-loop-next : goal.decreases-loop-next
decreases-loop-next g l = left_from (option_map slot_number l.next) (stops_of l.instrument (g.B.Book.book l.book).waiting)
