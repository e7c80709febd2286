use Rattle.std.proofs.Common.{◌∷◌, [], option_map, ◌∙◌}
use Rattle.plain_book.specs.Orders.{stops_of}
use Rattle.plain_book.specs.Book.{slot_number}
use Rattle.book_image.proofs.WriteWalks.{walked-none, walked-row, walked-room, walked-all}
use Rattle.book_walks.proofs.OrderWalks.{ToComeAt}
use Rattle.book_walks.proofs.MetOrders.{MetStop, met-stop, none-to-come}
use Rattle.book_image.proofs.write.write_stops.Given.{Over}
use Rattle.book_image.proofs.write.write_stops.Goals as goal
use Rattle.book_image.proofs.write.write_stops.Goals.{In-Some}

-- the stop that the walk stands at
met : (g : Over) (c : In-Some g) → MetStop c.args.instrument (g.B.Book.book c.args.book.now) c.loop-next.next c.loop-next.invariant.rest c.in-Some.slot.0
met g c =
    let w = c.loop-next.invariant in
    met-stop c.args.instrument (g.B.Book.book c.args.book.now) c.rules.ensures w.done w.rest c.loop-next.next c.in-Some.slot w.whole w.next c.in-Some.is

pub order-requires : goal.order-requires
order-requires g c = (met g c).live

pub write_row-end-requires : goal.write_row-end-requires
write_row-end-requires g c =
    let n = (met g (goal.at.write_row-end-requires g c).In-Some).next in
    walked-room (stops_of c.args.instrument (g.B.Book.book c.args.book.now).waiting) c.loop-next.invariant (n.e ∷ []) n.behind n.is c.requires.room

pub next_waiting-next-requires : goal.next_waiting-next-requires
next_waiting-next-requires g c = (met g (goal.at.next_waiting-next-requires g c).In-Some).kept

pub loop-next-init : goal.loop-next-init
loop-next-init g c =
    walked-none (stops_of c.args.instrument (g.B.Book.book c.args.book.now).waiting)
    (ToComeAt (option_map slot_number c.first_waiting-next.result)) c.args.into.now c.args.at c.first_waiting-next.ensures

pub loop-next-preserved : goal.loop-next-preserved
loop-next-preserved g c =
    let m = met g (goal.at.loop-next-preserved g c).In-Some in
    walked-row (stops_of c.args.instrument (g.B.Book.book c.args.book.now).waiting) c.loop-next.invariant (ToComeAt (option_map slot_number c.next_waiting-next.result)) m.next
    c.write_row-end.new.into c.write_row-end.result c.order.result.now (c.order.ensures ∙ m.order) (c.next_waiting-next.ensures ∙ m.behind) c.write_row-end.ensures

pub loop-next-smaller : goal.loop-next-smaller
loop-next-smaller g c = (met g (goal.at.loop-next-smaller g c).In-Some).fewer c.next_waiting-next.result c.next_waiting-next.ensures

pub returns : goal.returns
returns g c =
    walked-all (stops_of c.args.instrument (g.B.Book.book c.args.book.now).waiting) c.loop-next.invariant
    (none-to-come c.loop-next.next c.loop-next.invariant.rest c.loop-next.invariant.next c.in_default.is)
