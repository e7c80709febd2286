use Rattle.std.proofs.Common.{◌∙◌, option_map, refl, ap}
use Rattle.plain_book.specs.Orders.{slot_of, orders_at}
use Rattle.plain_book.specs.Book.{Book, slot_number}
use Rattle.plain_book.specs.Steps.{facing}
use Rattle.lmm_pass.proofs.Absent.{Turn, none-due, meeting-turn, meeting-more, meeting-over, meeting-fewer}
use Rattle.lmm_pass.proofs.present.absent_firms.Given.{Over}
use Rattle.lmm_pass.proofs.present.absent_firms.Goals as goal
use Rattle.lmm_pass.proofs.present.absent_firms.Goals.{In-Some}

-- the order that the walk stands at
turn : (g : Over) (c : In-Some g) → Turn (facing c.args.price c.args.taker.now) (g.B.Book.book c.args.book.now) c.loop-at.invariant.done c.loop-at.invariant.rest c.in-Some.slot.0
turn g c = meeting-turn (facing c.args.price c.args.taker.now) (g.B.Book.book c.args.book.now) c.loop-at.invariant c.in-Some.slot.0 c.rules.ensures (ap (option_map slot_number) c.in-Some.is)

pub returns-then-is_empty : goal.returns-then-is_empty
returns-then-is_empty g c = none-due c.args.firms (orders_at (facing c.args.price c.args.taker.now) (g.B.Book.book c.args.book.now).resting) (c.if-is_empty.ensures.0 refl)

pub order-requires : goal.order-requires
order-requires g c = (turn g c).live

pub returns-then-is_empty-2 : goal.returns-then-is_empty-2
returns-then-is_empty-2 g c =
    let k = facing c.args.price c.args.taker.now in
    let b : Book = g.B.Book.book c.args.book.now in
    let t = turn g (goal.at.returns-then-is_empty-2 g c).In-Some in
    let w = meeting-more k b c.loop-at.invariant c.in-Some.slot.0 t c.order.result.now c.without-absent.result (slot_of t.behind) c.order.ensures c.without-absent.ensures refl in
    meeting-over k b w (c.if-is_empty-2.ensures.0 refl)

pub next-at-requires : goal.next-at-requires
next-at-requires g c = (turn g (goal.at.next-at-requires g c).In-Some).has

pub loop-at-preserved : goal.loop-at-preserved
loop-at-preserved g c =
    let k = facing c.args.price c.args.taker.now in
    let b : Book = g.B.Book.book c.args.book.now in
    let t = turn g (goal.at.loop-at-preserved g c).In-Some in
    meeting-more k b c.loop-at.invariant c.in-Some.slot.0 t c.order.result.now c.without-absent.result (option_map slot_number c.next-at.result) c.order.ensures c.without-absent.ensures (c.next-at.ensures ∙ t.next)

pub loop-at-smaller : goal.loop-at-smaller
loop-at-smaller g c =
    let k = facing c.args.price c.args.taker.now in
    let t = turn g (goal.at.loop-at-smaller g c).In-Some in
    meeting-fewer k (g.B.Book.book c.args.book.now) c.loop-at.invariant c.in-Some.slot.0 t (option_map slot_number c.next-at.result) c.rules.ensures (c.next-at.ensures ∙ t.next)
