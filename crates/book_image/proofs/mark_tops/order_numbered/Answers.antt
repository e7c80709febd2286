use Rattle.std.proofs.Common.{option_map, sym, ap, ◌∙◌}
use Rattle.plain_book.specs.Orders.{level}
use Rattle.plain_book.specs.Book.{slot_number}
use Rattle.book_image.proofs.LoadTops.{next-live, next-has, next-found, next-passed, next-fewer}
use Rattle.book_image.proofs.mark_tops.order_numbered.Goals as goal

pub order-requires : goal.order-requires
order-requires g c =
    next-live (g.B.Book.book c.args.book.now) c.rules.ensures (level c.args.instrument c.args.side c.args.price) c.args.number (option_map slot_number c.loop-at.at) c.loop-at.invariant
    c.in-Some.slot.0 (ap (option_map slot_number) c.in-Some.is)

pub returns-then-order-number : goal.returns-then-order-number
returns-then-order-number g c =
    let at = ap (option_map slot_number) c.in-Some.is in
    sym at
    ∙ next-found (g.B.Book.book c.args.book.now) c.rules.ensures (level c.args.instrument c.args.side c.args.price) c.args.number (option_map slot_number c.loop-at.at) c.loop-at.invariant
    c.in-Some.slot.0 at c.order.result.now c.order.ensures c.if-order-number.true

pub next-at-requires : goal.next-at-requires
next-at-requires g c =
    next-has (g.B.Book.book c.args.book.now) c.rules.ensures (level c.args.instrument c.args.side c.args.price) c.args.number (option_map slot_number c.loop-at.at) c.loop-at.invariant
    c.in-Some.slot.0 (ap (option_map slot_number) c.in-Some.is)

pub loop-at-smaller : goal.loop-at-smaller
loop-at-smaller g c =
    next-fewer (g.B.Book.book c.args.book.now) c.rules.ensures (level c.args.instrument c.args.side c.args.price) c.args.number (option_map slot_number c.loop-at.at) c.loop-at.invariant
    c.in-Some.slot.0 (ap (option_map slot_number) c.in-Some.is) (option_map slot_number c.next-at.result) c.next-at.ensures

pub loop-at-preserved : goal.loop-at-preserved
loop-at-preserved g c =
    next-passed (g.B.Book.book c.args.book.now) c.rules.ensures (level c.args.instrument c.args.side c.args.price) c.args.number (option_map slot_number c.loop-at.at) c.loop-at.invariant
    c.in-Some.slot.0 (ap (option_map slot_number) c.in-Some.is) (option_map slot_number c.next-at.result) c.next-at.ensures c.order.result.now c.order.ensures c.if-order-number.false
