use Rattle.std.proofs.Common.{◌≡◌, true, false, not, sym, ap, ◌∙◌}
use Rattle.gx_base.specs.declared.order.Order.{Order}
use Rattle.plain_book.specs.Orders.{side_of}
use Rattle.plain_book.specs.Book.{Book, IsRight}
use Rattle.book_walks.proofs.MetOrders.{MetOnSide, met-on-side, none-to-come}
use Rattle.book_walks.proofs.OrderWalks.{side-differ}
use Rattle.order_kinds.specs.TradingSessions.{is_until_cancelled, expires}
use Rattle.order_kinds.proofs.Expiring.{stayed, expiring-first, expiring-all, expiring-fewer, expiring-stays, expiring-gone}
use Rattle.order_kinds.proofs.EndedParts.{side-leaves, side-gone}
use Rattle.order_kinds.proofs.closing.expire_side.Given.{Over}
use Rattle.order_kinds.proofs.closing.expire_side.Goals as goal
use Rattle.order_kinds.proofs.closing.expire_side.Goals.{In-Some}

-- what the walk meets
met : (g : Over) (c : In-Some g) → IsRight (g.B.Book.book c.loop-at.book)
    → MetOnSide c.args.instrument c.args.side (g.B.Book.book c.loop-at.book) c.loop-at.at c.loop-at.invariant.rest c.in-Some.slot.0
met g c right =
    let w = c.loop-at.invariant in
    met-on-side c.args.instrument c.args.side (g.B.Book.book c.loop-at.book) right (stayed w.met) w.rest c.loop-at.at c.in-Some.slot w.left w.next c.in-Some.is

pub loop-at-init : goal.loop-at-init
loop-at-init g c =
    expiring-first g.E.Emit.meanings c.args.time (λ (b : Book). side_of c.args.instrument c.args.side b.resting) (side-leaves c.args.instrument c.args.side) (side-differ c.args.instrument c.args.side)
    (g.B.Book.book c.args.book.now) c.args.desk.now c.args.out.now c.first_on_side-at.result c.first_on_side-at.ensures c.requires.room

pub next_on_side-at-requires : goal.next_on_side-at-requires
next_on_side-at-requires g c = (met g (goal.at.next_on_side-at-requires g c).In-Some c.rules-in-Some.ensures).kept

pub order-requires : goal.order-requires
order-requires g c = (met g (goal.at.order-requires g c).In-Some c.rules-in-Some.ensures).live

pub expire_order-requires-clause-live : goal.expire_order-requires-clause-live
expire_order-requires-clause-live g c = (met g (goal.at.expire_order-requires-clause-live g c).In-Some c.rules-in-Some.ensures).live

pub expire_order-requires-clause-room : goal.expire_order-requires-clause-room
expire_order-requires-clause-room g c = c.loop-at.invariant.room

pub loop-at-smaller-then-not-is_until_cancelled : goal.loop-at-smaller-then-not-is_until_cancelled
loop-at-smaller-then-not-is_until_cancelled g c =
    let l = c.loop-at in
    let k = met g (goal.at.loop-at-smaller-then-not-is_until_cancelled g c).In-Some c.rules-in-Some.ensures in
    expiring-fewer g.E.Emit.meanings c.args.time (λ (b : Book). side_of c.args.instrument c.args.side b.resting) (side-leaves c.args.instrument c.args.side) (side-differ c.args.instrument c.args.side)
    (g.B.Book.book c.args.book.now) c.args.desk.now c.args.out.now l.invariant k.next c.next_on_side-at.result (c.next_on_side-at.ensures ∙ k.behind) c.rules.ensures

pub loop-at-smaller : goal.loop-at-smaller
loop-at-smaller g c =
    let l = c.loop-at in
    let k = met g (goal.at.loop-at-smaller g c).In-Some c.rules-in-Some.ensures in
    expiring-fewer g.E.Emit.meanings c.args.time (λ (b : Book). side_of c.args.instrument c.args.side b.resting) (side-leaves c.args.instrument c.args.side) (side-differ c.args.instrument c.args.side)
    (g.B.Book.book c.args.book.now) c.args.desk.now c.args.out.now l.invariant k.next c.next_on_side-at.result (c.next_on_side-at.ensures ∙ k.behind) c.rules.ensures

pub loop-at-preserved-then-not-is_until_cancelled : goal.loop-at-preserved-then-not-is_until_cancelled
loop-at-preserved-then-not-is_until_cancelled g c =
    let l = c.loop-at in
    let k = met g (goal.at.loop-at-preserved-then-not-is_until_cancelled g c).In-Some c.rules-in-Some.ensures in
    let is : expires k.next.e ≡ true =
    ap (λ (o : Order). not (is_until_cancelled o.life)) (sym (c.order.ensures ∙ k.order)) ∙ ap not (sym c.is_until_cancelled.ensures ∙ c.if-not-is_until_cancelled.true) in
    expiring-gone g.E.Emit.meanings c.args.time (λ (b : Book). side_of c.args.instrument c.args.side b.resting) (side-leaves c.args.instrument c.args.side) (side-differ c.args.instrument c.args.side)
    (g.B.Book.book c.args.book.now) c.args.desk.now c.args.out.now l.invariant k.next c.next_on_side-at.result (c.next_on_side-at.ensures ∙ k.behind) is c.rules-in-Some.ensures k.order
    (g.B.Book.book c.expire_order.new.book) c.expire_order.ensures.left c.expire_order.new.desk c.expire_order.ensures.desk c.expire_order.new.out c.expire_order.ensures.emits c.expire_order.ensures.room

pub loop-at-preserved : goal.loop-at-preserved
loop-at-preserved g c =
    let l = c.loop-at in
    let k = met g (goal.at.loop-at-preserved g c).In-Some c.rules-in-Some.ensures in
    let is : expires k.next.e ≡ false =
    ap (λ (o : Order). not (is_until_cancelled o.life)) (sym (c.order.ensures ∙ k.order)) ∙ ap not (sym c.is_until_cancelled.ensures ∙ c.if-not-is_until_cancelled.false) in
    expiring-stays g.E.Emit.meanings c.args.time (λ (b : Book). side_of c.args.instrument c.args.side b.resting) (side-leaves c.args.instrument c.args.side) (side-differ c.args.instrument c.args.side)
    (g.B.Book.book c.args.book.now) c.args.desk.now c.args.out.now l.invariant k.next c.next_on_side-at.result (c.next_on_side-at.ensures ∙ k.behind) is

pub returns-clause-book : goal.returns-clause-book
returns-clause-book g c =
    let l = c.loop-at in
    let b = g.B.Book.book c.args.book.now in
    (expiring-all g.E.Emit.meanings c.args.time (λ (b : Book). side_of c.args.instrument c.args.side b.resting) (side-leaves c.args.instrument c.args.side) (side-differ c.args.instrument c.args.side)
    b c.args.desk.now c.args.out.now l.invariant (none-to-come l.at l.invariant.rest l.invariant.next c.in_default.is)).0
    ∙ side-gone c.args.instrument c.args.side b c.rules.ensures

pub returns-clause-reports : goal.returns-clause-reports
returns-clause-reports g c =
    let l = c.loop-at in
    (expiring-all g.E.Emit.meanings c.args.time (λ (b : Book). side_of c.args.instrument c.args.side b.resting) (side-leaves c.args.instrument c.args.side) (side-differ c.args.instrument c.args.side)
    (g.B.Book.book c.args.book.now) c.args.desk.now c.args.out.now l.invariant (none-to-come l.at l.invariant.rest l.invariant.next c.in_default.is)).1

pub returns-clause-room : goal.returns-clause-room
returns-clause-room g c = c.loop-at.invariant.room
