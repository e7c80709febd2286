use Rattle.std.proofs.Common.{◌≡◌, ◌<◌, option_map, sym, ap, subst, ◌∙◌}
use Rattle.gx_base.specs.declared.order.Order.{Order}
use Rattle.plain_book.specs.Orders.{order_of, slot_of, orders_at, level, worse_of}
use Rattle.plain_book.specs.Book.{slot_number}
use Rattle.plain_book.proofs.Levels.{HasSlot-left, order_of-left, AllDiffer-front}
use Rattle.plain_book.proofs.Live.{fit_of}
use Rattle.book_walks.proofs.SideSlots.{own-level, after-same, after-worse, after-none}
use Rattle.book_walks.proofs.sides.next_on_side.Goals as goal

pub returns-in-Some : goal.returns-in-Some
returns-in-Some g c =
    let b = g.B.Book.book c.args.book.now in
    let slot = c.args.slot.0 in
    let o = order_of slot b.resting in
    sym (after-same o.instrument o.side o.price b.resting c.rules.ensures.ordered (AllDiffer-front b.resting b.waiting c.rules.ensures.differ) slot (own-level slot b.resting c.requires)
    c.in-Some.next.0 (sym c.next.ensures ∙ ap (option_map slot_number) c.in-Some.is))

pub order-order-requires : goal.order-order-requires
order-order-requires g c = let b = g.B.Book.book c.args.book.now in HasSlot-left c.args.slot.0 b.resting b.waiting c.requires

pub worse-requires : goal.worse-requires
worse-requires g c =
    let b = g.B.Book.book c.args.book.now in
    let slot = c.args.slot.0 in
    let same : order_of slot b.resting ≡ c.order-order.result.now = sym (c.order-order.ensures ∙ order_of-left slot b.resting b.waiting c.requires) in
    subst (λ (o : Order). o.instrument < b.instruments) same (fit_of b.instruments slot b.resting c.rules.ensures.rest c.requires).fit.listed

pub first-requires : goal.first-requires
first-requires g c =
    let b = g.B.Book.book c.args.book.now in
    let slot = c.args.slot.0 in
    let same : order_of slot b.resting ≡ c.order-order.result.now = sym (c.order-order.ensures ∙ order_of-left slot b.resting b.waiting c.requires) in
    subst (λ (o : Order). o.instrument < b.instruments) same (fit_of b.instruments slot b.resting c.rules.ensures.rest c.requires).fit.listed

pub returns-in-Some-worse : goal.returns-in-Some-worse
returns-in-Some-worse g c =
    let b = g.B.Book.book c.args.book.now in
    let slot = c.args.slot.0 in
    let o = order_of slot b.resting in
    let same : c.order-order.result.now ≡ o = c.order-order.ensures ∙ order_of-left slot b.resting b.waiting c.requires in
    let p = c.in-Some-worse.price in
    c.first.ensures ∙ ap (λ (x : Order). slot_of (orders_at (level x.instrument x.side p) b.resting)) same
    ∙ sym (after-worse o.instrument o.side o.price b.resting c.rules.ensures.ordered (AllDiffer-front b.resting b.waiting c.rules.ensures.differ) slot (own-level slot b.resting c.requires) p
    (sym c.next.ensures ∙ ap (option_map slot_number) c.in_default.is)
    (sym c.in-Some-worse.is ∙ c.worse.ensures ∙ ap (λ (x : Order). worse_of x.instrument x.side x.price.0 b.resting) same))

pub returns-in-None : goal.returns-in-None
returns-in-None g c =
    let b = g.B.Book.book c.args.book.now in
    let slot = c.args.slot.0 in
    let o = order_of slot b.resting in
    let same : c.order-order.result.now ≡ o = c.order-order.ensures ∙ order_of-left slot b.resting b.waiting c.requires in
    sym (after-none o.instrument o.side o.price b.resting c.rules.ensures.ordered (AllDiffer-front b.resting b.waiting c.rules.ensures.differ) slot (own-level slot b.resting c.requires)
    (sym c.next.ensures ∙ ap (option_map slot_number) c.in_default.is)
    (sym c.in-None.is ∙ c.worse.ensures ∙ ap (λ (x : Order). worse_of x.instrument x.side x.price.0 b.resting) same))
