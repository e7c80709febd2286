use Rattle.std.proofs.Common.{◌≡◌, ◌≤◌, sym, subst, ◌∙◌}
use Rattle.gx_base.specs.declared.order.Order.{Order}
use Rattle.plain_book.specs.Orders.{order_of}
use Rattle.plain_book.proofs.Levels.{HasSlot-left, order_of-left}
use Rattle.plain_book.proofs.Live.{fit_of}
use Rattle.book_tests.proofs.calls.trade.Goals as goal

pub order_at-requires : goal.order_at-requires
order_at-requires g c =
    let b = g.B.Book.book c.args.book.now in
    HasSlot-left c.in-Some.slot.0 b.resting b.waiting c.in-Some.ensures

pub drawn_lots-lots-requires : goal.drawn_lots-lots-requires
drawn_lots-lots-requires g c =
    let b = g.B.Book.book c.args.book.now in
    let s = c.in-Some.slot.0 in
    let is : c.order_at.result ≡ order_of s b.resting = c.order_at.ensures ∙ order_of-left s b.resting b.waiting c.in-Some.ensures in
    subst (λ (o : Order). 1 ≤ o.shown) (sym is) (fit_of b.instruments s b.resting c.rules.ensures.rest c.in-Some.ensures).showing

pub trade-order-requires-clause-shown : goal.trade-order-requires-clause-shown
trade-order-requires-clause-shown g c =
    let b = g.B.Book.book c.args.book.now in
    let s = c.in-Some.slot.0 in
    let is : c.order_at.result ≡ order_of s b.resting = c.order_at.ensures ∙ order_of-left s b.resting b.waiting c.in-Some.ensures in
    subst (λ (o : Order). c.drawn_lots-lots.result ≤ o.shown) is c.drawn_lots-lots.ensures.shown
