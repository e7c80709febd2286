use Rattle.std.proofs.Common.{◌≡◌, ◌+◌, ◌≤◌, min, subst, ◌∙◌, arith}
use Rattle.gx_base.specs.declared.order.Order.{Order}
use Rattle.plain_book.specs.Orders.{order_of}
use Rattle.plain_book.proofs.Levels.{HasSlot-left, order_of-left}
use Rattle.book_tests.proofs.calls.set_shown.Goals as goal

pub order_at-order-requires : goal.order_at-order-requires
order_at-order-requires g c =
    let b = g.B.Book.book c.args.book.now in
    HasSlot-left c.in-Some.slot.0 b.resting b.waiting c.in-Some.ensures

pub set_shown-requires-clause-display : goal.set_shown-requires-clause-display
set_shown-requires-clause-display g c =
    let b = g.B.Book.book c.args.book.now in
    let s = c.in-Some.slot.0 in
    let is : c.order_at-order.result ≡ order_of s b.resting = c.order_at-order.ensures ∙ order_of-left s b.resting b.waiting c.in-Some.ensures in
    subst (λ (o : Order). 1 ≤ o.show) is (omega arith)

pub set_shown-requires-clause-within : goal.set_shown-requires-clause-within
set_shown-requires-clause-within g c =
    let b = g.B.Book.book c.args.book.now in
    let s = c.in-Some.slot.0 in
    let is : c.order_at-order.result ≡ order_of s b.resting = c.order_at-order.ensures ∙ order_of-left s b.resting b.waiting c.in-Some.ensures in
    subst (λ (o : Order). 1 + c.below.result ≤ min o.show o.leaves) is (omega arith)
