use Rattle.std.proofs.Common.{◌≡◌, ◌<◌, ◌≤◌, false, sym, ap, subst, ◌∙◌}
use Rattle.gx_base.specs.declared.order.Order.{Order}
use Rattle.plain_book.specs.Orders.{is_live}
use Rattle.plain_book.specs.Book.{live_orders}
use Rattle.book_tests.proofs.Slots.{none-named, live-unfilled, live-shows, rests-limit}
use Rattle.book_tests.proofs.calls.change.Goals as goal

pub lower_quantity-quantity-requires-clause-open : goal.lower_quantity-quantity-requires-clause-open
lower_quantity-quantity-requires-clause-open g c =
    subst (λ (o : Order). o.filled < o.quantity) (sym c.order_at-order.ensures) (live-unfilled (g.B.Book.book c.args.book.now) c.in-Some.slot.0 c.rules.ensures c.in-Some.ensures)

pub lower_quantity-quantity-requires-clause-show : goal.lower_quantity-quantity-requires-clause-show
lower_quantity-quantity-requires-clause-show g c =
    subst (λ (o : Order). o.show ≤ o.quantity) (sym c.order_at-order.ensures) (live-shows (g.B.Book.book c.args.book.now) c.in-Some.slot.0 c.rules.ensures c.in-Some.ensures)

pub change-requires-clause-unnamed : goal.change-requires-clause-unnamed
change-requires-clause-unnamed g c =
    let es = live_orders (g.B.Book.book c.args.book.now) in
    subst (λ (o : Order). is_live o.firm c.id-id.result es ≡ false) c.order_at-order.ensures
    (none-named c.order_at-order.result.firm c.id-id.result es c.find.result c.is_none.result c.find.ensures c.is_none.ensures c.if-is_none.true)

pub change-requires-clause-no_min : goal.change-requires-clause-no_min
change-requires-clause-no_min g c = λ rests.
    c.least_quantity-min.ensures (ap (λ (o : Order). o.kind) c.order_at-order.ensures ∙ rests-limit (g.B.Book.book c.args.book.now) c.in-Some.slot.0 c.rules.ensures rests)
