use Rattle.std.proofs.Common.{◌≡◌, false, not, ap, sym, subst, ◌∙◌}
use Rattle.gx_base.specs.declared.order.Order.{Order}
use Rattle.plain_book.specs.Book.{live_orders, book_waited}
use Rattle.plain_book.specs.Orders.{is_live}
use Rattle.order_kinds.proofs.Terms.{found-live}
use Rattle.book_image.proofs.CheckNames.{taken}
use Rattle.book_image.proofs.check_rows.take_name.Goals as goal
use Rattle.book_image.proofs.check_rows.take_name.Goals.{After-is_some}
use Rattle.book_image.proofs.check_rows.take_name.Given.{Over}

-- whether the name is there already
live : (g : Over) (c : After-is_some g) → c.is_some.result ≡ is_live c.args.firm c.args.id (live_orders (g.B.Book.book c.args.book.now))
live g c = c.is_some.ensures ∙ found-live c.args.firm c.args.id (live_orders (g.B.Book.book c.args.book.now)) c.find.result c.find.ensures

pub returns-then-is_some-clause-new : goal.returns-then-is_some-clause-new
returns-then-is_some-clause-new g c = ap not (sym c.if-is_some.true ∙ live g (goal.at.returns-then-is_some-clause-new g c).After-is_some)

pub wait-requires-clause-unnamed : goal.wait-requires-clause-unnamed
wait-requires-clause-unnamed g c =
    subst (λ (o : Order). is_live o.firm o.id (live_orders (g.B.Book.book c.args.book.now)) ≡ false) (sym c.stop_named.ensures)
    (sym (live g (goal.at.wait-requires-clause-unnamed g c).After-is_some) ∙ c.if-is_some.false)

pub returns-clause-new : goal.returns-clause-new
returns-clause-new g c = ap not (sym c.if-is_some.false ∙ live g (goal.at.returns-clause-new g c).After-is_some)

pub returns-clause-takes : goal.returns-clause-takes
returns-clause-takes g c h =
    let old = g.B.Book.book c.args.book.now in
    let new = g.B.Book.book c.wait.new.self in
    let slot = c.wait.result.0 in
    taken slot c.args.firm c.args.id old new c.rules.ensures
    (subst (λ (o : Order). new ≡ book_waited slot o old) c.stop_named.ensures c.wait.ensures.waited)
