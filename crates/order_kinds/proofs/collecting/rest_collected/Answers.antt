use Rattle.std.proofs.Common.{◌+◌, None, ap, ◌∙◌}
use Rattle.gx_base.specs.declared.order.Order.{Order}
use Rattle.plain_book.specs.Book.{Book, book_placed}
use Rattle.order_kinds.specs.State.{State}
use Rattle.order_kinds.specs.Collecting.{collected_on}
use Rattle.order_kinds.specs.Inner.Terms.{terms_seen}
use Rattle.order_kinds.proofs.collecting.rest_collected.Goals as goal

pub returns-clause-collects : goal.returns-clause-collects
returns-clause-collects g c =
    let inside = c.state.inside in
    let now : State = record { book = g.B.Book.book inside.book; last = inside.last.items; desk = inside.desk; trading = inside.trading } in
    let name = c.place.result.0 in
    let with_book : Book → State = λ b. record now { book = b; desk = record now.desk { orders = now.desk.orders + 1 } } in
    record {
      name = name;
      state = ap with_book (c.place.ensures.placed ∙ ap (λ (o : Order). book_placed name o None now.book) c.order-order.ensures)
          ∙ ap (collected_on name (terms_seen c.args.terms.now) c.args.new.now) c.state.view_is;
      differ = c.rules.ensures.differ;
    }
