use Rattle.std.proofs.Common.{◌≤◌, sym, subst, arith, min}
use Rattle.gx_base.specs.declared.order.Order.{Order}
use Rattle.book_image.proofs.LoadPlacing.{part-placed, whole-placed, after-has, after-order, shown-within}
use Rattle.book_image.proofs.place_rows.place_order.Goals as goal

pub set_shown-requires-clause-rests : goal.set_shown-requires-clause-rests
set_shown-requires-clause-rests g c =
    after-has c.place-slot.result.0 c.args.order (g.B.Book.book c.args.book.now) c.requires.none_top (g.B.Book.book c.place-slot.new.self) c.place-slot.ensures.placed c.rules.ensures

pub set_shown-requires-clause-display : goal.set_shown-requires-clause-display
set_shown-requires-clause-display g c =
    let is = after-order c.place-slot.result.0 c.args.order (g.B.Book.book c.args.book.now) c.requires.none_top (g.B.Book.book c.place-slot.new.self) c.place-slot.ensures.placed c.rules.ensures in
    subst (λ (o : Order). 1 ≤ o.show) (sym is) (omega (arith, c.if-show-gt0.true))

pub set_shown-requires-clause-within : goal.set_shown-requires-clause-within
set_shown-requires-clause-within g c =
    let is = after-order c.place-slot.result.0 c.args.order (g.B.Book.book c.args.book.now) c.requires.none_top (g.B.Book.book c.place-slot.new.self) c.place-slot.ensures.placed c.rules.ensures in
    subst (λ (o : Order). c.args.order.shown ≤ min o.show o.leaves) (sym is) (shown-within c.args.order c.requires.shown c.if-show-gt0.true).1

pub returns-then-show-gt0 : goal.returns-then-show-gt0
returns-then-show-gt0 g c =
    part-placed c.place-slot.result.0 c.args.order (g.B.Book.book c.args.book.now) c.requires.none_top (g.B.Book.book c.place-slot.new.self) c.place-slot.ensures.placed
    (g.B.Book.book c.set_shown.new.self) c.rules.ensures c.set_shown.ensures

pub returns-else-show-gt0 : goal.returns-else-show-gt0
returns-else-show-gt0 g c =
    whole-placed c.place-slot.result.0 c.args.order (g.B.Book.book c.args.book.now) c.requires.none_top (g.B.Book.book c.place-slot.new.self) c.place-slot.ensures.placed
    c.requires.shown (omega (arith, c.if-show-gt0.false))
