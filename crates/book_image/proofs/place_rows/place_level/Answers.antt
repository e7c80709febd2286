use Rattle.std.proofs.Common.{◌≡◌, ℕ, true, false, map, List, sym, ap, subst, ◌∙◌, arith}
use Rattle.gx_base.specs.declared.order.Order.{Order}
use Rattle.plain_book.specs.Orders.{is_live}
use Rattle.plain_book.specs.Book.{IsFitToRest, live_orders}
use Rattle.book_image.specs.Rules.{is_right_shown}
use Rattle.book_image.specs.Reading.{entry_of}
use Rattle.book_image.specs.Inner.Loading.{order_in}
use Rattle.book_image.proofs.LoadLists.{as-none-top}
use Rattle.book_image.proofs.LoadLevels.{level-next, placed_so_far, placed-few, placed-all, placed-unnamed, resting-as, capacity-same, instruments-same, live-length, live-unnamed, resting-is}
use Rattle.book_image.proofs.place_rows.place_level.Goals as goal

pub place_order-requires-clause-room : goal.place_order-requires-clause-room
place_order-requires-clause-room g c =
    let b = g.B.Book.book c.args.book.now in
    let f = order_in c.args.payload.now c.args.first in
    let n = c.args.count in
    let os = placed_so_far f n c.args.start c.args.end c.loop-k.k in
    omega (
      arith,
      live-length b (g.B.Book.book c.loop-k.book) os c.loop-k.invariant c.requires.none_waits,
      capacity-same b (g.B.Book.book c.loop-k.book) os c.loop-k.invariant,
      placed-few b.instruments f n c.requires.right c.args.start c.args.end c.loop-k.k (c.loop-k.auto.k) c.loop-k-test.true c.requires.within c.requires.level,
      c.requires.room,
    )

pub place_order-requires-clause-unnamed : goal.place_order-requires-clause-unnamed
place_order-requires-clause-unnamed g c =
    let b = g.B.Book.book c.args.book.now in
    let f = order_in c.args.payload.now c.args.first in
    subst (λ (o : Order). is_live o.firm o.id (live_orders (g.B.Book.book c.loop-k.book)) ≡ false) (sym c.order_at.ensures)
    (live-unnamed b (g.B.Book.book c.loop-k.book) (placed_so_far f c.args.count c.args.start c.args.end c.loop-k.k) c.loop-k.invariant c.requires.none_waits (f c.loop-k.k)
    (placed-unnamed b.instruments f c.args.count c.requires.right c.args.start c.args.end c.loop-k.k c.loop-k.auto.k c.loop-k-test.true c.requires.within))

pub place_order-requires-clause-fit : goal.place_order-requires-clause-fit
place_order-requires-clause-fit g c =
    let b = g.B.Book.book c.args.book.now in
    let f = order_in c.args.payload.now c.args.first in
    let os = placed_so_far f c.args.count c.args.start c.args.end c.loop-k.k in
    subst (λ (o : Order). IsFitToRest (g.B.Book.book c.loop-k.book).instruments o) (sym c.order_at.ensures)
    (subst (λ (n : ℕ). IsFitToRest n (f c.loop-k.k)) (sym (instruments-same b (g.B.Book.book c.loop-k.book) os c.loop-k.invariant))
    (c.requires.right.fit c.loop-k.k (omega (arith, c.loop-k-test.true, c.requires.within))))

pub place_order-requires-clause-shown : goal.place_order-requires-clause-shown
place_order-requires-clause-shown g c =
    subst (λ (o : Order). is_right_shown o ≡ true) (sym c.order_at.ensures) (c.requires.right.shown c.loop-k.k (omega (arith, c.loop-k-test.true, c.requires.within)))

pub place_order-requires-clause-none_top : goal.place_order-requires-clause-none_top
place_order-requires-clause-none_top g c =
    let f = order_in c.args.payload.now c.args.first in
    let os = placed_so_far f c.args.count c.args.start c.args.end c.loop-k.k in
    as-none-top (g.B.Book.book c.loop-k.book).resting os (resting-as (g.B.Book.book c.args.book.now) (g.B.Book.book c.loop-k.book) os c.loop-k.invariant)

pub loop-k-preserved : goal.loop-k-preserved
loop-k-preserved g c =
    level-next (g.B.Book.book c.args.book.now) (g.B.Book.book c.loop-k.book) (g.B.Book.book c.place_order.new.book) (order_in c.args.payload.now c.args.first)
    c.args.count c.args.start c.args.end c.loop-k.k c.requires.right c.loop-k.auto.k c.loop-k-test.true c.requires.within c.requires.level c.loop-k.invariant
    c.order_at.result c.order_at.ensures c.place_order.ensures

pub returns : goal.returns
returns g c =
    let b = g.B.Book.book c.args.book.now in
    let f = order_in c.args.payload.now c.args.first in
    let n = c.args.count in
    let e : c.loop-k.k ≡ c.args.end = omega (arith, c.loop-k-test.false, c.loop-k.auto.k-end c.requires.range) in
    resting-is b (g.B.Book.book c.loop-k.book) _ _ c.loop-k.invariant
    (ap (λ (j : ℕ). map entry_of (placed_so_far f n c.args.start c.args.end j)) e
    ∙ ap (λ (os : List Order). map entry_of os) (placed-all b.instruments f n c.requires.right c.args.start c.args.end c.requires.range c.requires.within))
