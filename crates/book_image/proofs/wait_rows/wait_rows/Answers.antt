use Rattle.std.proofs.Common.{◌≡◌, ℕ, false, sym, subst}
use Rattle.gx_base.specs.declared.order.Order.{Order}
use Rattle.plain_book.specs.Orders.{is_live}
use Rattle.plain_book.specs.Book.{IsFitToWait, live_orders}
use Rattle.book_image.specs.Inner.Loading.{order_in}
use Rattle.book_image.proofs.LoadWaiting.{waiting-instruments, waiting-room, waiting-unnamed, waiting-next}
use Rattle.book_image.proofs.wait_rows.wait_rows.Goals as goal

pub wait-requires-clause-room : goal.wait-requires-clause-room
wait-requires-clause-room g c =
    waiting-room (g.B.Book.book c.args.book.now) (g.B.Book.book c.loop-k.book) (order_in c.args.payload.now c.args.first) c.args.count c.loop-k.k c.requires.right c.loop-k-test.true c.loop-k.invariant c.requires.room

pub wait-requires-clause-unnamed : goal.wait-requires-clause-unnamed
wait-requires-clause-unnamed g c =
    subst (λ (o : Order). is_live o.firm o.id (live_orders (g.B.Book.book c.loop-k.book)) ≡ false) (sym c.order_at.ensures)
    (waiting-unnamed (g.B.Book.book c.args.book.now) (g.B.Book.book c.loop-k.book) (order_in c.args.payload.now c.args.first) c.args.count c.loop-k.k c.requires.right c.loop-k-test.true c.loop-k.invariant)

pub wait-requires-clause-fit : goal.wait-requires-clause-fit
wait-requires-clause-fit g c =
    let same = waiting-instruments (g.B.Book.book c.args.book.now) (g.B.Book.book c.loop-k.book) (order_in c.args.payload.now c.args.first) c.args.count c.loop-k.k c.requires.right c.loop-k-test.true c.loop-k.invariant in
    subst (λ (o : Order). IsFitToWait (g.B.Book.book c.loop-k.book).instruments o) (sym c.order_at.ensures)
    (subst (λ (n : ℕ). IsFitToWait n (order_in c.args.payload.now c.args.first c.loop-k.k)) (sym same) (c.requires.right.fit c.loop-k.k c.loop-k-test.true))

pub loop-k-preserved : goal.loop-k-preserved
loop-k-preserved g c =
    waiting-next (g.B.Book.book c.args.book.now) (g.B.Book.book c.loop-k.book) (order_in c.args.payload.now c.args.first) c.args.count c.loop-k.k c.requires.right c.loop-k-test.true c.loop-k.invariant
    c.wait.result.0 c.order_at.result c.order_at.ensures (g.B.Book.book c.wait.new.self) c.wait.ensures.waited
