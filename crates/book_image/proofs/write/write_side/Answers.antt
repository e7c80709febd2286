use Rattle.plain_book.specs.Orders.{level, orders_at, side_of}
use Rattle.book_image.proofs.WriteWalks.{walked-none, walked-more, walked-room, walked-all}
use Rattle.book_walks.proofs.SideLevels.{ToComeFrom, worse_orders, prices-first, prices-level, prices-next, prices-end, prices-fewer}
use Rattle.book_image.proofs.write.write_side.Goals as goal

pub loop-next-init : goal.loop-next-init
loop-next-init g c =
    let es = (g.B.Book.book c.args.book.now).resting in
    let side = side_of c.args.instrument c.args.side es in
    walked-none side (ToComeFrom c.args.side side c.best-next.result) c.args.into.now c.args.at
    (prices-first c.args.instrument c.args.side es c.rules.ensures.ordered c.best-next.result c.best-next.ensures)

pub write_level-end-requires-clause-room : goal.write_level-end-requires-clause-room
write_level-end-requires-clause-room g c =
    let es = (g.B.Book.book c.args.book.now).resting in
    let w = c.loop-next.invariant in
    let i = c.args.instrument in
    let s = c.args.side in
    let p = c.in-Some.price in
    walked-room (side_of i s es) {ToCome = ToComeFrom s (side_of i s es) c.loop-next.next} w (orders_at (level i s p) es) (worse_orders s p (side_of i s es))
    (prices-level i s es c.rules.ensures.ordered c.loop-next.next p w.rest w.next c.in-Some.is) c.requires.room

pub loop-next-preserved : goal.loop-next-preserved
loop-next-preserved g c =
    let es = (g.B.Book.book c.args.book.now).resting in
    let w = c.loop-next.invariant in
    let i = c.args.instrument in
    let s = c.args.side in
    let p = c.in-Some.price in
    let side = side_of i s es in
    walked-more side {ToCome = ToComeFrom s side c.loop-next.next} w (ToComeFrom s side c.worse-next.result) (orders_at (level i s p) es) (worse_orders s p side)
    c.write_level-end.new.into c.write_level-end.result
    (prices-level i s es c.rules.ensures.ordered c.loop-next.next p w.rest w.next c.in-Some.is)
    (prices-next i s es c.rules.ensures.ordered p c.worse-next.result c.worse-next.ensures)
    c.write_level-end.ensures

pub loop-next-smaller : goal.loop-next-smaller
loop-next-smaller g c =
    let w = c.loop-next.invariant in
    prices-fewer c.args.instrument c.args.side (g.B.Book.book c.args.book.now).resting c.rules.ensures.ordered c.loop-next.next c.worse-next.result c.in-Some.price w.rest w.next c.in-Some.is c.worse-next.ensures

pub returns : goal.returns
returns g c =
    let es = (g.B.Book.book c.args.book.now).resting in
    let w = c.loop-next.invariant in
    walked-all (side_of c.args.instrument c.args.side es) {ToCome = ToComeFrom c.args.side (side_of c.args.instrument c.args.side es) c.loop-next.next} w
    (prices-end c.args.instrument c.args.side es c.rules.ensures.ordered c.loop-next.next w.rest w.next c.in_default.is)
