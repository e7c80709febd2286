use Rattle.std.proofs.Common.{◌-◌, map, arith}
use Rattle.book_image.specs.Reading.{entry_of}
use Rattle.book_image.specs.Inner.Loading.{order_in, orders_from}
use Rattle.book_image.proofs.LoadLevels.{waiting-none, start-ends, resting-then}
use Rattle.book_image.proofs.place_rows.place_rows.Goals as goal

pub place_level-requires-clause-none_waits : goal.place_level-requires-clause-none_waits
place_level-requires-clause-none_waits g c =
    let os = orders_from (order_in c.args.payload.now c.args.first) c.loop-end.end (c.args.count - c.loop-end.end) in
    waiting-none (g.B.Book.book c.args.book.now) (g.B.Book.book c.loop-end.book) os c.loop-end.invariant.placed c.requires.none_waits

pub loop-end-preserved : goal.loop-end-preserved
loop-end-preserved g c =
    let b = g.B.Book.book c.args.book.now in
    let f = order_in c.args.payload.now c.args.first in
    let n = c.args.count in
    let start = c.level_start-start.result in
    record {
      within = omega (arith, c.level_start-start.ensures.before, c.loop-end.invariant.within);
      level = start-ends b.instruments f n c.requires.right start c.loop-end.end c.loop-end.invariant.within c.level_start-start.ensures c.loop-end.invariant.level;
      placed = resting-then b (g.B.Book.book c.loop-end.book) (g.B.Book.book c.place_level.new.book)
          (map entry_of (orders_from f c.loop-end.end (n - c.loop-end.end))) (map entry_of (orders_from f start (n - start))) c.loop-end.invariant.placed c.place_level.ensures;
    }
