use Rattle.std.proofs.Common.{◌≡◌, length}
use Rattle.plain_book.specs.Book.{IsRight}
use Rattle.plain_book.specs.Matches.{match_at}
use Rattle.order_kinds.proofs.Triggering.{HasTriggered}
use Rattle.order_kinds.proofs.stops.enter_with_stops.Given as goal

abbrev pub invariant-loop-slot : goal.invariant-loop-slot
invariant-loop-slot g l =
    let before = match_at (g.B.Book.book l.fn.book) l.fn.desk l.fn.taker l.fn.out in
    let now = match_at (g.B.Book.book l.book) l.desk l.taker l.out in
    record {
      has : HasTriggered g.E.Emit.meanings l.fn.steps before l.trades.range l.trades.last now;
      right : IsRight now.book;
      same : l.instrument ≡ before.taker.order.instrument;
    }

abbrev pub decreases-loop-slot : goal.decreases-loop-slot
decreases-loop-slot g l = length (g.B.Book.book l.book).waiting
