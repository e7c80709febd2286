use Rattle.std.proofs.Common.{◌≡◌, ◌<◌, ◌≤◌, ◌-◌, ℕ}
use Rattle.plain_book.specs.Orders.{level_of}
use Rattle.book_image.specs.Inner.Loading.{order_in}
use Rattle.book_image.proofs.place_rows.level_start.Given as goal

abbrev pub invariant-loop-start : goal.invariant-loop-start
invariant-loop-start l = record {
  before : l.start < l.end;
  same : (k : ℕ) → l.start ≤ k → k < l.end → level_of (order_in l.payload l.first k) ≡ level_of (order_in l.payload l.first (l.end - 1));
}

abbrev pub decreases-loop-start : goal.decreases-loop-start
decreases-loop-start l = l.start
