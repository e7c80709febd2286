use Rattle.std.proofs.Common.{◌-◌, ◌≤◌, map}
use Rattle.book_image.specs.Reading.{entry_of}
use Rattle.book_image.specs.Inner.Loading.{order_in, orders_from, HasResting, IsLevelEnd}
use Rattle.book_image.proofs.place_rows.place_rows.Given as goal

abbrev pub invariant-loop-end : goal.invariant-loop-end
invariant-loop-end g l = record {
  within : l.end ≤ l.count;
  level : IsLevelEnd (order_in l.payload l.first) l.end l.count;
  placed : HasResting (g.B.Book.book l.initial.book) (g.B.Book.book l.book) (map entry_of (orders_from (order_in l.payload l.first) l.end (l.count - l.end)));
}

abbrev pub decreases-loop-end : goal.decreases-loop-end
decreases-loop-end g l = l.end
