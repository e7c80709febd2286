use Rattle.std.proofs.Common.{◌≡◌, ◌+◌, ◌*◌, ◌-◌}
use Rattle.book_image.specs.declared.format.TheConstants.{ROW_BYTES}
use Rattle.book_image.specs.Faults.{is_at_best, orders_at}
use Rattle.book_image.specs.Inner.Checking.{is_at_best_from}
use Rattle.book_image.proofs.check.is_at_best.Given as goal

abbrev pub invariant-loop-k : goal.invariant-loop-k
invariant-loop-k l =
    is_at_best l.instrument l.side l.number (orders_at l.payload l.first l.fn.count)
    ≡ is_at_best_from l.best l.instrument l.side l.number (orders_at l.payload (l.first + ROW_BYTES * l.k) (l.fn.count - l.k))
