use Rattle.book_image.specs.Faults.{has_right_tops, orders_at}
use Rattle.book_image.specs.Inner.Checking.{AreRightBelow}
use Rattle.book_image.proofs.check.tops_fault_beside.Given as goal

abbrev pub invariant-loop-k : goal.invariant-loop-k
invariant-loop-k l = AreRightBelow (has_right_tops l.product l.payload (orders_at l.payload l.first l.count)) l.k
