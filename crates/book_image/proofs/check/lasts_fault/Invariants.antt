use Rattle.book_image.specs.Faults.{is_right_last}
use Rattle.book_image.specs.Inner.Checking.{AreRightBelow}
use Rattle.book_image.proofs.check.lasts_fault.Given as goal

abbrev pub invariant-loop-k : goal.invariant-loop-k
invariant-loop-k l = AreRightBelow (is_right_last l.product l.payload) l.k
