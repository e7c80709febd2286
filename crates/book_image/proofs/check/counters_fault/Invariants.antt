use Rattle.book_image.specs.Inner.Checking.{AreRightBelow, is_right_counter}
use Rattle.book_image.proofs.check.counters_fault.Given as goal

abbrev pub invariant-loop-k : goal.invariant-loop-k
invariant-loop-k l = AreRightBelow (is_right_counter l.messages l.payload) l.k
