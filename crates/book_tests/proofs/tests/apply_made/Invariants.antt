use Rattle.order_kinds.specs.Cores.{FitsProduct}
use Rattle.book_tests.proofs.tests.apply_made.Given as goal

abbrev pub invariant-loop-read : goal.invariant-loop-read
invariant-loop-read g l = record {
  fits : FitsProduct l.product l.core;
}
