use Rattle.order_kinds.specs.Cores.{FitsProduct}
use Rattle.run_fixtures.proofs.applying.apply_held.Given as goal

abbrev pub invariant-loop-applied : goal.invariant-loop-applied
invariant-loop-applied g l = record {
  fits : FitsProduct l.product l.core;
}
