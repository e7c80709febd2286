use Rattle.std.proofs.Common.{take}
use Rattle.order_kinds.specs.Cores.{FitsProduct}
use Rattle.globex_run.specs.Inner.Collecting.{CollectsFrames}
use Rattle.globex_run.proofs.opening_prices.collect_given.Given as goal

abbrev pub invariant-loop-number : goal.invariant-loop-number
invariant-loop-number g l = record {
  collects : CollectsFrames l.product l.fn.core l.core (take l.number l.framer.given);
  fits : FitsProduct l.product l.core;
}
