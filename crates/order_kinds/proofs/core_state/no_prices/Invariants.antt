use Rattle.std.proofs.Common.{◌≡◌, replicate, None}
use Rattle.order_kinds.proofs.core_state.no_prices.Given as goal

abbrev pub invariant-loop-k : goal.invariant-loop-k
invariant-loop-k l = l.last.items ≡ replicate l._k None
