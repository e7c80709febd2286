use Rattle.order_kinds.proofs.CoreCounters.{counters-empty}
use Rattle.order_kinds.proofs.core_state.Core.clear.Goals as goal

pub invariant_of-self : goal.invariant_of-self
invariant_of-self g c = counters-empty c.new_desk-self-inside-inside.result c.new_desk-self-inside-inside.ensures
