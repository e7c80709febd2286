use Rattle.order_kinds.proofs.CoreCounters.{counters-empty}
use Rattle.order_kinds.proofs.core_state.Core.new.Goals as goal

pub invariant_of-result : goal.invariant_of-result
invariant_of-result g c = counters-empty c.new_desk.result c.new_desk.ensures
