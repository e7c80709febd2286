use Rattle.std.proofs.Common.{◌≡◌, map, drop}
use Rattle.gx_base.specs.FirstFault.{first_fault}
use Rattle.step_config.specs.Rules.{fault_of_step}
use Rattle.step_config.proofs.faults.first_step_fault.Given as goal

abbrev pub invariant-loop-step : goal.invariant-loop-step
invariant-loop-step l = first_fault (map fault_of_step l.steps) ≡ first_fault (map fault_of_step (drop l.step-index l.steps))
