use Rattle.std.proofs.Common.{◌≡◌, take, drop}
use Rattle.step_config.specs.Rules.{name_of, is_same_name, first_twice, first_twice_after}
use Rattle.step_config.proofs.faults.first_twice.Given as goal

abbrev pub invariant-loop-i : goal.invariant-loop-i
invariant-loop-i l = first_twice l.steps ≡ first_twice_after is_same_name name_of (take l.i l.steps) (drop l.i l.steps)
