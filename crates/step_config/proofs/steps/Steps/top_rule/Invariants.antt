use Rattle.std.proofs.Common.{◌≡◌, drop}
use Rattle.step_config.specs.Rules.{top_rule_of}
use Rattle.step_config.proofs.steps.Steps.top_rule.Given as goal

abbrev pub invariant-loop-step : goal.invariant-loop-step
invariant-loop-step l = top_rule_of l.steps ≡ top_rule_of (drop l.step-index l.steps)
