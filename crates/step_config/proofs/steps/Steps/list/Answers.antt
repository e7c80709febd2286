use Rattle.std.proofs.Common.{subst}
use Rattle.step_config.specs.RightSteps.{AreRightSteps}
use Rattle.step_config.proofs.Right.{right_steps}
use Rattle.step_config.proofs.steps.Steps.list.Goals as goal

pub returns-clause-right : goal.returns-clause-right
returns-clause-right c = subst AreRightSteps c.self.view_is (right_steps c.self.inside.steps.items c.self.invariant)
