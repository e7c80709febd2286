use Rattle.std.proofs.Common.{sym, ◌∙◌}
use Rattle.step_config.proofs.NoFault.{few_steps}
use Rattle.step_config.proofs.steps.Steps.read.Goals as goal

pub copy_steps-requires : goal.copy_steps-requires
copy_steps-requires c = few_steps c.args.steps.now (sym c.fault_of.ensures ∙ c.in-None.is)
