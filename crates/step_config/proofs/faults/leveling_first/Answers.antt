use Rattle.std.proofs.Common.{sym, ◌∙◌}
use Rattle.step_config.proofs.Places.{leveling_found, leveling_not_found}
use Rattle.step_config.proofs.faults.leveling_first.Goals as goal

pub returns-in-Some : goal.returns-in-Some
returns-in-Some c = rw c.has_pro_rata.ensures (leveling_found c.args.steps.now c.in-Some.at (sym c.find_leveling.ensures ∙ c.in-Some.is))

pub returns-in-None : goal.returns-in-None
returns-in-None c = leveling_not_found c.args.steps.now (sym c.find_leveling.ensures ∙ c.in-None.is)
