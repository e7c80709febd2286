-- The lists of steps that letters stand for: our own rule, after the exchange's published outline.
use Rattle.std.specs.Prelude.{Bool, true, false, List, [], ◌∷◌}
use Rattle.gx_base.specs.declared.limits.TheConstants.{MOST_LOTS}
use Rattle.step_config.specs.declared.step.Step.{Step}
use Rattle.step_config.specs.declared.step.Step.TheVariants.{Top, Lmm, ProRata, Fifo}
use Rattle.step_config.specs.declared.presets.Letter.{Letter}
use Rattle.step_config.specs.declared.presets.Letter.TheVariants.{F, C, A, T, O, Q, K}
use Rattle.step_config.specs.declared.presets.Params.{Params}

-- whether a letter has a list of its own, which K does not: it stands for any list
abbrev pub is_preset : Letter → Bool
is_preset K = false
is_preset letter = true

-- the list of a letter, and none for K
abbrev pub preset_steps : Letter → Params → List Step
preset_steps F params = Fifo ∷ []
preset_steps T params = Lmm params.lmm ∷ Fifo ∷ []
preset_steps C params = ProRata params.least ∷ Fifo ∷ []
preset_steps A params = Top (record { min = 1; max = MOST_LOTS }) ∷ ProRata params.least ∷ Fifo ∷ []
preset_steps O params = Top params.top ∷ ProRata params.least ∷ Fifo ∷ []
preset_steps Q params = Top params.top ∷ Lmm params.lmm ∷ ProRata params.least ∷ Fifo ∷ []
preset_steps K params = []
