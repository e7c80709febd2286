-- The list of steps of an instrument, step by step.
use Rattle.std.specs.Prelude.{ℕ, if◌then◌else◌, List, map, codes, bytes_eq, Result, Ok, Err}
use Rattle.std.specs.List.{list_all}
use Rattle.step_config.specs.declared.step.Step.{Step}
use Rattle.step_config.specs.declared.step.Step.TheVariants.{Top, Lmm, Split, ProRata, Leveling, Fifo}
use Rattle.step_config.specs.declared.step.StepFault.{StepFault}
use Rattle.step_config.specs.declared.presets.Letter.{Letter}
use Rattle.step_config.specs.declared.presets.Letter.TheVariants.{K}
use Rattle.step_config.specs.Rules.{steps_of}
use Rattle.step_config.specs.Presets.{preset_steps}
use Rattle.toml.specs.Data.{Data}
use Rattle.product_file.specs.declared.algorithms.Parameters.{Parameters}
use Rattle.product_file.specs.declared.faults.ProductFault.{ProductFault}
use Rattle.product_file.specs.declared.faults.ProductFault.TheVariants as fault
use Rattle.product_file.specs.declared.faults.Key.TheVariants as key
use Rattle.product_file.specs.Values.{text_in}
use Rattle.product_file.specs.Rows.{is_text}
use Rattle.product_file.specs.Letters.{is_configurable, is_step_name}
use Rattle.product_file.specs.Inner.Keys.{◌>>=◌, where_passes, array_if}

-- the step of a name, with what it takes: FIFO where the name is none of the others
abbrev pub step_named : Parameters → List ℕ → Step
step_named parameters name =
    if bytes_eq name (codes "TOP") then Top parameters.preset.top
    else (if bytes_eq name (codes "LMM") then Lmm parameters.preset.lmm
    else (if bytes_eq name (codes "SPLIT") then Split parameters.split
    else (if bytes_eq name (codes "PRORATA") then ProRata parameters.preset.least
    else (if bytes_eq name (codes "LEVELING") then Leveling
    else Fifo))))

-- the names that the file lists: needed where the list is the file's own, and tried wherever they stand
unfoldable pub step_names_of : Letter → Data → Result (List (List ℕ)) ProductFault
step_names_of letter fields = do
  entries ← array_if (is_configurable letter) is_text key.Steps fields
  where_passes (list_all is_step_name) fault.UnknownLetter (map text_in entries)

-- the steps of a letter: the file's own list for K, and the letter's own for every other one
abbrev pub written_steps : Letter → Parameters → List (List ℕ) → List Step
written_steps K parameters names = map (step_named parameters) names
written_steps letter parameters names = preset_steps letter parameters.preset

abbrev pub or_steps_fault : Result (List Step) StepFault → Result (List Step) ProductFault
or_steps_fault (Ok steps) = Ok steps
or_steps_fault (Err f) = Err (fault.Steps f)

-- the steps of a letter, if they are right
abbrev pub letter_steps : Letter → Parameters → List (List ℕ) → Result (List Step) ProductFault
letter_steps letter parameters names = or_steps_fault (steps_of (written_steps letter parameters names))
