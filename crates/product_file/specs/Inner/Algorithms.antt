-- The algorithm of an instrument, and the numbers and shares that its steps take, step by step.
use Rattle.std.specs.Prelude.{ℕ, Bool, false, ◌&&◌, List, codes, bytes_eq, Option, Some, None, unwrap_or, ok_or, Result, Ok}
use Rattle.std.specs.List.{list_any}
use Rattle.step_config.specs.declared.presets.Letter.{Letter}
use Rattle.toml.specs.Data.{Data, no_items, get, as_array}
use Rattle.gx_base.specs.declared.limits.TheConstants.{MOST_LOTS}
use Rattle.product_file.specs.declared.algorithms.Parameters.{Parameters}
use Rattle.product_file.specs.declared.faults.ProductFault.{ProductFault}
use Rattle.product_file.specs.declared.faults.ProductFault.TheVariants.{UnknownLetter}
use Rattle.product_file.specs.declared.faults.Key.TheVariants.{Algorithm, TopMin, TopMax, Least, Split, Steps}
use Rattle.product_file.specs.Keys.{word_of}
use Rattle.product_file.specs.Values.{entries_of, text_in}
use Rattle.product_file.specs.Letters.{letter_of, is_configurable, usual_least}
use Rattle.product_file.specs.Inner.Keys.{◌>>=◌, needed, number_if, text_of}
use Rattle.product_file.specs.Inner.Shares.{shares_of}

-- ---- the letter

unfoldable pub algorithm_of : Data → Result Letter ProductFault
algorithm_of fields = do
  text ← needed Algorithm text_of fields
  ok_or (letter_of text) UnknownLetter

-- ---- what its steps take

abbrev pub is_split : Data → Bool
is_split entry = bytes_eq (text_in entry) (codes "SPLIT")

abbrev pub has_split : Option Data → Bool
has_split None = false
has_split (Some value) = list_any is_split (entries_of (unwrap_or (as_array value) no_items))

-- whether the list of steps is the file's own, and an array that has the text SPLIT
abbrev pub needs_split : Letter → Data → Bool
needs_split letter fields = is_configurable letter && has_split (get (word_of Steps) fields)

-- what the steps take: 1 and MOST_LOTS lots are the usual limits of TOP, and a percentage of SPLIT that is absent is not used
unfoldable pub parameters_of : List (List ℕ) → Letter → Data → Result Parameters ProductFault
parameters_of firms letter fields = do
  min ← number_if false TopMin 1 MOST_LOTS fields
  max ← number_if false TopMax 1 MOST_LOTS fields
  least ← number_if false Least 1 MOST_LOTS fields
  split ← number_if (needs_split letter fields) Split 1 100 fields
  lmm ← shares_of firms fields
  Ok (record {
    preset = record {
      top = record { min = unwrap_or min 1; max = unwrap_or max MOST_LOTS };
      least = unwrap_or least (usual_least letter);
      lmm = lmm;
    };
    split = unwrap_or split 0;
  })
