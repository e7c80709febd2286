-- The firms of a product file, step by step.
use Rattle.std.specs.Prelude.{ℕ, Bool, ◌&&◌, nat_le, List, [], length, map, bytes_eq, Option, Some, None, Result, Ok, Err}
use Rattle.std.specs.List.{list_all}
use Rattle.step_config.specs.Rules.{first_twice_after}
use Rattle.toml.specs.Data.{Data}
use Rattle.gx_base.specs.declared.limits.TheConstants.{MOST_FIRMS}
use Rattle.product_file.specs.declared.faults.ProductFault.{ProductFault}
use Rattle.product_file.specs.declared.faults.ProductFault.TheVariants.{Range, Twice}
use Rattle.product_file.specs.declared.faults.Key.TheVariants.{Firms}
use Rattle.product_file.specs.Values.{text_in}
use Rattle.product_file.specs.Rows.{is_text}
use Rattle.product_file.specs.Ranges.{is_firm_name}
use Rattle.product_file.specs.Inner.Keys.{◌>>=◌, where_passes, needed, array_of}

-- 1 to MOST_FIRMS names of firms
abbrev pub are_firm_names : List (List ℕ) → Bool
are_firm_names texts = nat_le 1 (length texts) && nat_le (length texts) MOST_FIRMS && list_all is_firm_name texts

abbrev pub firm_names : List Data → Result (List (List ℕ)) ProductFault
firm_names entries = where_passes are_firm_names (Range Firms) (map text_in entries)

-- the first of these names that an earlier one has
abbrev pub first_name_twice : List (List ℕ) → Option (List ℕ)
first_name_twice names = first_twice_after bytes_eq (λ name. name) [] names

abbrev pub unless_twice : List (List ℕ) → Option (List ℕ) → Result (List (List ℕ)) ProductFault
unless_twice names None = Ok names
unless_twice names (Some name) = Err (Twice name)

-- these names, where none stands twice
abbrev pub each_once : List (List ℕ) → Result (List (List ℕ)) ProductFault
each_once names = unless_twice names (first_name_twice names)

-- the firms that a document lists
unfoldable pub firms_of : Data → Result (List (List ℕ)) ProductFault
firms_of document = do
  entries ← needed Firms (array_of is_text) document
  names ← firm_names entries
  each_once names
