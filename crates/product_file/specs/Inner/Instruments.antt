-- The instruments of a product file, step by step.
use Rattle.std.specs.Prelude.{ℕ, pos, nat_le, ◌&&◌, if◌then◌else◌, List, [], ◌∷◌, ◌++◌, length, bytes_eq, Result, Ok, Err}
use Rattle.std.specs.List.{list_any}
use Rattle.gx_base.specs.declared.names.Listed.{Listed}
use Rattle.toml.specs.Data.{Data}
use Rattle.gx_base.specs.declared.limits.TheConstants.{MOST_INSTRUMENTS, MOST_DECIMALS}
use Rattle.product_file.specs.declared.limits.TheConstants.{MOST_TICK, MOST_PROTECTION}
use Rattle.product_file.specs.declared.instruments.Instruments.{Instruments}
use Rattle.product_file.specs.declared.product.InstrumentRule.{InstrumentRule}
use Rattle.product_file.specs.declared.faults.ProductFault.{ProductFault}
use Rattle.product_file.specs.declared.faults.ProductFault.TheVariants.{Twice}
use Rattle.product_file.specs.declared.faults.ProductFault.TheVariants as fault
use Rattle.product_file.specs.declared.faults.Key.TheVariants.{Instrument, Name, Decimals, Tick, Protection}
use Rattle.product_file.specs.Rows.{is_table}
use Rattle.product_file.specs.Inner.Keys.{◌>>=◌, where_passes, needed, needed_number, needed_name, array_of}
use Rattle.product_file.specs.Inner.Algorithms.{algorithm_of, parameters_of}
use Rattle.product_file.specs.Inner.StepLists.{step_names_of, letter_steps}

-- the name of an instrument: one that no earlier instrument has
unfoldable pub new_name_of : List Listed → Data → Result (List ℕ) ProductFault
new_name_of earlier fields = do
  name ← needed_name Name fields
  if list_any (λ (l : Listed). bytes_eq l.name name) earlier then Err (Twice name) else Ok name

-- the name and the decimals
unfoldable pub listed_of : List Listed → Data → Result Listed ProductFault
listed_of earlier fields = do
  name ← new_name_of earlier fields
  decimals ← needed_number Decimals 0 MOST_DECIMALS fields
  Ok (record { name = name; decimals = decimals })

-- the algorithm, what its steps take, and last its list of steps
unfoldable pub rule_of : List (List ℕ) → Data → Result InstrumentRule ProductFault
rule_of firms fields = do
  tick ← needed_number Tick 1 MOST_TICK fields
  protection ← needed_number Protection 0 MOST_PROTECTION fields
  letter ← algorithm_of fields
  parameters ← parameters_of firms letter fields
  names ← step_names_of letter fields
  steps ← letter_steps letter parameters names
  Ok (record { tick = pos tick; protection = protection; letter = letter; steps = steps })

pub record InstrumentLists : Type 0 where
  pub listed : List Listed
  pub rules : List InstrumentRule

-- the instruments of these tables, in their order, where those of `earlier` stand before all of them
abbrev pub instruments_after : List (List ℕ) → InstrumentLists → List Data → Result InstrumentLists ProductFault
instruments_after firms earlier [] = Ok earlier
instruments_after firms earlier (fields ∷ rest) = do
  listed ← listed_of earlier.listed fields
  rule ← rule_of firms fields
  instruments_after firms (record { listed = earlier.listed ++ listed ∷ []; rules = earlier.rules ++ rule ∷ [] }) rest

-- the tables of the instruments, of which there are 1 to MOST_INSTRUMENTS
unfoldable pub tables_of : Data → Result (List Data) ProductFault
tables_of document = do
  tables ← needed Instrument (array_of is_table) document
  where_passes (λ (ts : List Data). nat_le 1 (length ts) && nat_le (length ts) MOST_INSTRUMENTS) (fault.Range Instrument) tables

-- the instruments that a document lists
unfoldable pub instruments_of : List (List ℕ) → Data → Result InstrumentLists ProductFault
instruments_of firms document = do
  tables ← tables_of document
  instruments_after firms (record { listed = []; rules = [] }) tables

-- the lists that the code's instruments are
abbrev pub lists_of : Instruments → InstrumentLists
lists_of instruments = record { listed = instruments.listed.items; rules = instruments.rules.items }
