-- What a row says of a key, and the fault of a table by the rows of its keys (our own format).
use Rattle.std.specs.Prelude.{ℕ, Bool, true, false, not, List, [], ◌∷◌, map, take, Option, is_some}
use Rattle.std.specs.List.{list_all, enumerate_from}
use Rattle.std.specs.Option.{option_map_or}
use Rattle.gx_base.specs.FirstFault.{fault_if, first_fault}
use Rattle.toml.specs.Data.{Data, as_str, as_integer, as_array, as_table}
use Rattle.product_file.specs.declared.faults.Key.{Key}
use Rattle.product_file.specs.declared.faults.ProductFault.{ProductFault}
use Rattle.product_file.specs.declared.faults.ProductFault.TheVariants.{Missing, Kind, Range}
use Rattle.product_file.specs.Values.{entries_of, value_at}

-- ---- rows

-- when a key has to be there: always, never, or only where the table that it stands in is such
pub data Need : Type 0 where
  always : Need
  optional : Need
  only_where : (Data → Bool) → Need

-- what a value is
pub data ValueKind : Type 0 where
  a_text : ValueKind
  an_integer : ValueKind
  texts : ValueKind
  tables : ValueKind

-- a key, whether it is needed, the kind of its value, the range of a value of that kind, and a further rule, which gives
-- the fault of a value within the range
pub record Row : Type 0 where
  pub key : Key
  pub need : Need
  pub kind : ValueKind
  pub range : Data → Bool
  pub further : Data → Option ProductFault

-- a row, in the order of a line of the table
abbrev pub row : Key → Need → ValueKind → (Data → Bool) → (Data → Option ProductFault) → Row
row key need kind range further = record { key = key; need = need; kind = kind; range = range; further = further }

-- the first fault of entries that are tried one after the other, each by those that stand before it
abbrev pub first_of_each : {X : Type 0} → (List X → X → Option ProductFault) → List X → Option ProductFault
first_of_each {X} fault_after entries = first_fault (map (λ (e : ℕ × X). fault_after (take e.0 entries) e.1) (enumerate_from 0 entries))

-- ---- what a row says of a table

-- whether the key has to be there, in this table
abbrev pub is_needed : Need → Data → Bool
is_needed always fields = true
is_needed optional fields = false
is_needed (only_where condition) fields = condition fields

abbrev pub is_text : Data → Bool
is_text value = is_some (as_str value)

abbrev pub is_table : Data → Bool
is_table value = is_some (as_table value)

-- whether a value is an array whose entries all pass the test
abbrev pub is_array_of : (Data → Bool) → Data → Bool
is_array_of test value = option_map_or (λ items. list_all test (entries_of items)) (as_array value) false

-- whether a value is of a kind
abbrev pub is_of : ValueKind → Data → Bool
is_of a_text value = is_text value
is_of an_integer value = is_some (as_integer value)
is_of texts value = is_array_of is_text value
is_of tables value = is_array_of is_table value

-- the fault of a value at the key of a row: its kind, then its range, then the further rule
abbrev pub value_fault : Row → Data → Option ProductFault
value_fault row value =
    first_fault
    (fault_if (not (is_of row.kind value)) (Kind row.key)
    ∷ fault_if (not (row.range value)) (Range row.key)
    ∷ row.further value
    ∷ [])

-- the fault of a table by one row: the key is absent and is needed, or its value has a fault
abbrev pub row_fault : Data → Row → Option ProductFault
row_fault fields row = option_map_or (value_fault row) (value_at row.key fields) (fault_if (is_needed row.need fields) (Missing row.key))

-- the fault of a table: the first that a row finds, in the order of the rows; keys that no row has are passed over
abbrev pub table_fault : List Row → Data → Option ProductFault
table_fault rows fields = first_fault (map (row_fault fields) rows)
