-- The values of a table of a TOML document, read as what their keys ask for. Each word is total: where there is no value,
-- or one of another kind, it gives the empty text, the empty list or 0, and the rows (`Rows`) say that this is a fault.
use Rattle.std.specs.Prelude.{ℕ, ℤ, pos, unsigned_abs, List, [], ◌∷◌, map, Option, unwrap_or, option_map}
use Rattle.toml.specs.Data.{Data, Items, no_items, item, get, as_str, as_integer, as_array}
use Rattle.product_file.specs.declared.faults.Key.{Key}
use Rattle.product_file.specs.Keys.{word_of}

-- ---- a value

-- the bytes of a text
abbrev pub text_in : Data → List ℕ
text_in value = unwrap_or (as_str value) []

-- an integer
abbrev pub integer_in : Data → ℤ
integer_in value = unwrap_or (as_integer value) (pos 0)

-- an integer that is not below 0
abbrev pub number_in : Data → ℕ
number_in value = unsigned_abs (integer_in value)

-- the values of an array
abbrev pub entries_of : Items → List Data
entries_of no_items = []
entries_of (item value rest) = value ∷ entries_of rest

-- the entries of an array
abbrev pub entries_in : Data → List Data
entries_in value = entries_of (unwrap_or (as_array value) no_items)

-- the entries of an array of texts
abbrev pub texts_in : Data → List (List ℕ)
texts_in value = map text_in (entries_in value)

-- ---- the value at a key of a table

-- the value at a key, and none where the key is absent
abbrev pub value_at : Key → Data → Option Data
value_at key fields = get (word_of key) fields

-- the text at a key
abbrev pub text_at : Key → Data → List ℕ
text_at key fields = unwrap_or (option_map text_in (value_at key fields)) []

-- the number at a key, and the usual one where the key is absent
abbrev pub number_or : ℕ → Key → Data → ℕ
number_or usual key fields = unwrap_or (option_map number_in (value_at key fields)) usual

-- the number at a key that is needed
abbrev pub number_at : Key → Data → ℕ
number_at key fields = number_or 0 key fields

-- the entries of the array at a key, and none where the key is absent
abbrev pub entries_at : Key → Data → List Data
entries_at key fields = unwrap_or (option_map entries_in (value_at key fields)) []

-- the texts of the array at a key, and none where the key is absent
abbrev pub texts_at : Key → Data → List (List ℕ)
texts_at key fields = unwrap_or (option_map texts_in (value_at key fields)) []
