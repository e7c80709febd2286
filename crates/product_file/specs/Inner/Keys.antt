-- The values at the keys of a table, step by step.
use Rattle.std.specs.Prelude.{ℕ, unsigned_abs, Bool, true, false, if◌then◌else◌, List, [], Option, Some, None, unwrap_or, ok_or, option_map, Result, Ok, Err}
use Rattle.std.specs.List.{list_all}
use Rattle.gx_base.specs.Texts.{is_name}
use Rattle.toml.specs.Data.{Data, get, as_str, as_integer, as_array}
use Rattle.product_file.specs.declared.faults.Key.{Key}
use Rattle.product_file.specs.declared.faults.ProductFault.{ProductFault}
use Rattle.product_file.specs.declared.faults.ProductFault.TheVariants.{Missing, Kind, Range}
use Rattle.product_file.specs.Keys.{word_of}
use Rattle.product_file.specs.Values.{entries_of}
use Rattle.product_file.specs.Ranges.{is_in_range}

-- ---- steps that may fail

-- one step after the other, up to the first that fails
infixl 10 ◌>>=◌
abbrev pub ◌>>=◌ : {A B : Type 0} → Result A ProductFault → (A → Result B ProductFault) → Result B ProductFault
(Ok a) >>= f = f a
(Err fault) >>= f = Err fault

-- the value where it passes the test, or else this fault
abbrev pub where_passes : {A : Type 0} → (A → Bool) → ProductFault → A → Result A ProductFault
where_passes test fault a = if test a then Ok a else Err fault

-- what a step gives, seen by `f`
abbrev pub map_ok : {A B : Type 0} → (A → B) → Result A ProductFault → Result B ProductFault
map_ok f (Ok a) = Ok (f a)
map_ok f (Err fault) = Err fault

-- ---- a value

abbrev pub text_of : Key → Data → Result (List ℕ) ProductFault
text_of key value = ok_or (as_str value) (Kind key)

-- an integer from the one number to the other
unfoldable pub number_of : Key → ℕ → ℕ → Data → Result ℕ ProductFault
number_of key low high value = do
  z ← ok_or (as_integer value) (Kind key)
  within ← where_passes (is_in_range low high) (Range key) z
  Ok (unsigned_abs within)

-- the entries of an array, each of which passes the test
unfoldable pub array_of : (Data → Bool) → Key → Data → Result (List Data) ProductFault
array_of test key value = do
  entries ← ok_or (option_map entries_of (as_array value)) (Kind key)
  where_passes (list_all test) (Kind key) entries

-- ---- the value at a key

-- what is read of the value at a key that is needed
abbrev pub needed : {A : Type 0} → Key → (Key → Data → Result A ProductFault) → Data → Result A ProductFault
needed key read fields = ok_or (get (word_of key) fields) (Missing key) >>= read key

abbrev pub read_or_none : {A : Type 0} → Bool → Key → (Key → Data → Result A ProductFault) → Option Data → Result (Option A) ProductFault
read_or_none is_needed key read (Some value) = read key value >>= λ a. Ok (Some a)
read_or_none true key read None = Err (Missing key)
read_or_none false key read None = Ok None

-- what is read of the value at a key that is needed at times, and none where it is absent
abbrev pub needed_if : {A : Type 0} → Bool → Key → (Key → Data → Result A ProductFault) → Data → Result (Option A) ProductFault
needed_if is_needed key read fields = read_or_none is_needed key read (get (word_of key) fields)

-- the entries of an array at a key that is needed at times, and none where it is absent
abbrev pub array_if : Bool → (Data → Bool) → Key → Data → Result (List Data) ProductFault
array_if is_needed test key fields = map_ok (λ found. unwrap_or found []) (needed_if is_needed key (array_of test) fields)

-- the name at a key that is needed: a text of 1 to 24 bytes, each of them 32 to 126
abbrev pub needed_name : Key → Data → Result (List ℕ) ProductFault
needed_name key fields = needed key text_of fields >>= where_passes is_name (Range key)

-- an integer between limits, at a key that is needed, and at one that is needed at times
abbrev pub needed_number : Key → ℕ → ℕ → Data → Result ℕ ProductFault
needed_number key low high fields = needed key (λ k. number_of k low high) fields

abbrev pub number_if : Bool → Key → ℕ → ℕ → Data → Result (Option ℕ) ProductFault
number_if is_needed key low high fields = needed_if is_needed key (λ k. number_of k low high) fields
