-- What is read of a value is its row's fault, or else the value.
use Rattle.std.proofs.Common.{◌≡◌, ℕ, ℤ, unsigned_abs, Bool, true, false, not, if◌then◌else◌, List, [], ◌∷◌, None, unwrap_or, option_map, Result, Ok, Err, refl}
use Rattle.std.specs.List.{list_all}
use Rattle.gx_base.specs.Texts.{is_name}
use Rattle.toml.specs.Data.{Data, string, integer, float, boolean, datetime, array, table, get}
use Rattle.product_file.specs.declared.faults.Key.{Key}
use Rattle.product_file.specs.declared.faults.ProductFault.{ProductFault}
use Rattle.product_file.specs.declared.faults.ProductFault.TheVariants.{Kind, Range}
use Rattle.product_file.specs.Keys.{word_of}
use Rattle.product_file.specs.Values.{text_in, number_in, entries_of, entries_in, text_at, number_at}
use Rattle.gx_base.specs.FirstFault.{fault_if, first_fault, unless_fault}
use Rattle.product_file.specs.Rows.{Need, always, optional, only_where, a_text, an_integer, texts, tables, row, is_text, is_table, is_array_of, is_of, value_fault, row_fault}
use Rattle.product_file.specs.Ranges.{is_in_range, from, a_name}
use Rattle.product_file.specs.ProductRows.{nothing}
use Rattle.product_file.specs.Inner.Keys.{◌>>=◌, where_passes, text_of, number_of, array_of, needed_name, needed_number, number_if}
use Rattle.product_file.proofs.Judged.{passes, at_needed, at_optional, at_needed_checked}

-- ---- by kind

pub text_kind : (key : Key) (v : Data) → text_of key v ≡ unless_fault (fault_if (not (is_of a_text v)) (Kind key)) (text_in v)
text_kind key (string s) = refl
text_kind key (integer z) = refl
text_kind key (float x) = refl
text_kind key (boolean b) = refl
text_kind key (datetime d) = refl
text_kind key (array ds) = refl
text_kind key (table ms) = refl

entries_kind : (test : Data → Bool) (key : Key) (v : Data) → array_of test key v ≡ unless_fault (fault_if (not (is_array_of test v)) (Kind key)) (entries_in v)
unfolding array_of
entries_kind test key (string s) = refl
entries_kind test key (integer z) = refl
entries_kind test key (float x) = refl
entries_kind test key (boolean b) = refl
entries_kind test key (datetime d) = refl
entries_kind test key (array ds) = passes (list_all test (entries_of ds)) (Kind key) (entries_of ds)
entries_kind test key (table ms) = refl

pub texts_kind : (key : Key) (v : Data) → array_of is_text key v ≡ unless_fault (fault_if (not (is_of texts v)) (Kind key)) (entries_in v)
texts_kind key v = entries_kind is_text key v

pub tables_kind : (key : Key) (v : Data) → array_of is_table key v ≡ unless_fault (fault_if (not (is_of tables v)) (Kind key)) (entries_in v)
tables_kind key v = entries_kind is_table key v

-- ---- numbers

within : (key : Key) (z : ℤ) (test : Bool) → ((if test then Ok z else Err (Range key)) >>= λ w. Ok (unsigned_abs w)) ≡ unless_fault (first_fault (fault_if (not test) (Range key) ∷ None ∷ [])) (unsigned_abs z)
within key z true = refl
within key z false = refl

number_of_row : (need : Need) (key : Key) (low high : ℕ) (v : Data) → number_of key low high v ≡ unless_fault (value_fault (row key need an_integer (from low high) nothing) v) (number_in v)
unfolding number_of
number_of_row need key low high (integer z) = within key z (is_in_range low high z)
number_of_row need key low high (string s) = refl
number_of_row need key low high (float x) = refl
number_of_row need key low high (boolean b) = refl
number_of_row need key low high (datetime d) = refl
number_of_row need key low high (array ds) = refl
number_of_row need key low high (table ms) = refl

pub number_needed : (key : Key) (low high : ℕ) (fields : Data) → needed_number key low high fields ≡ unless_fault (row_fault fields (row key always an_integer (from low high) nothing)) (number_at key fields)
number_needed key low high fields = at_needed key always an_integer (from low high) nothing (λ k. number_of k low high) number_in (number_of_row always key low high) 0 (get (word_of key) fields)

pub number_optional : (key : Key) (low high : ℕ) (fields : Data) → number_if false key low high fields ≡ unless_fault (row_fault fields (row key optional an_integer (from low high) nothing)) (option_map number_in (get (word_of key) fields))
number_optional key low high fields = at_optional key optional an_integer (from low high) nothing (λ k. number_of k low high) number_in (number_of_row optional key low high) false (get (word_of key) fields)

pub number_where : (condition : Data → Bool) (key : Key) (low high : ℕ) (fields : Data) → number_if (condition fields) key low high fields ≡ unless_fault (row_fault fields (row key (only_where condition) an_integer (from low high) nothing)) (option_map number_in (get (word_of key) fields))
number_where condition key low high fields = at_optional key (only_where condition) an_integer (from low high) nothing (λ k. number_of k low high) number_in (number_of_row (only_where condition) key low high) (condition fields) (get (word_of key) fields)

-- ---- names

named : (key : Key) (text : List ℕ) (test : Bool) → ◌≡◌ {A = Result (List ℕ) ProductFault} (if test then Ok text else Err (Range key)) (unless_fault (first_fault (fault_if (not test) (Range key) ∷ None ∷ [])) text)
named key text true = refl
named key text false = refl

pub name_needed : (key : Key) (fields : Data) → needed_name key fields ≡ unless_fault (row_fault fields (row key always a_text a_name nothing)) (text_at key fields)
name_needed key fields =
    at_needed_checked key always a_text a_name nothing text_of text_in (text_kind key) (where_passes is_name (Range key)) (λ o. unwrap_or (option_map text_in o) [])
    (λ v. named key (text_in v) (a_name v)) (get (word_of key) fields)
