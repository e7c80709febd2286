-- The keys of a product file as rows: of the document, of an instrument's table, and of an entry of `lmm` (our own
-- format). They are tried in the order in which they stand.
use Rattle.std.specs.Prelude.{ℕ, Bool, not, ◌&&◌, List, [], ◌∷◌, map, codes, bytes_eq, Option, None, is_none, option_map}
use Rattle.std.specs.List.{list_any, list_all}
use Rattle.step_config.specs.Rules.{fault_of}
use Rattle.toml.specs.Data.{Data}
use Rattle.gx_base.specs.declared.limits.TheConstants.{MOST_LOTS, MOST_INSTRUMENTS, MOST_DECIMALS}
use Rattle.step_config.specs.declared.step.TheConstants.{MOST_SHARES}
use Rattle.product_file.specs.declared.limits.TheConstants.{MOST_ORDERS, LEAST_JOURNAL, MOST_JOURNAL, MOST_TICK, MOST_PROTECTION}
use Rattle.product_file.specs.declared.faults.ProductFault.{ProductFault}
use Rattle.product_file.specs.declared.faults.ProductFault.TheVariants.{Twice, UnknownFirm, UnknownLetter}
use Rattle.product_file.specs.declared.faults.ProductFault.TheVariants as fault
use Rattle.product_file.specs.declared.faults.Key.TheVariants.{Exchange, Firms, MaxOrders, JournalLimit, Instrument, Name, Decimals, Tick, Protection, Algorithm, TopMin, TopMax, Least, Split, Lmm, LmmFirm, LmmPercent, Steps}
use Rattle.product_file.specs.Values.{text_in, texts_in, entries_in, text_at, texts_at}
use Rattle.gx_base.specs.FirstFault.{fault_if, first_fault}
use Rattle.product_file.specs.Rows.{always, optional, only_where, a_text, an_integer, texts, tables, Row, row, first_of_each, table_fault}
use Rattle.product_file.specs.Ranges.{any, from, a_name, has_entries, at_most, firm_names}
use Rattle.product_file.specs.Letters.{letter_of, is_configurable, is_step_name}
use Rattle.product_file.specs.ProductValues.{letter_in, number_of_firm, steps_in}

-- ---- further rules

-- no further rule
abbrev pub nothing : Data → Option ProductFault
nothing value = None

-- a name that none of the earlier ones is
abbrev pub unless_new : List (List ℕ) → List ℕ → Option ProductFault
unless_new earlier name = fault_if (list_any (λ before. bytes_eq before name) earlier) (Twice name)

abbrev pub a_new_name : List (List ℕ) → Data → Option ProductFault
a_new_name earlier value = unless_new earlier (text_in value)

-- names of which none stands twice
abbrev pub each_once : Data → Option ProductFault
each_once value = first_of_each unless_new (texts_in value)

-- the letter of an algorithm
abbrev pub a_letter : Data → Option ProductFault
a_letter value = fault_if (is_none (letter_of (text_in value))) UnknownLetter

-- names of steps
abbrev pub step_names : Data → Option ProductFault
step_names value = fault_if (not (list_all is_step_name (texts_in value))) UnknownLetter

-- one of the firms, which no earlier entry names
abbrev pub a_new_firm : List (List ℕ) → List (List ℕ) → Data → Option ProductFault
a_new_firm firms earlier value =
    first_fault
    (fault_if (is_none (number_of_firm firms (text_in value))) (UnknownFirm LmmFirm)
    ∷ a_new_name earlier value
    ∷ [])

-- ---- an entry of `lmm`, with the firms of the entries before it

-- a row: key, need, kind, range, further rule
abbrev pub share_rows : List (List ℕ) → List (List ℕ) → List Row
share_rows firms earlier =
    row LmmFirm always a_text any (a_new_firm firms earlier)
    ∷ row LmmPercent always an_integer (from 1 100) nothing
    ∷ []

-- the fault of an entry, held against those before it
abbrev pub share_fault : List (List ℕ) → List Data → Data → Option ProductFault
share_fault firms earlier entry = table_fault (share_rows firms (map (text_at LmmFirm) earlier)) entry

-- entries of `lmm`, tried one after the other
abbrev pub shares_of_firms : List (List ℕ) → Data → Option ProductFault
shares_of_firms firms value = first_of_each (share_fault firms) (entries_in value)

-- ---- an instrument's table, with the names of the tables before it

-- whether the letter is K, whose list of steps the file gives
abbrev pub has_configured_list : Data → Bool
has_configured_list fields = is_configurable (letter_in fields)

-- whether the letter is K, and `steps` is an array that has the text SPLIT
abbrev pub lists_split : Data → Bool
lists_split fields = has_configured_list fields && list_any (λ name. bytes_eq name (codes "SPLIT")) (texts_at Steps fields)

-- a row: key, need, kind, range, further rule
abbrev pub instrument_rows : List (List ℕ) → List (List ℕ) → List Row
instrument_rows firms earlier =
    row Name always a_text a_name (a_new_name earlier)
    ∷ row Decimals always an_integer (from 0 MOST_DECIMALS) nothing
    ∷ row Tick always an_integer (from 1 MOST_TICK) nothing
    ∷ row Protection always an_integer (from 0 MOST_PROTECTION) nothing
    ∷ row Algorithm always a_text any a_letter
    ∷ row TopMin optional an_integer (from 1 MOST_LOTS) nothing
    ∷ row TopMax optional an_integer (from 1 MOST_LOTS) nothing
    ∷ row Least optional an_integer (from 1 MOST_LOTS) nothing
    ∷ row Split (only_where lists_split) an_integer (from 1 100) nothing
    ∷ row Lmm optional tables (at_most MOST_SHARES) (shares_of_firms firms)
    ∷ row Steps (only_where has_configured_list) texts any step_names
    ∷ []

-- the fault of the list of steps that an instrument's orders go through
abbrev pub steps_fault : List (List ℕ) → Data → Option ProductFault
steps_fault firms fields = option_map fault.Steps (fault_of (steps_in firms fields))

-- the fault of a table, held against those before it; the list of steps is tried after all keys
abbrev pub instrument_fault : List (List ℕ) → List Data → Data → Option ProductFault
instrument_fault firms earlier fields =
    first_fault
    (table_fault (instrument_rows firms (map (text_at Name) earlier)) fields
    ∷ steps_fault firms fields
    ∷ [])

-- tables of instruments, tried one after the other
abbrev pub instruments_of_firms : List (List ℕ) → Data → Option ProductFault
instruments_of_firms firms value = first_of_each (instrument_fault firms) (entries_in value)

-- ---- the document

-- a row: key, need, kind, range, further rule
abbrev pub document_rows : List (List ℕ) → List Row
document_rows firms =
    row Exchange always a_text a_name nothing
    ∷ row Firms always texts firm_names each_once
    ∷ row MaxOrders optional an_integer (from 1 MOST_ORDERS) nothing
    ∷ row JournalLimit optional an_integer (from LEAST_JOURNAL MOST_JOURNAL) nothing
    ∷ row Instrument always tables (has_entries 1 MOST_INSTRUMENTS) (instruments_of_firms firms)
    ∷ []

-- the first fault of a document
abbrev pub document_fault : Data → Option ProductFault
document_fault document = table_fault (document_rows (texts_at Firms document)) document
