-- The rule of an instrument is the fault of its table's rows and of its list of steps, or else the rule that its values give.
use Rattle.std.proofs.Common.{◌≡◌, ℕ, Bool, true, false, not, ◌&&◌, if◌then◌else◌, List, [], ◌∷◌, map, codes, bytes_eq, Option, Some, None, is_none, unwrap_or, option_map, ok_or, Result, Ok, Err, refl, sym, ap, ◌∙◌}
use Rattle.std.specs.List.{list_any, list_all}
use Rattle.step_config.specs.declared.step.Step.{Step}
use Rattle.step_config.specs.declared.step.StepFault.{StepFault}
use Rattle.step_config.specs.declared.presets.Letter.{Letter}
use Rattle.step_config.specs.declared.presets.Letter.TheVariants.{F, C, A, T, O, Q, K}
use Rattle.step_config.specs.Rules.{fault_of}
use Rattle.toml.specs.Data.{Data, get}
use Rattle.gx_base.specs.declared.limits.TheConstants.{MOST_LOTS}
use Rattle.step_config.specs.declared.step.TheConstants.{MOST_SHARES}
use Rattle.product_file.specs.declared.limits.TheConstants.{MOST_TICK, MOST_PROTECTION}
use Rattle.product_file.specs.declared.algorithms.Parameters.{Parameters}
use Rattle.product_file.specs.declared.faults.ProductFault.{ProductFault}
use Rattle.product_file.specs.declared.faults.ProductFault.TheVariants.{UnknownLetter}
use Rattle.product_file.specs.declared.faults.ProductFault.TheVariants as fault
use Rattle.product_file.specs.declared.faults.Key.TheVariants.{Tick, Protection, Algorithm, TopMin, TopMax, Least, Split, Lmm, Steps}
use Rattle.product_file.specs.Keys.{word_of}
use Rattle.product_file.specs.Values.{text_in, texts_in, number_in, entries_in, texts_at, number_at}
use Rattle.gx_base.specs.FirstFault.{fault_if, first_fault, unless_fault}
use Rattle.product_file.specs.Rows.{always, optional, only_where, a_text, an_integer, texts, tables, row, is_text, row_fault}
use Rattle.product_file.specs.Ranges.{any, from, at_most}
use Rattle.product_file.specs.Letters.{letter_of, is_configurable, is_step_name}
use Rattle.product_file.specs.ProductRows.{nothing, a_letter, step_names, shares_of_firms, has_configured_list, lists_split, steps_fault}
use Rattle.product_file.specs.ProductValues.{letter_in, top_in, least_in, shares_in, steps_of_letter, steps_in, rule_in}
use Rattle.product_file.specs.Inner.Keys.{where_passes, text_of, needed_number, number_if, array_of}
use Rattle.product_file.specs.Inner.Shares.{shares_of}
use Rattle.product_file.specs.Inner.Algorithms.{has_split, needs_split, algorithm_of, parameters_of}
use Rattle.product_file.specs.Inner.StepLists.{step_names_of, written_steps, or_steps_fault, letter_steps}
use Rattle.product_file.specs.Inner.Instruments.{rule_of}
use Rattle.product_file.proofs.Mapped.{list_any-map}
use Rattle.product_file.proofs.Judged.{in_turn, at_needed_checked, at_optional_checked}
use Rattle.product_file.proofs.RowValues.{text_kind, texts_kind, number_needed, number_optional, number_where}
use Rattle.product_file.proofs.RowShares.{shares_row}

-- ---- the letter

known : (o : Option Letter) → ok_or o UnknownLetter ≡ unless_fault (first_fault (None ∷ fault_if (is_none o) UnknownLetter ∷ [])) (unwrap_or o F)
known None = refl
known (Some letter) = refl

letter_row : (fields : Data) → algorithm_of fields ≡ unless_fault (row_fault fields (row Algorithm always a_text any a_letter)) (letter_in fields)
unfolding algorithm_of
letter_row fields =
    at_needed_checked Algorithm always a_text any a_letter text_of text_in (text_kind Algorithm) (λ text. ok_or (letter_of text) UnknownLetter)
    (λ o. unwrap_or (letter_of (unwrap_or (option_map text_in o) [])) F) (λ v. known (letter_of (text_in v))) (get (word_of Algorithm) fields)

-- ---- what the steps take

split_named : (o : Option Data) → has_split o ≡ list_any (λ name. bytes_eq name (codes "SPLIT")) (unwrap_or (option_map texts_in o) [])
split_named None = refl
split_named (Some v) = sym (list_any-map (λ name. bytes_eq name (codes "SPLIT")) text_in (entries_in v))

same_need : (fields : Data) → needs_split (letter_in fields) fields ≡ lists_split fields
same_need fields = ap (λ (test : Bool). has_configured_list fields && test) (split_named (get (word_of Steps) fields))

split_row : (fields : Data) → number_if (needs_split (letter_in fields) fields) Split 1 100 fields ≡ unless_fault (row_fault fields (row Split (only_where lists_split) an_integer (from 1 100) nothing)) (option_map number_in (get (word_of Split) fields))
split_row fields = ap (λ (is_needed : Bool). number_if is_needed Split 1 100 fields) (same_need fields) ∙ number_where lists_split Split 1 100 fields

-- the parameters that the values give
abbrev parameters_in : List (List ℕ) → Data → Parameters
parameters_in firms fields = record {
  preset = record { top = top_in fields; least = least_in fields; lmm = record { items = shares_in firms fields } };
  split = number_at Split fields;
}

-- the faults of those keys
abbrev pub parameters_fault : List (List ℕ) → Data → Option ProductFault
parameters_fault firms fields =
    first_fault
    (row_fault fields (row TopMin optional an_integer (from 1 MOST_LOTS) nothing)
    ∷ row_fault fields (row TopMax optional an_integer (from 1 MOST_LOTS) nothing)
    ∷ row_fault fields (row Least optional an_integer (from 1 MOST_LOTS) nothing)
    ∷ row_fault fields (row Split (only_where lists_split) an_integer (from 1 100) nothing)
    ∷ row_fault fields (row Lmm optional tables (at_most MOST_SHARES) (shares_of_firms firms))
    ∷ [])

parameters_row : (firms : List (List ℕ)) (fields : Data) → parameters_of firms (letter_in fields) fields ≡ unless_fault (parameters_fault firms fields) (parameters_in firms fields)
unfolding parameters_of
parameters_row firms fields =
    in_turn (number_if false TopMin 1 MOST_LOTS fields) _ _ _ _ (parameters_in firms fields) (number_optional TopMin 1 MOST_LOTS fields) (λ _.
    in_turn (number_if false TopMax 1 MOST_LOTS fields) _ _ _ _ (parameters_in firms fields) (number_optional TopMax 1 MOST_LOTS fields) (λ _.
    in_turn (number_if false Least 1 MOST_LOTS fields) _ _ _ _ (parameters_in firms fields) (number_optional Least 1 MOST_LOTS fields) (λ _.
    in_turn (number_if (needs_split (letter_in fields) fields) Split 1 100 fields) _ _ _ _ (parameters_in firms fields) (split_row fields) (λ _.
    in_turn (shares_of firms fields) _ _ _ None (parameters_in firms fields) (shares_row firms fields) (λ _. refl)))))

-- ---- the list of steps

all_named : (test : Bool) (names : List (List ℕ)) → ◌≡◌ {A = Result (List (List ℕ)) ProductFault} (if test then Ok names else Err UnknownLetter) (unless_fault (first_fault (None ∷ fault_if (not test) UnknownLetter ∷ [])) names)
all_named true names = refl
all_named false names = refl

names_row : (fields : Data) → step_names_of (letter_in fields) fields ≡ unless_fault (row_fault fields (row Steps (only_where has_configured_list) texts any step_names)) (texts_at Steps fields)
unfolding step_names_of
names_row fields =
    at_optional_checked Steps (only_where has_configured_list) texts any step_names (array_of is_text) entries_in (texts_kind Steps)
    (λ entries. where_passes (list_all is_step_name) UnknownLetter (map text_in entries)) (λ o. unwrap_or (option_map texts_in o) [])
    (λ v. all_named (list_all is_step_name (texts_in v)) (texts_in v)) refl (is_configurable (letter_in fields)) (get (word_of Steps) fields)

right_or_fault : (steps : List Step) (o : Option StepFault) → or_steps_fault (unless_fault o steps) ≡ unless_fault (option_map fault.Steps o) steps
right_or_fault steps None = refl
right_or_fault steps (Some f) = refl

same_steps : (letter : Letter) (firms : List (List ℕ)) (fields : Data) → written_steps letter (parameters_in firms fields) (texts_at Steps fields) ≡ steps_of_letter letter firms fields
same_steps F firms fields = refl
same_steps C firms fields = refl
same_steps A firms fields = refl
same_steps T firms fields = refl
same_steps O firms fields = refl
same_steps Q firms fields = refl
same_steps K firms fields = refl

list_row : (firms : List (List ℕ)) (fields : Data) → letter_steps (letter_in fields) (parameters_in firms fields) (texts_at Steps fields) ≡ unless_fault (steps_fault firms fields) (steps_in firms fields)
list_row firms fields =
    ap (λ (steps : List Step). or_steps_fault (unless_fault (fault_of steps) steps)) (same_steps (letter_in fields) firms fields)
    ∙ right_or_fault (steps_in firms fields) (fault_of (steps_in firms fields))

-- ---- the rule

-- the faults of all keys from the tick on, and of the list of steps
abbrev pub rule_fault : List (List ℕ) → Data → Option ProductFault
rule_fault firms fields =
    first_fault
    (row_fault fields (row Tick always an_integer (from 1 MOST_TICK) nothing)
    ∷ row_fault fields (row Protection always an_integer (from 0 MOST_PROTECTION) nothing)
    ∷ row_fault fields (row Algorithm always a_text any a_letter)
    ∷ parameters_fault firms fields
    ∷ row_fault fields (row Steps (only_where has_configured_list) texts any step_names)
    ∷ steps_fault firms fields
    ∷ [])

pub rule_row : (firms : List (List ℕ)) (fields : Data) → rule_of firms fields ≡ unless_fault (rule_fault firms fields) (rule_in firms fields)
unfolding rule_of
rule_row firms fields =
    in_turn (needed_number Tick 1 MOST_TICK fields) _ _ _ _ (rule_in firms fields) (number_needed Tick 1 MOST_TICK fields) (λ _.
    in_turn (needed_number Protection 0 MOST_PROTECTION fields) _ _ _ _ (rule_in firms fields) (number_needed Protection 0 MOST_PROTECTION fields) (λ _.
    in_turn (algorithm_of fields) _ _ _ _ (rule_in firms fields) (letter_row fields) (λ _.
    in_turn (parameters_of firms (letter_in fields) fields) _ _ _ _ (rule_in firms fields) (parameters_row firms fields) (λ _.
    in_turn (step_names_of (letter_in fields) fields) _ _ _ _ (rule_in firms fields) (names_row fields) (λ _.
    in_turn (letter_steps (letter_in fields) (parameters_in firms fields) (texts_at Steps fields)) _ _ _ None (rule_in firms fields) (list_row firms fields) (λ _. refl))))))
