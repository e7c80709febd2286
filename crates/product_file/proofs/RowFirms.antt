-- The firms of a document are its row's fault, or else their names.
use Rattle.std.proofs.Common.{◌≡◌, ℕ, Bool, true, false, not, ◌&&◌, nat_le, if◌then◌else◌, List, [], ◌∷◌, ◌++◌, bytes_eq, Option, Some, None, unwrap_or, option_map, refl, sym, ap, ◌∙◌}
use Rattle.std.specs.List.{list_any, list_all}
use Rattle.std.specs.Option.{option_or}
use Rattle.std.proofs.lemmas.List.{length-map}
use Rattle.step_config.specs.Rules.{first_twice_after}
use Rattle.toml.specs.Data.{Data, get}
use Rattle.gx_base.specs.declared.limits.TheConstants.{MOST_FIRMS}
use Rattle.product_file.specs.declared.faults.ProductFault.{ProductFault}
use Rattle.product_file.specs.declared.faults.ProductFault.TheVariants.{Range, Twice}
use Rattle.product_file.specs.declared.faults.Key.TheVariants.{Firms}
use Rattle.product_file.specs.Keys.{word_of}
use Rattle.product_file.specs.Values.{text_in, entries_in, texts_in, texts_at}
use Rattle.gx_base.specs.FirstFault.{fault_if, first_fault, unless_fault}
use Rattle.product_file.specs.Rows.{always, texts, row, first_of_each, is_text, row_fault}
use Rattle.product_file.specs.Ranges.{is_firm_name, firm_names}
use Rattle.product_file.specs.ProductRows.{unless_new, each_once}
use Rattle.product_file.specs.Inner.Keys.{◌>>=◌, array_of}
use Rattle.product_file.specs.Inner.FirmNames.{are_firm_names, unless_twice, firm_names as inner_firm_names, each_once as inner_each_once, first_name_twice, firms_of}
use Rattle.product_file.proofs.Judged.{in_turn, passes, or_none, at_needed_checked}
use Rattle.product_file.proofs.FaultsInOrder.{faults_after, each_after}
use Rattle.product_file.proofs.RowValues.{texts_kind}

one_more : (test : Bool) (name : List ℕ) (rest : Option (List ℕ)) (more : Option ProductFault) → option_map Twice rest ≡ more → option_map Twice (if test then Some name else rest) ≡ option_or (fault_if test (Twice name)) more
one_more true name rest more e = refl
one_more false name rest more e = e

first_twice : (earlier names : List (List ℕ)) → option_map Twice (first_twice_after bytes_eq (λ name. name) earlier names) ≡ faults_after unless_new earlier names
first_twice earlier [] = refl
first_twice earlier (name ∷ names) =
    one_more (list_any (λ before. bytes_eq before name) earlier) name (first_twice_after bytes_eq (λ n. n) (earlier ++ name ∷ []) names) (faults_after unless_new (earlier ++ name ∷ []) names) (first_twice (earlier ++ name ∷ []) names)

twice_or : (names : List (List ℕ)) (twice : Option (List ℕ)) → unless_twice names twice ≡ unless_fault (option_map Twice twice) names
twice_or names None = refl
twice_or names (Some name) = refl

once : (names : List (List ℕ)) → inner_each_once names ≡ unless_fault (first_of_each unless_new names) names
once names = twice_or names (first_name_twice names) ∙ ap (λ (fault : Option ProductFault). unless_fault fault names) (first_twice [] names ∙ sym (each_after unless_new names))

same_test : (value : Data) → are_firm_names (texts_in value) ≡ firm_names value
same_test value = ap (λ (n : ℕ). nat_le 1 n && nat_le n MOST_FIRMS && list_all is_firm_name (texts_in value)) (length-map (entries_in value) text_in)

named : (value : Data) → inner_firm_names (entries_in value) ≡ unless_fault (fault_if (not (firm_names value)) (Range Firms)) (texts_in value)
named value = passes (are_firm_names (texts_in value)) (Range Firms) (texts_in value) ∙ ap (λ (test : Bool). unless_fault (fault_if (not test) (Range Firms)) (texts_in value)) (same_test value)

checked : (value : Data) → (inner_firm_names (entries_in value) >>= inner_each_once) ≡ unless_fault (first_fault (fault_if (not (firm_names value)) (Range Firms) ∷ each_once value ∷ [])) (texts_in value)
checked value =
    in_turn (inner_firm_names (entries_in value)) (fault_if (not (firm_names value)) (Range Firms)) (texts_in value) inner_each_once (first_fault (each_once value ∷ [])) (texts_in value)
    (named value) (λ _. once (texts_in value) ∙ ap (λ (fault : Option ProductFault). unless_fault fault (texts_in value)) (sym (or_none (each_once value))))

pub firms_row : (document : Data) → firms_of document ≡ unless_fault (row_fault document (row Firms always texts firm_names each_once)) (texts_at Firms document)
unfolding firms_of
firms_row document =
    at_needed_checked Firms always texts firm_names each_once (array_of is_text) entries_in (texts_kind Firms)
    (λ entries. inner_firm_names entries >>= inner_each_once) (λ o. unwrap_or (option_map texts_in o) []) checked (get (word_of Firms) document)
