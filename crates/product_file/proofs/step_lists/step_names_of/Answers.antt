use Rattle.std.proofs.Common.{◌≡◌, List, map, ◌∙◌, refl}
use Rattle.std.specs.List.{list_all}
use Rattle.std.proofs.lemmas.List.Folds.{list_all-map}
use Rattle.toml.specs.declared.value.Value.{Value}
use Rattle.toml.specs.Data.{Data}
use Rattle.toml.specs.View.{view}
use Rattle.product_file.specs.Values.{text_in}
use Rattle.product_file.specs.Letters.{is_step_name}
use Rattle.product_file.specs.Inner.StepLists.{step_names_of}
use Rattle.product_file.proofs.step_lists.step_names_of.Goals as goal

-- whether all entries are names of steps, as a test of their texts and as one of the entries
all-step-names : (entries : List Value) → list_all is_step_name (map text_in (map view entries)) ≡ list_all (λ (v : Value). is_step_name (text_in (view v))) entries
all-step-names entries = list_all-map is_step_name text_in (map view entries) ∙ list_all-map (λ (d : Data). is_step_name (text_in d)) view entries

pub returns-then-are_step_names : goal.returns-then-are_step_names
unfolding step_names_of
returns-then-are_step_names c =
    let found = rw c.is_configurable.ensures at c.in_ok-entries.ensures in
    rw (← found, all-step-names c.in_ok-entries.entries.now, ← c.are_step_names.ensures, c.if-are_step_names.true) refl

pub returns-else-are_step_names : goal.returns-else-are_step_names
unfolding step_names_of
returns-else-are_step_names c =
    let found = rw c.is_configurable.ensures at c.in_ok-entries.ensures in
    rw (← found, all-step-names c.in_ok-entries.entries.now, ← c.are_step_names.ensures, c.if-are_step_names.false) refl
