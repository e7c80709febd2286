use Rattle.std.proofs.Common.{◌≡◌, ◌<◌, List, map, length, ap, sym, ◌∙◌, arith}
use Rattle.std.proofs.lemmas.List.{length-map}
use Rattle.toml.specs.View.{view}
use Rattle.toml.specs.declared.value.Value.{Value}
use Rattle.product_file.specs.declared.algorithms.Parameters.{Parameters}
use Rattle.product_file.specs.declared.step_lists.TheConstants.{TOO_MANY}
use Rattle.product_file.specs.Values.{text_in}
use Rattle.product_file.specs.Inner.StepLists.{step_named}
use Rattle.product_file.proofs.Mapped.{map-map, map-take}
use Rattle.product_file.proofs.Seven.{first_seven}
use Rattle.product_file.proofs.step_lists.own_steps.Goals as goal

-- the steps of some names, in one step
in_one : (parameters : Parameters) (names : List Value) → map (λ (v : Value). step_named parameters (text_in (view v))) names ≡ map (step_named parameters) (map text_in (map view names))
in_one parameters names = sym (ap (map (step_named parameters)) (map-map text_in view names) ∙ map-map (step_named parameters) (λ (v : Value). text_in (view v)) names)

pub returns-then-names-gt-TOO_MANY : goal.returns-then-names-gt-TOO_MANY
returns-then-names-gt-TOO_MANY c =
    let made = λ (v : Value). step_named c.args.parameters.now (text_in (view v)) in
    let long : TOO_MANY < length (map made c.args.names.now) = rw (length-map c.args.names.now made) (omega arith) in
    let same = first_seven (map made c.args.names.now) long in
    rw (← in_one c.args.parameters.now c.args.names.now, ← same, ← map-take made TOO_MANY c.args.names.now) (rw (c.deref.ensures.0, c.first_steps.ensures) at c.read.ensures)

pub returns : goal.returns
returns c = rw (← in_one c.args.parameters.now c.args.names.now, ← c.first_steps-2.ensures, ← c.deref-2.ensures.0) c.read-2.ensures
