use Rattle.std.proofs.Common.{◌≡◌, map, take}
use Rattle.toml.specs.View.{view}
use Rattle.product_file.specs.Values.{text_in}
use Rattle.product_file.specs.Inner.StepLists.{step_named}
use Rattle.product_file.proofs.step_lists.first_steps.Given as goal

abbrev pub invariant-loop-name : goal.invariant-loop-name
invariant-loop-name l = l.steps.items ≡ take l.name-index (map (λ v. step_named l.parameters (text_in (view v))) l.names)
