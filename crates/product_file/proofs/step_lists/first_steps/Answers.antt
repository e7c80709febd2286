use Rattle.toml.specs.View.{view}
use Rattle.toml.specs.declared.value.Value.{Value}
use Rattle.product_file.specs.Values.{text_in}
use Rattle.product_file.specs.Inner.StepLists.{step_named}
use Rattle.product_file.proofs.Mapped.{take-mapped}
use Rattle.product_file.proofs.step_lists.first_steps.Goals as goal

pub loop-name-preserved : goal.loop-name-preserved
loop-name-preserved c =
    let passed = take-mapped (λ (v : Value). step_named c.args.parameters.now (text_in (view v))) c.args.names.now c.loop-name.name-index c.name-item.result c.loop-name-test.true c.name-item.is in
    cc
