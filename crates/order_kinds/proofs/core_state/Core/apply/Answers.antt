use Rattle.std.proofs.Common.{ap, ◌∙◌}
use Rattle.order_kinds.proofs.CoreSteps.{step-taken, puts-taken, fits-taken}
use Rattle.order_kinds.proofs.core_state.Core.apply.Goals as goal

pub returns-clause-step : goal.returns-clause-step
returns-clause-step g c =
    step-taken g.E.Emit.meanings c.args.product.now c.args.request.now c.args.self.now _ c.apply_counted.new.state c.args.out.now c.apply_counted.new.out c.apply_counted.ensures.takes
    (ap (λ x. x.state) c.self-inside.view_is ∙ c.self.view_is) c.rules.ensures.differ

pub returns-clause-puts : goal.returns-clause-puts
returns-clause-puts g c =
    puts-taken g.E.Emit.meanings c.args.product.now c.args.request.now c.args.self.now _ c.apply_counted.new.state c.args.out.now c.apply_counted.new.out c.apply_counted.ensures.takes
    (ap (λ x. x.state) c.self-inside.view_is ∙ c.self.view_is)

pub returns-clause-fits : goal.returns-clause-fits
returns-clause-fits g c =
    fits-taken g.E.Emit.meanings c.args.product.now c.args.request.now c.args.self.now _ c.apply_counted.new.state c.args.out.now c.apply_counted.new.out c.apply_counted.ensures.takes
    (ap (λ x. x.state) c.self-inside.view_is ∙ c.self.view_is) c.requires.fits c.requires.valid
