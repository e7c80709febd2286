use Rattle.std.proofs.Common.{ap, ◌∙◌}
use Rattle.order_kinds.proofs.Collected.{collects-step, collects-numbered, collects-fits}
use Rattle.order_kinds.proofs.core_state.Core.collect.Goals as goal

pub returns-clause-step : goal.returns-clause-step
returns-clause-step g c =
    collects-step c.args.product.now c.args.request.now c.args.self.now _ c.collect_counted.new.state c.collect_counted.ensures.collects
    (ap (λ x. x.state) c.self-inside.view_is ∙ c.self.view_is) c.rules.ensures.differ

pub returns-clause-numbered : goal.returns-clause-numbered
returns-clause-numbered g c =
    collects-numbered c.args.product.now c.args.request.now c.args.self.now _ c.collect_counted.new.state c.collect_counted.ensures.collects
    (ap (λ x. x.state) c.self-inside.view_is ∙ c.self.view_is) c.rules.ensures.differ

pub returns-clause-fits : goal.returns-clause-fits
returns-clause-fits g c =
    collects-fits c.args.product.now c.args.request.now c.args.self.now _ c.collect_counted.new.state c.collect_counted.ensures.collects
    (ap (λ x. x.state) c.self-inside.view_is ∙ c.self.view_is) c.requires.fits c.requires.valid
