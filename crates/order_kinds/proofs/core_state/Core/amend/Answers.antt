use Rattle.std.proofs.Common.{ap, ◌∙◌}
use Rattle.order_kinds.proofs.Amended.{core-fits, core-numbered}
use Rattle.order_kinds.proofs.core_state.Core.amend.Goals as goal

pub returns-clause-fits : goal.returns-clause-fits
returns-clause-fits g c = core-fits c.args.product.now c.args.self.now _ _ (ap (λ x. x.state) c.self-inside.view_is ∙ c.self.view_is) c.end_tops.ensures c.requires

pub returns-clause-numbered : goal.returns-clause-numbered
returns-clause-numbered g c = λ are. core-numbered c.args.product.now c.args.self.now _ _ (ap (λ x. x.state) c.self-inside.view_is ∙ c.self.view_is) c.end_tops.ensures are
