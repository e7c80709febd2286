use Rattle.std.proofs.Common.{sym, ap, ◌∙◌}
use Rattle.gx_base.specs.declared.trading.Trading.TheVariants.{Open, Closed}
use Rattle.order_kinds.specs.State.{State}
use Rattle.order_kinds.proofs.CoreSteps.{takes-in}
use Rattle.order_kinds.proofs.core_state.apply_counted.Goals as goal

pub returns-in-Open-clause-takes : goal.returns-in-Open-clause-takes
returns-in-Open-clause-takes g c =
    let end = c.apply_open.new in
    takes-in g.E.Emit.meanings c.args.product.now c.args.request.now Open c.args.state.now end.state c.args.out.now end.out (sym (ap (λ (s : State). s.trading) c.state.view_is) ∙ c.in-Open.is) c.apply_open.ensures.takes

pub returns-in-Closed-clause-takes : goal.returns-in-Closed-clause-takes
returns-in-Closed-clause-takes g c =
    let end = c.apply_closed.new in
    takes-in g.E.Emit.meanings c.args.product.now c.args.request.now Closed c.args.state.now end.state c.args.out.now end.out (sym (ap (λ (s : State). s.trading) c.state.view_is) ∙ c.in-Closed.is) c.apply_closed.ensures.takes
