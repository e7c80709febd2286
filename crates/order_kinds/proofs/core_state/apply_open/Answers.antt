use Rattle.order_kinds.proofs.CoreSteps.{takes-passed}
use Rattle.order_kinds.proofs.TakenSteps.{takes-rejected}
use Rattle.order_kinds.proofs.core_state.apply_open.Goals as goal

pub returns-in-Passed-clause-takes : goal.returns-in-Passed-clause-takes
returns-in-Passed-clause-takes g c = takes-passed g.E.Emit.meanings c.args.product.now c.args.request.now c.in-Passed.field-0 c.args.state.now c.args.out.now c.in-Passed.is

pub returns-in-Refused-clause-takes : goal.returns-in-Refused-clause-takes
returns-in-Refused-clause-takes g c =
    let end = c.refuse_message.new in
    takes-rejected g.E.Emit.meanings c.args.product.now c.args.request.now c.in-Refused.refusal c.state.view_is end.desk c.args.out.now end.out c.in-Refused.is c.refuse_message.ensures.desk c.refuse_message.ensures.emits
