use Rattle.order_kinds.proofs.TakenSteps.{takes-closed_new, takes-closed_replace, takes-still}
use Rattle.order_kinds.proofs.core_state.apply_closed.Goals as goal

pub returns-in-New-clause-takes : goal.returns-in-New-clause-takes
returns-in-New-clause-takes g c =
    let end = c.refuse_new.new in
    takes-closed_new g.E.Emit.meanings c.args.product.now c.args.request.now c.in-New.new c.state.view_is end.desk c.args.out.now end.out c.in-New.is c.refuse_new.ensures.desk c.refuse_new.ensures.emits

pub returns-in-Replace-clause-takes : goal.returns-in-Replace-clause-takes
returns-in-Replace-clause-takes g c =
    let end = c.refuse_replace.new in
    takes-closed_replace g.E.Emit.meanings c.args.product.now c.args.request.now c.in-Replace.replace c.state-in-Replace.view_is end.desk c.args.out.now end.out c.in-Replace.is c.refuse_replace.ensures.desk c.refuse_replace.ensures.emits

pub returns-in_default-clause-takes : goal.returns-in_default-clause-takes
returns-in_default-clause-takes g c =
    let end = c.apply_open.new in
    takes-still g.E.Emit.meanings c.args.product.now c.args.request.now c.args.state.now end.state c.args.out.now end.out c.in_default.not-New c.in_default.not-Replace c.apply_open.ensures.takes
