use Rattle.std.proofs.Common.{[], ◌∷◌, ap, sym, subst}
use Rattle.std.specs.Prelude.{◌^◌, Ok}
use Rattle.gx_base.specs.declared.event.Event.{Event}
use Rattle.gx_base.specs.EmitLaws.{emits_as, emits_one}
use Rattle.order_kinds.specs.State.{State}
use Rattle.order_kinds.specs.Accepting.{accepted}
use Rattle.order_kinds.specs.Inner.Apart.{NewApart}
use Rattle.order_kinds.specs.Inner.Taking.{Takes, CountsRose, IsCounted}
use Rattle.order_kinds.specs.Inner.Terms.{terms_seen, IsAccepted}
use Rattle.order_kinds.proofs.Accepted.{IsReported, HasFewStops, numbered_next, accepted-comes, accepted-rose, takes-accepted}
use Rattle.order_kinds.proofs.accepting.accept_new.Given.{Over}
use Rattle.order_kinds.proofs.accepting.accept_new.Goals as goal
use Rattle.order_kinds.proofs.accepting.accept_new.Goals.{After-put_execution}

-- what stands after the report
reported : (g : Over) (c : After-put_execution g) → IsReported (terms_seen c.args.terms.now) c.args.new.now c.state.inside.desk c.count_report-head.new.desk c.order.result c.count_report-head.result
reported g c = record { is_order = c.order.ensures; is_head = c.count_report-head.ensures.head; is_desk = c.count_report-head.ensures.desk }

pub bring_in-requires-clause-can : goal.bring_in-requires-clause-can
bring_in-requires-clause-can g c =
    let is = reported g (goal.at.bring_in-requires-clause-can g c).After-put_execution in
    let new = c.args.new.now in
    let terms = terms_seen c.args.terms.now in
    accepted-comes _ terms new _ _ _ is (subst (λ (s : State). IsAccepted s terms new) (sym c.state.view_is) c.requires.accepted) (subst (λ (s : State). IsCounted s.desk) (sym c.state.view_is) c.requires.counted)
    (subst (λ (s : State). HasFewStops s.book) (sym c.state.view_is) c.requires.few)

pub returns-clause-takes : goal.returns-clause-takes
returns-clause-takes g c =
    let is = reported g (goal.at.returns-clause-takes g c).After-put_execution in
    let m = g.E.Emit.meanings in
    let new = c.args.new.now in
    let terms = terms_seen c.args.terms.now in
    subst (λ (s : State). Takes m (NewApart (Ok terms) new) (λ naming. accepted naming terms new) s c.bring_in.new.state c.args.out.now c.bring_in.new.out) c.state.view_is
    (takes-accepted m _ terms new _ _ _ is c.bring_in.new.state c.args.out.now c.put_execution.new.self c.bring_in.new.out (emits_as m _ _ _ _ (ap (λ (e : Event). e ∷ []) c.new.ensures) (emits_one m _ _ _ c.put_execution.ensures)) c.bring_in.ensures.takes)

pub returns-clause-rose : goal.returns-clause-rose
returns-clause-rose g c =
    let is = reported g (goal.at.returns-clause-rose g c).After-put_execution in
    let new = c.args.new.now in
    let terms = terms_seen c.args.terms.now in
    subst (λ (s : State). CountsRose (2 ^ 38) (numbered_next s.desk) c.bring_in.new.state.desk) c.state.view_is
    (accepted-rose _ terms new _ c.bring_in.new.state.desk _ _ is (subst (λ (s : State). IsAccepted s terms new) (sym c.state.view_is) c.requires.accepted)
    (subst (λ (s : State). HasFewStops s.book) (sym c.state.view_is) c.requires.few) c.bring_in.ensures.rose)
