use Rattle.std.proofs.Common.{[], ◌∷◌, ap, sym, subst}
use Rattle.std.specs.Prelude.{◌^◌, ◌<◌, false}
use Rattle.gx_base.specs.declared.limits.TheConstants.{MOST_FIRMS}
use Rattle.gx_base.specs.declared.order.Order.{Order}
use Rattle.gx_base.specs.declared.event.Event.{Event}
use Rattle.gx_base.specs.EmitLaws.{emits_as, emits_one}
use Rattle.plain_book.specs.Orders.{HasSlot, order_of}
use Rattle.plain_book.specs.Book.{live_orders}
use Rattle.order_kinds.specs.State.{State}
use Rattle.order_kinds.specs.Replaces.{replaced_anew}
use Rattle.order_kinds.specs.Inner.Apart.{ReplacedApart}
use Rattle.order_kinds.specs.Inner.Replacing.{IsAllowed}
use Rattle.order_kinds.specs.Inner.Taking.{Takes, CountsRose, IsCounted}
use Rattle.order_kinds.specs.Inner.Terms.{listed_instrument}
use Rattle.order_kinds.proofs.Accepted.{HasFewStops}
use Rattle.order_kinds.proofs.LiveOrders.{live-fits, fit-firm}
use Rattle.order_kinds.proofs.Replaced.{IsChanged, replaced-comes, replaced-rose, takes-anew}
use Rattle.order_kinds.proofs.replaces.replace_anew.Given.{Over}
use Rattle.order_kinds.proofs.replaces.replace_anew.Goals as goal
use Rattle.order_kinds.proofs.replaces.replace_anew.Goals.{After-put_execution}

-- the state as the function found it
abbrev before : (g : Over) (c : After-put_execution g) → State
before g c = record { book = g.B.Book.book c.state.inside.book; last = c.state.inside.last.items; desk = c.state.inside.desk; trading = c.state.inside.trading }

-- what stands after the report
changed : (g : Over) (c : After-put_execution g)
    → IsChanged c.args.request.now c.args.slot.0 (before g c) c.remove-order.result c.replaced_order.result (g.B.Book.book c.remove-order.new.self) c.count_report-head.new.desk c.count_report-head.result
changed g c = record {
  was = c.remove-order.ensures.order;
  is_order = c.replaced_order.ensures;
  is_book = c.remove-order.ensures.left;
  is_head = c.count_report-head.ensures.head;
  is_desk = c.count_report-head.ensures.desk;
}

pub count_report-head-requires-clause-firm : goal.count_report-head-requires-clause-firm
count_report-head-requires-clause-firm g c =
    let s = c.args.slot.0 in
    let b = g.B.Book.book c.state.inside.book in
    let has = subst (λ (s : State). HasSlot c.args.slot.0 (live_orders s.book)) (sym c.state.view_is) c.requires.live in
    subst (λ (o : Order). o.firm < MOST_FIRMS) (sym c.remove-order.ensures.order) (fit-firm b.instruments (order_of s (live_orders b)) (live-fits b s c.rules.ensures has))

pub bring_in-requires-clause-can : goal.bring_in-requires-clause-can
bring_in-requires-clause-can g c =
    let w = (goal.at.bring_in-requires-clause-can g c).After-put_execution in
    let request = c.args.request.now in
    let s = c.args.slot.0 in
    replaced-comes request s (before g w) c.rules.ensures (subst (λ (x : State). HasSlot s (live_orders x.book)) (sym c.state.view_is) c.requires.live) _ _ _ _ _ (changed g w)
    (subst (λ (x : State). IsAllowed x.book request (order_of s (live_orders x.book))) (sym c.state.view_is) c.requires.allowed)
    (subst (λ (x : State). IsCounted x.desk) (sym c.state.view_is) c.requires.counted)
    (subst (λ (x : State). HasFewStops x.book) (sym c.state.view_is) c.requires.few)

pub returns-clause-takes : goal.returns-clause-takes
returns-clause-takes g c =
    let w = (goal.at.returns-clause-takes g c).After-put_execution in
    let m = g.E.Emit.meanings in
    let request = c.args.request.now in
    let s = c.args.slot.0 in
    let on = listed_instrument c.args.instrument.now in
    subst (λ (x : State). Takes m (ReplacedApart false on request s) (λ naming. replaced_anew naming on request s) x c.bring_in.new.state c.args.out.now c.bring_in.new.out) c.state.view_is
    (takes-anew m request s (before g w) _ _ _ _ _ (changed g w) on c.bring_in.new.state c.args.out.now c.put_execution.new.self c.bring_in.new.out (emits_as m _ _ _ _ (ap (λ (e : Event). e ∷ []) c.replaced.ensures) (emits_one m _ _ _ c.put_execution.ensures)) c.bring_in.ensures.takes)

pub returns-clause-rose : goal.returns-clause-rose
returns-clause-rose g c =
    let w = (goal.at.returns-clause-rose g c).After-put_execution in
    let request = c.args.request.now in
    let s = c.args.slot.0 in
    subst (λ (x : State). CountsRose (2 ^ 38) x.desk c.bring_in.new.state.desk) c.state.view_is
    (replaced-rose request s (before g w) c.rules.ensures (subst (λ (x : State). HasSlot s (live_orders x.book)) (sym c.state.view_is) c.requires.live) _ _ _ _ _ (changed g w)
    (subst (λ (x : State). IsAllowed x.book request (order_of s (live_orders x.book))) (sym c.state.view_is) c.requires.allowed)
    (subst (λ (x : State). HasFewStops x.book) (sym c.state.view_is) c.requires.few) c.bring_in.new.state.desk c.bring_in.ensures.rose)
