use Rattle.std.proofs.Common.{◌≡◌, [], refl, sym, ap, subst, ◌∙◌}
use Rattle.gx_base.specs.declared.trading.Trading.TheVariants.{Open, Closed}
use Rattle.gx_base.specs.EmitLaws.{emits_none}
use Rattle.order_kinds.specs.State.{State}
use Rattle.order_kinds.specs.Stops.{by_number}
use Rattle.order_kinds.specs.TradingSessions.{session_step, market_closed}
use Rattle.order_kinds.specs.Inner.Taking.{Takes}
use Rattle.order_kinds.proofs.TakenSteps.{takes-known}
use Rattle.order_kinds.proofs.SessionChanges.{change-opens, change-closes, stays-closed}
use Rattle.order_kinds.proofs.trading_sessions.change_session.Goals as goal

pub returns-in-Open-default-clause-takes : goal.returns-in-Open-default-clause-takes
returns-in-Open-default-clause-takes g c =
    let m = g.E.Emit.meanings in
    let change = c.args.change.now in
    let old : State = record { book = g.B.Book.book c.state.inside.book; last = c.state.inside.last.items; desk = c.state.inside.desk; trading = c.state.inside.trading } in
    let new : State = record old { trading = Open } in
    subst (λ (s : State). Takes m (λ state naming. Unit {0}) (λ naming. session_step change) s new c.args.out.now c.args.out.now) c.state.view_is
    (takes-known m (λ state naming. Unit {0}) (λ naming. session_step change) old _ _ by_number (new, []) new tt (change-opens change old c.in-Open-default.is-0) refl (emits_none m c.args.out.now))

pub returns-in-Closed-Open-clause-takes : goal.returns-in-Closed-Open-clause-takes
returns-in-Closed-Open-clause-takes g c =
    let m = g.E.Emit.meanings in
    let change = c.args.change.now in
    let old = c.args.state.now in
    let from : old.trading ≡ Open = ap (λ (s : State). s.trading) (sym c.state.view_is) ∙ c.in-Closed-Open.is-1 in
    takes-known m (λ state naming. Unit {0}) (λ naming. session_step change) old _ _ by_number (market_closed change.time old) c.close_market.new.state tt
    (change-closes change old c.in-Closed-Open.is-0 from) c.close_market.ensures.state c.close_market.ensures.emits

pub returns-in-Closed-Closed-clause-takes : goal.returns-in-Closed-Closed-clause-takes
returns-in-Closed-Closed-clause-takes g c =
    let m = g.E.Emit.meanings in
    let change = c.args.change.now in
    let old = c.args.state.now in
    let from : old.trading ≡ Closed = ap (λ (s : State). s.trading) (sym c.state.view_is) ∙ c.in-Closed-Closed.is-1 in
    takes-known m (λ state naming. Unit {0}) (λ naming. session_step change) old _ _ by_number (old, []) old tt
    (stays-closed change old c.in-Closed-Closed.is-0 from) refl (emits_none m c.args.out.now)
