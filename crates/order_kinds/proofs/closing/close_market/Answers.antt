use Rattle.std.proofs.Common.{◌≡◌, ◌^◌, ap₂, subst}
use Rattle.gx_base.specs.declared.order.Desk.{Desk}
use Rattle.gx_base.specs.declared.trading.Trading.TheVariants.{Closed}
use Rattle.gx_base.specs.Emits.{Emits}
use Rattle.plain_book.specs.Book.{Book}
use Rattle.order_kinds.specs.State.{State}
use Rattle.order_kinds.specs.TradingSessions.{market_closed}
use Rattle.order_kinds.specs.Inner.Taking.{CountsRose}
use Rattle.order_kinds.proofs.ExpiryReports.{rose-expiries}
use Rattle.order_kinds.proofs.EndedParts.{all-ended, all-reported}
use Rattle.order_kinds.proofs.closing.close_market.Goals as goal

pub returns-clause-state : goal.returns-clause-state
returns-clause-state g c =
    let b = g.B.Book.book c.state.inside.book in
    let b1 = g.B.Book.book c.expire_resting.new.book in
    let b2 = g.B.Book.book c.expire_waiting.new.book in
    let old : State = record { book = b; last = c.state.inside.last.items; desk = c.state.inside.desk; trading = c.state.inside.trading } in
    let made = λ (k : Book) (d : Desk). record old { book = k; desk = d; trading = Closed } in
    let reported = all-reported g.E.Emit.meanings c.args.time b b1 c.expire_resting.ensures.book c.expire_resting.ensures.reports c.expire_waiting.ensures.reports in
    subst (λ (s : State). made b2 c.expire_waiting.new.desk ≡ (market_closed c.args.time s).0) c.state.view_is
    (ap₂ made (all-ended b b1 b2 c.expire_resting.ensures.book c.expire_waiting.ensures.book) reported.desk)

pub returns-clause-emits : goal.returns-clause-emits
returns-clause-emits g c =
    let b = g.B.Book.book c.state.inside.book in
    let b1 = g.B.Book.book c.expire_resting.new.book in
    let reported = all-reported g.E.Emit.meanings c.args.time b b1 c.expire_resting.ensures.book c.expire_resting.ensures.reports c.expire_waiting.ensures.reports in
    subst (λ (s : State). Emits g.E.Emit.meanings c.args.out.now c.expire_waiting.new.out (market_closed c.args.time s).1) c.state.view_is reported.emits

pub returns-clause-rose : goal.returns-clause-rose
returns-clause-rose g c =
    let b = g.B.Book.book c.state.inside.book in
    let b1 = g.B.Book.book c.expire_resting.new.book in
    let reported = all-reported g.E.Emit.meanings c.args.time b b1 c.expire_resting.ensures.book c.expire_resting.ensures.reports c.expire_waiting.ensures.reports in
    subst (λ (s : State). CountsRose (2 ^ 38) s.desk c.expire_waiting.new.desk) c.state.view_is
    (rose-expiries c.args.time b c.rules.ensures c.state.inside.desk c.expire_waiting.new.desk reported.desk)
