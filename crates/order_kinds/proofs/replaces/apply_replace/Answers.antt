use Rattle.std.proofs.Common.{◌≡◌, ℕ, Option, None, option_map, sym, ap, subst, ◌∙◌}
use Rattle.gx_base.specs.declared.order.Desk.{Desk}
use Rattle.gx_base.specs.declared.event.ChangeFault.TheVariants.{Unknown}
use Rattle.plain_book.specs.Orders.{slot_named}
use Rattle.plain_book.specs.Book.{live_orders, slot_number}
use Rattle.order_kinds.specs.State.{State}
use Rattle.order_kinds.specs.Replaces.{replace_refused, replace_at, replace_step}
use Rattle.order_kinds.specs.Stops.{Naming, by_number}
use Rattle.order_kinds.specs.Inner.Apart.{ReplaceApart}
use Rattle.order_kinds.specs.Inner.Taking.{Takes}
use Rattle.order_kinds.proofs.TakenSteps.{takes-known}
use Rattle.order_kinds.proofs.replaces.apply_replace.Goals as goal

pub returns-in-None-clause-takes : goal.returns-in-None-clause-takes
returns-in-None-clause-takes g c =
    let m = g.E.Emit.meanings in
    let product = c.args.product.now in
    let request = c.args.request.now in
    let old : State = record { book = g.B.Book.book c.state.inside.book; last = c.state.inside.last.items; desk = c.state.inside.desk; trading = c.state.inside.trading } in
    let Apart : State → Naming → Type 0 = λ state. ReplaceApart (slot_named request.sender.firm request.old (live_orders state.book)) product request state in
    let named : slot_named request.sender.firm request.old (live_orders old.book) ≡ None = sym c.find.ensures ∙ ap (option_map slot_number) c.in-None.is in
    subst (λ (x : State). Takes m Apart (λ naming. replace_step naming product request) x (record old { desk = c.refuse_replace.new.desk }) c.args.out.now c.refuse_replace.new.out) c.state.view_is
    (takes-known m Apart (λ naming. replace_step naming product request) old _ _ by_number (replace_refused Unknown request 0 0 old) (record old { desk = c.refuse_replace.new.desk })
    (subst (λ (s : Option ℕ). ReplaceApart s product request old by_number) (sym named) tt)
    (ap (λ (s : Option ℕ). replace_at s by_number product request old) named)
    (ap (λ (d : Desk). record old { desk = d }) c.refuse_replace.ensures.desk)
    c.refuse_replace.ensures.emits)
