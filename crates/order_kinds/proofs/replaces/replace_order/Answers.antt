use Rattle.std.proofs.Common.{◌≡◌, Some, Err, true, sym, ap, subst, ◌∙◌}
use Rattle.plain_book.specs.Orders.{HasSlot, order_of}
use Rattle.plain_book.specs.Book.{live_orders}
use Rattle.order_kinds.specs.State.{State}
use Rattle.order_kinds.specs.Replaces.{replace_terms, replaced_in_place, replace_at}
use Rattle.order_kinds.specs.Stops.{by_number}
use Rattle.order_kinds.specs.Inner.Apart.{ReplaceApart}
use Rattle.order_kinds.specs.Inner.Replacing.{IsAllowed}
use Rattle.order_kinds.specs.Inner.Taking.{Takes}
use Rattle.order_kinds.specs.Inner.Terms.{listed_instrument, map_instrument}
use Rattle.order_kinds.proofs.Numbering.{named-has}
use Rattle.order_kinds.proofs.TakenSteps.{takes-known, takes-refused}
use Rattle.order_kinds.proofs.Replaced.{seen-allowed, step-refused, step-in_place}
use Rattle.order_kinds.proofs.replaces.replace_order.Goals as goal

pub order-order-requires : goal.order-order-requires
order-order-requires g c =
    let s = c.args.slot.0 in
    subst (λ (x : State). HasSlot s (live_orders x.book)) (sym c.state.view_is) (named-has c.args.request.now.sender.firm c.args.request.now.old s (live_orders c.args.state.now.book) c.requires.named)

pub replace_in_place-requires-clause-live : goal.replace_in_place-requires-clause-live
replace_in_place-requires-clause-live g c = named-has c.args.request.now.sender.firm c.args.request.now.old c.args.slot.0 (live_orders c.args.state.now.book) c.requires.named

pub replace_in_place-requires-clause-allowed : goal.replace_in_place-requires-clause-allowed
replace_in_place-requires-clause-allowed g c =
    let was = subst (λ (x : State). c.order-order.result.now ≡ order_of c.args.slot.0 (live_orders x.book)) c.state.view_is c.order-order.ensures in
    subst (IsAllowed c.args.state.now.book c.args.request.now) (sym was) (seen-allowed c.args.product.now c.args.request.now c.args.slot.0 c.state.view_is c.order-order.result.now (listed_instrument c.in-Ok.field-0) c.rules.ensures c.requires.fits c.requires.valid c.requires.named c.order-order.ensures
    (sym c.terms_of.ensures ∙ ap map_instrument c.in-Ok.is)).0

pub replace_anew-requires-clause-live : goal.replace_anew-requires-clause-live
replace_anew-requires-clause-live g c = named-has c.args.request.now.sender.firm c.args.request.now.old c.args.slot.0 (live_orders c.args.state.now.book) c.requires.named

pub replace_anew-requires-clause-allowed : goal.replace_anew-requires-clause-allowed
replace_anew-requires-clause-allowed g c = (seen-allowed c.args.product.now c.args.request.now c.args.slot.0 c.state.view_is c.order-order.result.now (listed_instrument c.in-Ok.field-0) c.rules.ensures c.requires.fits c.requires.valid c.requires.named c.order-order.ensures
    (sym c.terms_of.ensures ∙ ap map_instrument c.in-Ok.is)).0

pub replace_anew-requires-clause-priced : goal.replace_anew-requires-clause-priced
replace_anew-requires-clause-priced g c = (seen-allowed c.args.product.now c.args.request.now c.args.slot.0 c.state.view_is c.order-order.result.now (listed_instrument c.in-Ok.field-0) c.rules.ensures c.requires.fits c.requires.valid c.requires.named c.order-order.ensures
    (sym c.terms_of.ensures ∙ ap map_instrument c.in-Ok.is)).1

pub returns-in-Err-clause-takes : goal.returns-in-Err-clause-takes
returns-in-Err-clause-takes g c =
    let m = g.E.Emit.meanings in
    let product = c.args.product.now in
    let request = c.args.request.now in
    let s = c.args.slot.0 in
    let o = c.order-order.result.now in
    let fault = c.in-Err.fault in
    let old : State = record { book = g.B.Book.book c.state.inside.book; last = c.state.inside.last.items; desk = c.state.inside.desk; trading = c.state.inside.trading } in
    let terms : replace_terms product request o c.args.state.now ≡ Err fault = sym c.terms_of.ensures ∙ ap map_instrument c.in-Err.is in
    let step = step-refused product request s old o c.order-order.ensures fault (subst (λ (x : State). replace_terms product request o x ≡ Err fault) (sym c.state.view_is) terms) in
    subst (λ (x : State). Takes m (ReplaceApart (Some s) product request) (λ naming. replace_at (Some s) naming product request) x (record old { desk = c.report.new.desk }) c.args.out.now c.report.new.out) c.state.view_is
    (takes-refused m (ReplaceApart (Some s) product request) (λ naming. replace_at (Some s) naming product request) old _ _ c.refused.result request.sender request.id request.old o.number o.filled true fault c.report.new.desk
    c.refused.ensures.change c.refused.ensures.sender c.report.ensures.desk c.report.ensures.emits step.0 step.1)

pub returns-in-Ok-clause-takes : goal.returns-in-Ok-clause-takes
returns-in-Ok-clause-takes g c =
    let m = g.E.Emit.meanings in
    let product = c.args.product.now in
    let request = c.args.request.now in
    let s = c.args.slot.0 in
    let o = c.order-order.result.now in
    let old = c.args.state.now in
    let was = subst (λ (x : State). o ≡ order_of s (live_orders x.book)) c.state.view_is c.order-order.ensures in
    let step = step-in_place product request s old o was (listed_instrument c.in-Ok.field-0) (sym c.terms_of.ensures ∙ ap map_instrument c.in-Ok.is) (sym c.keeps_place.ensures ∙ c.if-keeps_place.true) in
    takes-known m (ReplaceApart (Some s) product request) (λ naming. replace_at (Some s) naming product request) old c.args.out.now c.replace_in_place.new.out by_number (replaced_in_place request s old) c.replace_in_place.new.state
    step.0 step.1 c.replace_in_place.ensures.state c.replace_in_place.ensures.emits
