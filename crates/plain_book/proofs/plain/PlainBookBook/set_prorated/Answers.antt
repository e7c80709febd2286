use Rattle.std.proofs.Common.{refl, ap, ◌∙◌}
use Rattle.plain_book.specs.Orders.{order_of}
use Rattle.plain_book.proofs.Fits.{fit-prorated}
use Rattle.plain_book.proofs.KeptCalls.{seen-fits, seen-renewed}
use Rattle.plain_book.proofs.plain.PlainBookBook.set_prorated.Goals as goal

pub invariant_of-self : goal.invariant_of-self
invariant_of-self c =
    let k = c.self.invariant in
    let seen = c.self.view_is in
    let old = c.order_at.ensures ∙ ap (order_of c.args.slot.0) c.deref.ensures.value in
    seen-renewed k seen (λ o. record o { prorated = c.args.share }) (λ o. (refl, refl, refl)) c.args.slot.0 c.requires old c.put_back.ensures.entries c.put_back.ensures.capacity
    (fit-prorated c.self.inside.instruments c.args.share _ (seen-fits k seen c.args.slot.0 c.requires))
