use Rattle.std.proofs.Common.{◌≤◌, min, refl, sym, ap, subst, ◌∙◌}
use Rattle.plain_book.specs.Orders.{order_of}
use Rattle.plain_book.specs.Book.{Book}
use Rattle.plain_book.proofs.Fits.{fit-shown}
use Rattle.plain_book.proofs.KeptCalls.{seen-fits, seen-renewed}
use Rattle.plain_book.proofs.plain.PlainBookBook.set_shown.Goals as goal

pub invariant_of-self : goal.invariant_of-self
invariant_of-self c =
    let k = c.self.invariant in
    let seen = c.self.view_is in
    let s = c.args.slot.0 in
    let old = c.order_at.ensures ∙ ap (order_of s) c.deref.ensures.value in
    let display = subst (λ (x : Book). 1 ≤ (order_of s x.resting).show) (sym seen) c.requires.display in
    let within = subst (λ (x : Book). c.args.shown ≤ min (order_of s x.resting).show (order_of s x.resting).leaves) (sym seen) c.requires.within in
    seen-renewed k seen (λ o. record o { shown = c.args.shown }) (λ o. (refl, refl, refl)) s c.requires.rests old c.put_back.ensures.entries c.put_back.ensures.capacity
    (fit-shown c.self.inside.instruments c.args.shown _ (seen-fits k seen s c.requires.rests) display c.requires.some within)
