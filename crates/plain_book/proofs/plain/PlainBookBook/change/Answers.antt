use Rattle.std.proofs.Common.{◌≡◌, ◌≤◌, ◌<◌, ◌++◌, List, false, sym, ap, subst, ◌∙◌, arith}
use Rattle.std.specs.Prelude.{vec_capacity}
use Rattle.gx_base.specs.declared.order.Order.{Order}
use Rattle.plain_book.specs.declared.entry.Entry.{Entry}
use Rattle.plain_book.specs.Orders.{HasSlot, order_of, is_live, with_order}
use Rattle.plain_book.specs.Book.{Book, live_orders, changed_to}
use Rattle.plain_book.specs.Inner.FreeSlots.{book_of, IsKept}
use Rattle.plain_book.proofs.Kept.{kept-changed}
use Rattle.plain_book.proofs.plain.PlainBookBook.change.Goals as goal

pub invariant_of-self : goal.invariant_of-self
invariant_of-self c =
    let p = c.self.inside in
    let xs = p.resting.items in
    let ws = p.waiting.items in
    let s = c.args.slot.0 in
    let id = c.args.id in
    let q = c.args.quantity in
    let m = c.args.min in
    let b = book_of p.capacity p.instruments xs ws in
    let e = c.put_back.ensures in
    let f = c.put_back-2.ensures in
    let er = vec_capacity c.put_back.new.entries in
    let wr = vec_capacity c.put_back-2.new.entries in
    let fr = vec_capacity p.free in
    let o : Order = changed_to id q m (order_of s (xs ++ ws)) in
    let o_is : c.changed-order.result ≡ o =
    c.changed-order.ensures ∙ ap (changed_to id q m) (c.order_in-order.ensures ∙ ap (λ (l : List Entry). order_of s (l ++ c.deref-2.result.now)) c.deref.ensures.value ∙ ap (λ (l : List Entry). order_of s (xs ++ l)) c.deref-2.ensures.value) in
    let back = sym c.self.view_is in
    let live : HasSlot s (live_orders b) = subst (λ (x : Book). HasSlot s (live_orders x)) back c.requires.live in
    let open_lots : (order_of s (live_orders b)).filled < q = subst (λ (x : Book). (order_of s (live_orders x)).filled < q) back c.requires.open in
    let less : q ≤ (order_of s (live_orders b)).quantity = subst (λ (x : Book). q ≤ (order_of s (live_orders x)).quantity) back c.requires.lower in
    let show : (order_of s (live_orders b)).show ≤ q = subst (λ (x : Book). (order_of s (live_orders x)).show ≤ q) back c.requires.show in
    let unnamed : is_live (order_of s (live_orders b)).firm id (live_orders b) ≡ false = subst (λ (x : Book). is_live (order_of s (live_orders x)).firm id (live_orders x) ≡ false) back c.requires.unnamed in
    let no_min : HasSlot s xs → m ≡ 0 = subst (λ (x : Book). HasSlot s x.resting → m ≡ 0) back c.requires.no_min in
    let kept = kept-changed b (vec_capacity p.resting) (vec_capacity p.waiting) p.free.items fr er wr fr c.self.invariant (omega (arith, e.capacity)) (omega (arith, f.capacity)) (omega arith) s id q m live open_lots less show unnamed no_min in
    subst (λ (l : List Entry). IsKept (book_of p.capacity p.instruments l c.put_back-2.new.entries.items) er wr p.free.items fr) (sym (e.entries ∙ ap (λ (x : Order). with_order s x xs) o_is))
    (subst (λ (l : List Entry). IsKept (book_of p.capacity p.instruments (with_order s o xs) l) er wr p.free.items fr) (sym (f.entries ∙ ap (λ (x : Order). with_order s x ws) o_is)) kept)
