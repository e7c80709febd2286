use Rattle.std.proofs.Common.{sym, ap, subst, ◌∙◌, arith}
use Rattle.plain_book.specs.Orders.{HasSlot, order_of}
use Rattle.plain_book.specs.Book.{Book, IsResting}
use Rattle.plain_book.proofs.Levels.{AllDiffer-front}
use Rattle.plain_book.proofs.Right.{length-without, length-front}
use Rattle.plain_book.proofs.KeptCalls.{seen-fits, seen-traded}
use Rattle.plain_book.proofs.plain.PlainBookBook.trade.Goals as goal

pub trade_order-requires-clause-within : goal.trade_order-requires-clause-within
trade_order-requires-clause-within c =
    (subst (IsResting c.self.inside.instruments) (sym (c.order_at-order.ensures ∙ ap (order_of c.args.slot.0) c.deref.ensures.value)) (seen-fits c.self.invariant c.self.view_is c.args.slot.0 c.requires.rests)).within

pub trade_order-requires-clause-whole : goal.trade_order-requires-clause-whole
trade_order-requires-clause-whole c =
    let fits = subst (IsResting c.self.inside.instruments) (sym (c.order_at-order.ensures ∙ ap (order_of c.args.slot.0) c.deref.ensures.value)) (seen-fits c.self.invariant c.self.view_is c.args.slot.0 c.requires.rests) in
    omega (arith, fits.fit.whole, fits.fit.small)

pub trade_order-requires-clause-room : goal.trade_order-requires-clause-room
trade_order-requires-clause-room c =
    let p = c.self.inside in
    let s = c.args.slot.0 in
    let k = c.self.invariant in
    let has : HasSlot s p.resting.items = subst (λ (b : Book). HasSlot s b.resting) (sym c.self.view_is) c.requires.rests in
    omega (arith, length-without s p.resting.items (AllDiffer-front p.resting.items p.waiting.items k.right.differ) has, length-front p.resting.items p.waiting.items, k.right.few, k.resting)

pub invariant_of-self : goal.invariant_of-self
invariant_of-self c =
    let e = c.trade_order.ensures in
    seen-traded c.self.invariant c.self.view_is c.args.slot.0 c.args.lots c.requires.rests c.requires.some c.requires.shown e.entries e.capacity e.free e.free_capacity
