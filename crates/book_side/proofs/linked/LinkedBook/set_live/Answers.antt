use Rattle.std.proofs.Common.{◌≡◌, ℕ, Bool, true, sym, ap, subst, ◌∙◌}
use Rattle.std.specs.Bool.{MatchBool}
use Rattle.gx_base.specs.declared.order.Order.{Order}
use Rattle.plain_book.specs.Orders.{HasSlot, order_of, level_of}
use Rattle.plain_book.specs.Book.{Book, live_orders}
use Rattle.plain_book.proofs.Levels.{order_of-left}
use Rattle.plain_book.proofs.Right.{waiting-same}
use Rattle.book_side.proofs.linked.LinkedBook.set_live.Goals as goal

-- the order rests, if the test says so
rests-if : (s : ℕ) (b : Book) {test : Bool} → test ≡ true → MatchBool test (HasSlot s b.resting) (HasSlot s b.waiting) → order_of s (live_orders b) ≡ order_of s b.resting
rests-if s b holds has = order_of-left s b.resting b.waiting (subst (λ (x : Bool). MatchBool x (HasSlot s b.resting) (HasSlot s b.waiting)) holds has)

pub set_order-requires-clause-level : goal.set_order-requires-clause-level
set_order-requires-clause-level c = c.requires.level ∙ ap level_of (rests-if c.args.slot.0 c.args.self.now c.if-is_resting.true c.is_resting.ensures)

pub set_order-requires-clause-firm : goal.set_order-requires-clause-firm
set_order-requires-clause-firm c = c.requires.firm ∙ ap (λ (o : Order). o.firm) (rests-if c.args.slot.0 c.args.self.now c.if-is_resting.true c.is_resting.ensures)

pub set_order-requires-clause-id : goal.set_order-requires-clause-id
set_order-requires-clause-id c = c.requires.id ∙ ap (λ (o : Order). o.id) (rests-if c.args.slot.0 c.args.self.now c.if-is_resting.true c.is_resting.ensures)

pub returns-then-is_resting : goal.returns-then-is_resting
returns-then-is_resting c =
    let s = c.args.slot.0 in
    let b = c.args.self.now in
    let has = subst (λ (x : Bool). MatchBool x (HasSlot s b.resting) (HasSlot s b.waiting)) c.if-is_resting.true c.is_resting.ensures in
    c.set_order.ensures ∙ sym (waiting-same b s c.args.order.now c.rules.ensures has)
