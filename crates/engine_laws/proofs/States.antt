-- The state of the engine, where each order is named by its number.
use Rattle.std.proofs.Common.{◌≡◌, ℕ, ◌+◌, ◌≤◌, List, [], ◌∷◌, filter, Some, refl, sym, ap, ◌∙◌, arith, inl, inr}
use Rattle.std.specs.List.{AllByRecursion}
use Rattle.gx_base.specs.declared.order.Order.{Order}
use Rattle.plain_book.specs.declared.entry.Entry.{Entry}
use Rattle.plain_book.specs.Orders.{HasSlot, order_of, is_named, slot_named}
use Rattle.plain_book.specs.Book.{Book, live_orders, AllDiffer}
use Rattle.plain_book.specs.Numbers.{entry_numbered, numbered, book_numbered}
use Rattle.plain_book.proofs.Levels.{HasSlot-filter}
use Rattle.plain_book.proofs.Live.{orders-at, first-has}
use Rattle.plain_book.proofs.Pairs.{all-append, all-front, all-back, all-map}
use Rattle.level_sweep.proofs.EachOrder.{found}
use Rattle.order_kinds.specs.State.{State}
use Rattle.order_kinds.specs.Cores.{AreNumbered}
use Rattle.engine_laws.proofs.Singles.{once-same, once-or-same, no-times, differ-single}
use Rattle.engine_laws.proofs.Matching.{IsByNumber, AreSingleWith}

-- Each live order is named by its number, no number stands twice, and none is above the last one given.
pub record AreByNumber (given : ℕ) (b : Book) : Type 0 where
  pub differ : AllDiffer (live_orders b)
  pub named : AllByRecursion IsByNumber (live_orders b)
  pub within : AllByRecursion (λ (e : Entry). e.order.number ≤ given) (live_orders b)

all-numbered : (es : List Entry) → AllByRecursion IsByNumber (numbered es)
all-numbered [] = tt
all-numbered (e ∷ es) = (refl, all-numbered es)

pub numbered-state : (state : State) → AreNumbered state → AreByNumber state.desk.orders (book_numbered state.book)
numbered-state state are =
    let rests = state.book.resting in
    let waits = state.book.waiting in
    let Within = λ (e : Entry). e.order.number ≤ state.desk.orders in
    record {
      differ = are.differ;
      named = all-append IsByNumber (numbered rests) (numbered waits) (all-numbered rests) (all-numbered waits);
      within = all-append Within (numbered rests) (numbered waits)
          (all-map Within Within entry_numbered (λ e h. h) rests (all-front Within rests waits are.given))
          (all-map Within Within entry_numbered (λ e h. h) waits (all-back Within rests waits are.given));
    }

-- the order of a name has it as its number
pub number-at : (s : ℕ) (es : List Entry) → AllByRecursion IsByNumber es → HasSlot s es → (order_of s es).number ≡ s
number-at s es named has = elim (found IsByNumber s es named) [
  | inl none ↦ absurd (none.0 has)
  | inr f ↦ sym (ap (λ (o : Order). o.number) f.order) ∙ sym f.holds ∙ f.slot
]

-- an order that is found by its firm and id is live
pub named-has : (firm : ℕ) (id : List ℕ) (s : ℕ) (es : List Entry) → slot_named firm id es ≡ Some s → HasSlot s es
named-has firm id s es h = HasSlot-filter (is_named firm id) s es (first-has s (filter (is_named firm id) es) h)

-- the next number is that of no live order
pub next-single : (given : ℕ) (b : Book) → AreByNumber given b → AreSingleWith (given + 1) b
next-single given b h s =
    let es = live_orders b in
    let fresh : given + 1 ≡ s → HasSlot s es → ⊥ = λ is has.
    let most : (order_of s es).number ≤ given = orders-at (λ (o : Order). o.number ≤ given) s es h.within has in
    omega (arith, is, most, number-at s es h.named has) in
    elim (once-or-same (given + 1) s) [
      | inl is ↦ omega (arith, once-same (given + 1) s is, no-times s es (fresh is))
      | inr other ↦ omega (arith, other, differ-single es h.differ s)
    ]
