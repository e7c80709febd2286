-- A live order is found, leaves and changes by its number as by its slot.
use Rattle.std.proofs.Common.{◌≡◌, ℕ, List, refl, sym, ap, subst, ◌∙◌}
use Rattle.gx_base.specs.declared.order.Order.{Order}
use Rattle.plain_book.specs.declared.entry.Entry.{Entry}
use Rattle.plain_book.specs.Orders.{HasSlot, order_of, with_order}
use Rattle.plain_book.specs.Book.{Book, AllDiffer, live_orders, book_without, book_changed, changed_to}
use Rattle.plain_book.specs.Numbers.{numbered, book_numbered}
use Rattle.plain_book.proofs.Pairs.{all-front, all-back}
use Rattle.plain_book.proofs.Right.{live-without, without-gone, live-reordered}
use Rattle.plain_book.proofs.Walks.{AllDiffer-with_order}
use Rattle.level_sweep.proofs.Names.{GoesWith, Agree}
use Rattle.level_sweep.proofs.Numbered.{order-numbered, with_order-numbered}
use Rattle.level_sweep.proofs.Renamed.{live-numbered, named-live, removed-same}
use Rattle.order_kinds.proofs.Slots.{left-differ}

module _ (s : ℕ) (b : Book) (slots : AllDiffer (live_orders b)) (numbers : AllDiffer (live_orders (book_numbered b))) (has : HasSlot s (live_orders b)) where
  abbrev found : Order
  found = order_of s (live_orders b)

  goes_with : Agree s found.number (live_orders b)
  goes_with = named-live s b slots numbers has

  pub found-same : order_of found.number (live_orders (book_numbered b)) ≡ found
  found-same = ap (order_of found.number) (live-numbered b) ∙ order-numbered s found.number (live_orders b) goes_with

  -- ---- it leaves

  pub left-same : book_without found.number (book_numbered b) ≡ book_numbered (book_without s b)
  left-same = removed-same s b slots numbers has

  pub left-numbers : AllDiffer (live_orders (book_numbered (book_without s b)))
  left-numbers = subst (λ (x : Book). AllDiffer (live_orders x)) left-same (left-differ found.number (book_numbered b) numbers)

  -- no live order has its number any more
  pub left-lacks : HasSlot found.number (live_orders (book_numbered (book_without s b))) → ⊥
  left-lacks =
      let k = found.number in
      subst (λ (x : Book). HasSlot k (live_orders x) → ⊥) left-same
      (λ h. without-gone k (live_orders (book_numbered b)) (subst (HasSlot k) (live-without k (book_numbered b)) h))

  -- ---- it changes in its place

  module _ (id : List ℕ) (quantity least : ℕ) where
    pub changed-same : book_changed found.number id quantity least (book_numbered b) ≡ book_numbered (book_changed s id quantity least b)
    changed-same =
        let k = found.number in
        let o = changed_to id quantity least found in
        let Q = λ (e : Entry). GoesWith s k e.slot e.order.number in
        let into : List Entry → List Entry → Book = λ rests waits. record (book_numbered b) { resting = rests; waiting = waits } in
        let changed : Order → Book = λ old. let c = changed_to id quantity least old in into (with_order k c (numbered b.resting)) (with_order k c (numbered b.waiting)) in
        ap changed found-same
        ∙ ap (λ (es : List Entry). into es (with_order k o (numbered b.waiting))) (with_order-numbered s k o b.resting refl (all-front Q b.resting b.waiting goes_with))
        ∙ ap (into (numbered (with_order s o b.resting))) (with_order-numbered s k o b.waiting refl (all-back Q b.resting b.waiting goes_with))

    pub changed-numbers : AllDiffer (live_orders (book_numbered (book_changed s id quantity least b)))
    changed-numbers =
        let k = found.number in
        let x = book_numbered b in
        let o = changed_to id quantity least (order_of k (live_orders x)) in
        subst (λ (y : Book). AllDiffer (live_orders y)) changed-same (subst AllDiffer (sym (live-reordered k o x)) (AllDiffer-with_order k o (live_orders x) numbers))
