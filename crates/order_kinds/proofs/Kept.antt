-- What holds of each live order holds of each after a sweep, and when an order comes to rest, waits, leaves or changes.
use Rattle.std.proofs.Common.{◌≡◌, ℕ, Bool, true, false, cond, not, List, ◌∷◌, filter, Option, None, sym, ap, subst}
use Rattle.std.specs.Prelude.{◌==◌, ◌&&◌}
use Rattle.gx_base.specs.declared.price.Price.{Price}
use Rattle.gx_base.specs.declared.order.Order.{Order}
use Rattle.step_config.specs.declared.step.Step.{Step}
use Rattle.plain_book.specs.declared.entry.Entry.{Entry}
use Rattle.plain_book.specs.Orders.{order_of, is_of_earlier_instrument, is_new_best, with_top, topped}
use Rattle.plain_book.specs.Book.{Book, live_orders, first_shown, makes_top, book_placed, book_waited, book_without, book_changed, changed_to}
use Rattle.plain_book.specs.Match.{MatchState}
use Rattle.plain_book.proofs.Pairs.{all-append, all-front, all-back, all-filter, all-map}
use Rattle.plain_book.proofs.Live.{AllOrders, orders-placed, orders-with_order}
use Rattle.plain_book.proofs.Right.{live-without, live-reordered}
use Rattle.level_sweep.specs.Sweep.{sweep}
use Rattle.level_sweep.proofs.EachTrade.{each-sweep}
use Rattle.level_sweep.proofs.EachOrder.{StaysTrue, AllStay, all-kept}
use Rattle.level_sweep.proofs.Resting.{rest-sweep}

-- a fact on an order that does not look at what is filled, open, shown or shared out
pub record IgnoresTrades (P : Order → Type 0) : Type 0 where
  pub other : (o : Order) (filled leaves shown prorated : ℕ) → P o → P (record o { filled = filled; leaves = leaves; shown = shown; prorated = prorated })

module _ (P : Order → Type 0) (ignores : IgnoresTrades P) where
  abbrev Each : Entry → Type 0
  Each e = P e.order

  stays : StaysTrue Each
  stays = record {
    fills = λ n e x p q is some. ignores.other e.order _ _ _ _ p;
    refreshes = λ n e p some none. ignores.other e.order _ _ _ _ p;
    marks = λ n e x p q is. ignores.other e.order _ _ _ _ p;
  }

  pub all-swept : (steps : List Step) (limit : Price) (m : MatchState) → AllOrders P (live_orders m.book) → AllOrders P (live_orders (sweep steps limit m).book)
  all-swept steps limit m a =
      let b = m.book in
      let end = sweep steps limit m in
      let waits : end.book.waiting ≡ b.waiting = ap (λ (x : Book). x.waiting) (rest-sweep steps limit m) in
      all-append Each end.book.resting end.book.waiting
      (each-sweep (AllStay Each stays) (all-kept Each stays) steps limit m (all-front Each b.resting b.waiting a))
      (subst (AllOrders P) (sym waits) (all-back Each b.resting b.waiting a))

  pub all-book_placed : (slot : ℕ) (o : Order) (top_min : Option ℕ) (b : Book) → P o → AllOrders P (live_orders b) → AllOrders P (live_orders (book_placed slot o top_min b))
  all-book_placed slot o top_min b p a =
      let es = b.resting in
      let rests = all-front Each es b.waiting a in
      let best = is_new_best o es in
      let cleared : Bool → List Entry = λ c. cond c (with_top o.instrument o.side None es) es in
      let topped_all : AllOrders P (with_top o.instrument o.side None es) = all-map Each Each (topped o.instrument o.side None) (λ x k. k) es rests in
      let kept : (c : Bool) → AllOrders P (cleared c) = elim [ true ↦ topped_all | false ↦ rests ] in
      let n : Entry = record { slot = slot; order = record o { shown = first_shown o }; is_top = best && makes_top top_min o.leaves } in
      all-append Each _ b.waiting (orders-placed P n (cleared best) (ignores.other o o.filled o.leaves (first_shown o) o.prorated p) (kept best)) (all-back Each es b.waiting a)

  pub all-book_waited : (slot : ℕ) (o : Order) (b : Book) → P o → AllOrders P (live_orders b) → AllOrders P (live_orders (book_waited slot o b))
  all-book_waited slot o b p a =
      let n : Entry = record { slot = slot; order = record o { shown = 0 }; is_top = false } in
      let ws = all-back Each b.resting b.waiting a in
      let behind = is_of_earlier_instrument n in
      all-append Each b.resting _ (all-front Each b.resting b.waiting a)
      (all-append Each (filter (λ e. not (behind e)) b.waiting) (n ∷ filter behind b.waiting) (all-filter Each (λ e. not (behind e)) b.waiting ws)
      (ignores.other o o.filled o.leaves 0 o.prorated p, all-filter Each behind b.waiting ws))

pub all-left : (P : Order → Type 0) (slot : ℕ) (b : Book) → AllOrders P (live_orders b) → AllOrders P (live_orders (book_without slot b))
all-left P slot b a = subst (AllOrders P) (sym (live-without slot b)) (all-filter (λ (e : Entry). P e.order) (λ e. not (e.slot == slot)) (live_orders b) a)

-- where it holds of the order as it is changed to
pub all-changed : (P : Order → Type 0) (slot : ℕ) (id : List ℕ) (quantity least : ℕ) (b : Book) → P (changed_to id quantity least (order_of slot (live_orders b))) → AllOrders P (live_orders b) → AllOrders P (live_orders (book_changed slot id quantity least b))
all-changed P slot id quantity least b p a =
    let o = changed_to id quantity least (order_of slot (live_orders b)) in
    subst (AllOrders P) (sym (live-reordered slot o b)) (orders-with_order P slot o (live_orders b) (λ _. p) a)
