-- A stop that leaves.
use Rattle.std.proofs.Common.{◌≡◌, ℕ, ◌+◌, ◌<◌, Bool, true, false, cond, not, List, [], ◌∷◌, map, length, refl, sym, ap, subst, ◌∙◌, arith}
use Rattle.std.proofs.lemmas.List.{length-map}
use Rattle.std.specs.Prelude.{◌==◌, Option, None}
use Rattle.std.specs.List.{AllByRecursion, range_with_len}
use Rattle.gx_base.specs.declared.order.Order.{Order}
use Rattle.plain_book.specs.declared.entry.Entry.{Entry}
use Rattle.plain_book.specs.Orders as orders
use Rattle.plain_book.specs.Orders.{slot_named, without}
use Rattle.plain_book.specs.Book.{Book, live_orders, IsRight, book_without}
use Rattle.plain_book.proofs.Levels.{HasSlot-right, slots-apart, without-none}
use Rattle.plain_book.proofs.Pairs.{all-filter}
use Rattle.plain_book.proofs.Right.{live-without, length-without, right-without}
use Rattle.order_pool.specs.Queues as pool
use Rattle.order_pool.specs.Queues.{SlotsDiffer, without_slot}
use Rattle.id_table.specs.Ids.{Ids}
use Rattle.price_level.specs.Rows.{Rows, AreRows}
use Rattle.book_side.specs.declared.tops.SideTops.{SideTops}
use Rattle.book_side.specs.Inner.Content.{Held, unmarked, book_of, waiting_of}
use Rattle.book_side.specs.Inner.Linked.{IsLinked}
use Rattle.book_side.proofs.LevelOf.{held, same-lists}
use Rattle.book_side.proofs.Ids.{IsTaken, is_same_name}
use Rattle.book_side.proofs.Flat.{flat-filter, flat-same}
use Rattle.book_side.proofs.Pools.{at-removed, has-below}
use Rattle.book_side.proofs.Slots.{without_slot-none}
use Rattle.book_side.proofs.Leaving.{left-named}
use Rattle.book_side.proofs.Places.{IsInLine, in-line}
use Rattle.book_side.proofs.Beside.{resting-same, summed-same, unused-same, top-same}

unmarked-without : (s : ℕ) (hs : List Held) → map unmarked (without_slot s hs) ≡ without s (map unmarked hs)
unmarked-without s [] = refl
unmarked-without s (h ∷ hs) =
    let go : (b : Bool) → map unmarked (cond b (h ∷ without_slot s hs) (without_slot s hs)) ≡ cond b (unmarked h ∷ without s (map unmarked hs)) (without s (map unmarked hs)) = elim [
      | true ↦ ap (λ (l : List Entry). unmarked h ∷ l) (unmarked-without s hs)
      | false ↦ unmarked-without s hs
    ] in go (not (h.0 == s))

-- what the call makes
pub record IsUnlined (c n : ℕ) (p p' : pool.Queues) (ids' : Ids) (lv : Rows) (tops : List SideTops) (s : ℕ) : Type 0 where
  pub view : book_of c n tops p'.queues lv.rows ≡ book_without s (book_of c n tops p.queues lv.rows)
  pub linked : IsLinked c n p' ids' lv tops

module _ (c n : ℕ) (p p' : pool.Queues) (ids ids' : Ids) (lv : Rows) (tops : List SideTops) (k : IsLinked c n p ids lv tops) (rules : AreRows lv) (differ : SlotsDiffer p) (s : ℕ) (o : Order) where
  abbrev book : Book
  book = book_of c n tops p.queues lv.rows

  module _ (has : orders.HasSlot s book.waiting) (is_order : o ≡ orders.order_of s (live_orders book))
      (left : p' ≡ record p { queues = pool.removed s p.queues }) (live : pool.live_of p' + 1 ≡ pool.live_of p) (names : IsTaken o.firm o.id ids ids') where
    w : IsInLine c n p ids lv tops k s
    w = in-line c n p ids lv tops k s has

    each : (r : ℕ) → held p' r ≡ without_slot s (held p r)
    each r = ap (λ (x : pool.Queues). pool.entries_at x.queues r) left ∙ at-removed s p.queues r

    below : (r : ℕ) → r < c → held p' r ≡ held p r
    below r lt = each r ∙ without_slot-none s (held p r) (λ h. let e : r ≡ c + w.instrument = differ.across s r (c + w.instrument) (has-below s r p.queues h, h) w.at in absurd (omega arith))

    waiting-is : waiting_of (held p') c n ≡ without s book.waiting
    waiting-is =
        flat-same (λ q. map unmarked (held p' q)) (λ q. without s (map unmarked (held p q))) (range_with_len c n) (λ q. ap (λ (l : List Held). map unmarked l) (each q) ∙ unmarked-without s (held p q))
        ∙ sym (flat-filter (λ (e : Entry). not (e.slot == s)) (λ q. map unmarked (held p q)) (range_with_len c n))

    view : book_of c n tops p'.queues lv.rows ≡ book_without s book
    view =
        same-lists c n (resting-same c n p p' ids lv tops k rules below ∙ sym (without-none s book.resting (λ r. slots-apart s book.resting book.waiting k.right.differ r has))) waiting-is

    has-live : orders.HasSlot s (live_orders book)
    has-live = HasSlot-right s book.resting book.waiting has

    live-is : live_orders (book_of c n tops p'.queues lv.rows) ≡ without s (live_orders book)
    live-is = ap live_orders view ∙ live-without s book

    one-less : length (live_orders (book_of c n tops p'.queues lv.rows)) + 1 ≡ length (live_orders book)
    one-less = omega (arith, ap (λ (l : List Entry). length l) live-is, length-without s (live_orders book) k.right.differ has-live)

    linked : IsLinked c n p' ids' lv tops
    linked = record {
      slots = ap (λ (x : pool.Queues). x.capacity) left ∙ k.slots;
      many = ap (λ (x : pool.Queues). length x.queues) left ∙ length-map p.queues (without_slot s) ∙ k.many;
      level_room = k.level_room;
      listed = k.listed;
      id_room = names.capacity ∙ k.id_room;
      sides = k.sides;
      fits = k.fits;
      right = subst IsRight (sym view) (right-without book s k.right has-live);
      summed = summed-same c n p p' ids lv tops k rules below;
      some = k.some;
      unused = unused-same c n p p' ids lv tops k rules below;
      stops = λ i lt. subst (AllByRecursion (λ (h : Held). h.1.instrument ≡ i)) (sym (each (c + i))) (all-filter (λ (h : Held). h.1.instrument ≡ i) (λ h. not (h.0 == s)) (held p (c + i)) (k.stops i lt));
      top = top-same c n p p' ids lv tops k rules below;
      live = omega (arith, live, k.live, one-less);
      count = omega (arith, names.count, k.count, one-less);
      named = λ f i.
          names.names f i ∙ ap (λ (t : Option ℕ). cond (is_same_name o.firm o.id f i) None t) (k.named f i)
          ∙ ap (λ (x : Order). cond (is_same_name x.firm x.id f i) None (slot_named f i (live_orders book))) is_order
          ∙ sym (left-named s book k.right has-live f i)
          ∙ sym (ap (slot_named f i) live-is);
    }

    pub unlined : IsUnlined c n p p' ids' lv tops s
    unlined = record { view = view; linked = linked }
