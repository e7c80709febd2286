-- A book without orders.
use Rattle.std.proofs.Common.{◌≡◌, ℕ, ◌+◌, ◌<◌, ◌^◌, List, [], ◌∷◌, ◌++◌, length, replicate, refl, sym, ap, subst, ◌∙◌, arith}
use Prim.Native.Nat.{zero, suc}
use Rattle.std.proofs.lemmas.List.{length-replicate}
use Rattle.std.proofs.lemmas.List.Folds.{sum_by-replicate}
use Rattle.std.specs.Prelude.{Option, None, option_map, slice_index_or, map as each}
use Rattle.std.specs.List.{AllByRecursion, range_with_len}
use Rattle.std.specs.Ordering.{nat_cmp}
use Rattle.std.specs.Cmp.Lexicographic.{slice_cmp}
use Rattle.std.specs.FinMap.{get-empty, len-empty}
use Rattle.gx_base.specs.declared.order.Slot.{Slot}
use Rattle.gx_base.specs.declared.order.Side.{Side}
use Rattle.gx_base.specs.declared.order.Side.TheVariants.{Buy, Sell}
use Rattle.plain_book.specs.declared.entry.Entry.{Entry}
use Rattle.plain_book.specs.Orders.{side_of, slot_named}
use Rattle.plain_book.specs.Book.{Book, IsRight, empty_book, live_orders, slot_number}
use Rattle.order_pool.specs.Queues.{Queues, empty_queues, entries_at}
use Rattle.id_table.specs.Ids.{Ids, key, empty_ids}
use Rattle.price_level.specs.Rows.{Rows, no_rows}
use Rattle.book_side.specs.declared.tops.SideTops.{SideTops}
use Rattle.book_side.specs.Inner.Flat.{flat}
use Rattle.book_side.specs.Inner.Content.{Held, unmarked, no_tops, top_of_side, top_at, book_of, resting_of}
use Rattle.book_side.specs.Inner.Linked.{IsTopOf, IsLinked}

pub empty-at : (m q : ℕ) → entries_at (replicate m []) q ≡ []
empty-at zero q = refl
empty-at (suc m) zero = refl
empty-at (suc m) (suc q) = empty-at m q

flat-empty : {X : Type 0} (Q : ℕ → List X) (qs : List ℕ) → ((q : ℕ) → Q q ≡ []) → flat Q qs ≡ []
flat-empty Q [] h = refl
flat-empty Q (q ∷ qs) h = ap (λ l. l ++ flat Q qs) (h q) ∙ flat-empty Q qs h

none-there : (n i : ℕ) → slice_index_or (replicate n no_tops) i no_tops ≡ no_tops
none-there zero i = refl
none-there (suc n) zero = refl
none-there (suc n) (suc i) = none-there n i

no-top : (n i : ℕ) (d : Side) → top_at (replicate n no_tops) i d ≡ None
no-top n i d = ap (λ (t : SideTops). option_map slot_number (top_of_side d t)) (none-there n i) ∙ none-of d
  where
    none-of : (d : Side) → option_map slot_number (top_of_side d no_tops) ≡ None
    none-of Buy = refl
    none-of Sell = refl

module _ (c n : ℕ) where
  abbrev p : Queues
  p = empty_queues c (c + n)

  abbrev tops : List SideTops
  tops = replicate n no_tops

  view : book_of c n tops p.queues [] ≡ empty_book c n
  view = ap (λ (l : List Entry). (let x : Book = record { capacity = c; instruments = n; resting = []; waiting = l } in x))
      (flat-empty (λ q. each unmarked (entries_at p.queues q)) (range_with_len c n) (λ q. ap (λ (l : List Held). each unmarked l) (empty-at (c + n) q)))

  linked : c + n < 2 ^ 32 → IsLinked c n p (empty_ids c) (no_rows c n) tops
  linked fits = record {
    slots = refl;
    many = length-replicate (c + n) [];
    level_room = refl;
    listed = refl;
    id_room = refl;
    sides = length-replicate n no_tops;
    fits = fits;
    right = subst IsRight (sym view) (record { rest = tt; wait = tt; differ = tt; named = tt; ordered = tt; lined = tt; tops = tt; few = omega arith; small = omega arith });
    summed = tt;
    some = tt;
    unused = λ q lt h. empty-at (c + n) q;
    stops = λ i lt. subst (AllByRecursion (λ (h : Held). h.1.instrument ≡ i)) (sym (empty-at (c + n) (c + i))) tt;
    top = λ i d. subst (λ (t : Option ℕ). IsTopOf t (side_of i d (resting_of (top_at tops) (entries_at p.queues) []))) (sym (no-top n i d)) tt;
    live = omega (arith, sum_by-replicate (λ (l : List Held). length l) (c + n) [], ap (λ (b : Book). length (live_orders b)) view);
    count = len-empty (slice_cmp nat_cmp) Slot ∙ sym (ap (λ (b : Book). length (live_orders b)) view);
    named = λ f i. ap (option_map slot_number) (get-empty (slice_cmp nat_cmp) (key f i)) ∙ sym (ap (λ (b : Book). slot_named f i (live_orders b)) view);
  }

  pub record IsEmpty (q : Queues) (ids : Ids) (lv : Rows) (ts : List SideTops) : Type 0 where
    pub view : book_of c n ts q.queues lv.rows ≡ empty_book c n
    pub linked : IsLinked c n q ids lv ts

  -- m is the number of queues, i that of the instruments as the code has it
  pub made : {q : Queues} {ids : Ids} {lv : Rows} {ts : List SideTops} (m i : ℕ) → m ≡ c + i → c + i < 2 ^ 32 → i ≡ n
      → q ≡ empty_queues c m → ids ≡ empty_ids c → lv ≡ no_rows c n → ts ≡ replicate n no_tops → IsEmpty q ids lv ts
  made {q} {ids} {lv} {ts} m i em fits ei eq eids elv ets =
      let is : q ≡ p = eq ∙ ap (λ (j : ℕ). empty_queues c j) (em ∙ ap (λ (j : ℕ). c + j) ei) in
      let start : IsEmpty p (empty_ids c) (no_rows c n) tops = record { view = view; linked = linked (omega (arith, fits, ei)) } in
      subst (λ (x : Queues). IsEmpty x ids lv ts) (sym is)
      (subst (λ (x : Ids). IsEmpty p x lv ts) (sym eids)
      (subst (λ (x : Rows). IsEmpty p (empty_ids c) x ts) (sym elv)
      (subst (λ (x : List SideTops). IsEmpty p (empty_ids c) (no_rows c n) x) (sym ets) start)))
