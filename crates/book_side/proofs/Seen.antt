-- The orders of a linked book, as a caller sees them.
use Rattle.std.proofs.Common.{sum_by, ◌≡◌, ◌≢◌, ℕ, ◌+◌, ◌<◌, ◌^◌, List, [], length, sym, ap, subst, ◌∙◌, arith}
use Rattle.std.proofs.lemmas.List.{length-map}
use Rattle.std.specs.FinMap as map
use Rattle.std.specs.Bool.{MatchBool}
use Rattle.std.specs.Prelude.{Option, None, Some, nat_lt, false}
use Rattle.gx_base.specs.declared.order.Order.{Order}
use Rattle.gx_base.specs.declared.order.Side.{Side}
use Rattle.gx_base.specs.declared.price.Price.{Price}
use Rattle.plain_book.specs.Orders as orders
use Rattle.plain_book.specs.Orders.{Level, level_of, is_live, best_of, worse_of, worst_of, better_of, open_at, top_of, shown_at, slot_of, slot_after, orders_at, stops_of, open_within}
use Rattle.plain_book.specs.Book.{Book, live_orders}
use Rattle.plain_book.proofs.Levels.{HasSlot-left, HasSlot-right, order_of-left}
use Rattle.plain_book.proofs.Right.{length-front}
use Rattle.order_pool.specs.Queues as pool
use Rattle.order_pool.specs.Queues.{IsIn, IsLive, SlotsDiffer, first_slot, next_slot}
use Rattle.order_pool.proofs.PoolFacts.{IsIn-appended}
use Rattle.id_table.specs.Ids.{Ids, key}
use Rattle.price_level.specs.declared.row.LevelRow.{LevelRow}
use Rattle.price_level.specs.Rows.{Rows, AreRows, HasQueue, row_of, best_row, worse_row, worst_row, better_row, queue_at, open_rows}
use Rattle.book_side.specs.declared.tops.SideTops.{SideTops}
use Rattle.book_side.specs.Inner.Content.{Held, book_of, top_at}
use Rattle.book_side.specs.Inner.Linked.{IsLinked}
use Rattle.book_side.proofs.Ids.{none-looked}
use Rattle.book_side.proofs.Flat as rows
use Rattle.book_side.proofs.Looks.{best-looked, worse-looked, worst-looked, better-looked, leaves-looked, found-row, found-looked, none-looked as none-looked-at, count-looked, shown-looked, first-looked}
use Rattle.book_side.proofs.Topping.{top-looked}
use Rattle.book_side.proofs.Names.{unnamed-looked}
use Rattle.book_side.proofs.Open.{open-looked, rows-small}
use Rattle.book_side.proofs.Resting.{IsHeld, is-listed, is-row, is-order, is-held}
use Rattle.book_side.proofs.Places as places

-- the slot of an order that went to the end of its queue
pub back-at : (p : pool.Queues) (s q : ℕ) → IsIn p s q → (p' : pool.Queues)
    → ((q : ℕ) → IsIn p s q → p' ≡ record p { queues = pool.appended q (s, pool.order_of s (pool.entries_at p.queues q)) (pool.removed s p.queues) }) → IsIn p' s q
back-at p s q at p' back =
    let gone : pool.Queues = record p { queues = pool.removed s p.queues } in
    let low : q < length gone.queues = omega (arith, length-map p.queues (pool.without_slot s), at.0) in
    subst (λ (y : pool.Queues). IsIn y s q) (sym (back q at)) (IsIn-appended gone q s (pool.order_of s (pool.entries_at p.queues q)) low)

module _ {c n : ℕ} {p : pool.Queues} {ids : Ids} {lv : Rows} {tops : List SideTops} (k : IsLinked c n p ids lv tops) {b : Book} (seen : book_of c n tops p.queues lv.rows ≡ b) where
  abbrev book : Book
  book = book_of c n tops p.queues lv.rows

  abbrev P : ℕ → List Held
  P = pool.entries_at p.queues

  -- ---- where an order is

  in-book : (s : ℕ) → orders.HasSlot s (live_orders b) → orders.HasSlot s (live_orders book)
  in-book s h = subst (λ (y : Book). orders.HasSlot s (live_orders y)) (sym seen) h

  in-resting : (s : ℕ) → orders.HasSlot s b.resting → orders.HasSlot s book.resting
  in-resting s h = subst (λ (y : Book). orders.HasSlot s y.resting) (sym seen) h

  in-waiting : (s : ℕ) → orders.HasSlot s b.waiting → orders.HasSlot s book.waiting
  in-waiting s h = subst (λ (y : Book). orders.HasSlot s y.waiting) (sym seen) h

  pub live : (s : ℕ) → orders.HasSlot s (live_orders b) → IsLive p s
  live s h = places.is-live c n p ids lv tops k s (in-book s h)

  pub rests-live : (s : ℕ) → orders.HasSlot s b.resting → IsLive p s
  rests-live s h = live s (HasSlot-left s b.resting b.waiting h)

  pub waits-live : (s : ℕ) → orders.HasSlot s b.waiting → IsLive p s
  waits-live s h = live s (HasSlot-right s b.resting b.waiting h)

  pub rests-or-waits : (s : ℕ) → SlotsDiffer p → AreRows lv → orders.HasSlot s (live_orders b) → (q : ℕ) → IsIn p s q → MatchBool (nat_lt q c) (orders.HasSlot s b.resting) (orders.HasSlot s b.waiting)
  rests-or-waits s differ rules h q at =
      subst (λ (y : Book). MatchBool (nat_lt q c) (orders.HasSlot s y.resting) (orders.HasSlot s y.waiting)) seen (places.rests-below c n p ids lv tops k s differ rules (in-book s h) q at)

  -- ---- what the pool answers

  -- what the pool says of a slot, whichever queue it is in
  abbrev pub IsHeldAs : ℕ → Order → Type 0
  IsHeldAs s o = (q : ℕ) → IsIn p s q → o ≡ pool.order_of s (P q)

  pub order-is : (s : ℕ) (o : Order) → orders.HasSlot s (live_orders b) → IsHeldAs s o → o ≡ orders.order_of s (live_orders b)
  order-is s o h held =
      let at = places.place c n p ids lv tops k s (in-book s h) in
      held at.queue at.at ∙ sym at.order ∙ ap (λ (y : Book). orders.order_of s (live_orders y)) seen

  pub resting-is : (s : ℕ) (o : Order) → orders.HasSlot s b.resting → IsHeldAs s o → o ≡ orders.order_of s b.resting
  resting-is s o h held = order-is s o (HasSlot-left s b.resting b.waiting h) held ∙ order_of-left s b.resting b.waiting h

  -- its id is in the table
  pub id-there : (s : ℕ) (o : Order) → orders.HasSlot s (live_orders b) → IsHeldAs s o → map.get ids.slots (key o.firm o.id) ≢ None
  id-there s o h held =
      places.is-named c n p ids lv tops k s (in-book s h) o (order-is s o h held ∙ ap (λ (y : Book). orders.order_of s (live_orders y)) (sym seen))

  pub id-absent : (firm : ℕ) (id : List ℕ) → is_live firm id (live_orders b) ≡ false → map.get ids.slots (key firm id) ≡ None
  id-absent firm id u =
      none-looked (map.get ids.slots (key firm id)) (k.named firm id ∙ unnamed-looked firm id (live_orders book) (subst (λ (y : Book). is_live firm id (live_orders y) ≡ false) (sym seen) u))

  pub next-is : (s : ℕ) (o : Option ℕ) → orders.HasSlot s b.resting → AreRows lv → ((q : ℕ) → IsIn p s q → o ≡ next_slot s (P q)) → o ≡ slot_after s (orders_at (level_of (orders.order_of s b.resting)) b.resting)
  next-is s o h rules found =
      places.next-rests c n p ids lv tops k s (in-resting s h) rules o found ∙ ap (λ (y : Book). slot_after s (orders_at (level_of (orders.order_of s y.resting)) y.resting)) seen

  pub next-stop-is : (s : ℕ) (o : Option ℕ) → orders.HasSlot s b.waiting → ((q : ℕ) → IsIn p s q → o ≡ next_slot s (P q)) → o ≡ slot_after s (stops_of (orders.order_of s b.waiting).instrument b.waiting)
  next-stop-is s o h found =
      places.next-waits c n p ids lv tops k s (in-waiting s h) o found ∙ ap (λ (y : Book). slot_after s (stops_of (orders.order_of s y.waiting).instrument y.waiting)) seen

  pub first-stop-is : (i j : ℕ) (o : Option ℕ) → i < b.instruments → j ≡ i → o ≡ first_slot (P (c + j)) → o ≡ slot_of (stops_of i b.waiting)
  first-stop-is i j o listed same found =
      found ∙ ap (λ (m : ℕ). first_slot (P (c + m))) same
      ∙ places.first-stop c n p ids lv tops k i (subst (λ (y : Book). i < y.instruments) (sym seen) listed) ∙ ap (λ (y : Book). slot_of (stops_of i y.waiting)) seen

  -- ---- what the levels answer

  pub best-is : (i : ℕ) (d : Side) → best_row i d lv.rows ≡ best_of i d b.resting
  best-is i d = sym (best-looked (top_at tops) P lv.rows k.summed k.some i d) ∙ ap (λ (y : Book). best_of i d y.resting) seen

  pub worse-is : (i : ℕ) (d : Side) (x : Price) → worse_row i d x lv.rows ≡ worse_of i d x.0 b.resting
  worse-is i d x = sym (worse-looked (top_at tops) P lv.rows k.summed k.some i d x) ∙ ap (λ (y : Book). worse_of i d x.0 y.resting) seen

  pub worst-is : (i : ℕ) (d : Side) → worst_row i d lv.rows ≡ worst_of i d b.resting
  worst-is i d = sym (worst-looked (top_at tops) P lv.rows k.summed k.some i d) ∙ ap (λ (y : Book). worst_of i d y.resting) seen

  pub better-is : (i : ℕ) (d : Side) (x : Price) → better_row i d x lv.rows ≡ better_of i d x.0 b.resting
  better-is i d x = sym (better-looked (top_at tops) P lv.rows k.summed k.some i d x) ∙ ap (λ (y : Book). better_of i d x.0 y.resting) seen

  pub top-is : (i : ℕ) (d : Side) → top_at tops i d ≡ top_of i d b.resting
  top-is i d = sym (top-looked (top_at tops) P lv.rows i d (k.top i d)) ∙ ap (λ (y : Book). top_of i d y.resting) seen

  -- no order stands at a level that is not there
  pub none-at : AreRows lv → (l : Level) → None ≡ queue_at l lv.rows → [] ≡ orders_at l b.resting
  none-at rules l found = sym (none-looked-at (top_at tops) P lv.rows k.summed k.some rules.apart l (sym found)) ∙ ap (λ (y : Book). orders_at l y.resting) seen

  -- the orders of a level are those of its queue
  pub record IsFound (q : ℕ) (l : Level) : Type 0 where
    pub is_row : HasQueue q lv.rows
    pub is_queue : q < length p.queues
    pub first : first_slot (P q) ≡ slot_of (orders_at l b.resting)
    pub count : (row_of q lv.rows).count ≡ length (orders_at l b.resting)
    pub shown : (row_of q lv.rows).shown ≡ shown_at l b.resting
    pub leaves : (row_of q lv.rows).leaves ≡ open_at l b.resting

  pub found-at : AreRows lv → (l : Level) (q : ℕ) → Some q ≡ queue_at l lv.rows → IsFound q l
  found-at rules l q h =
      let T = top_at tops in
      let found : queue_at l lv.rows ≡ Some q = sym h in
      let has = found-row l q lv.rows found in
      let under : (row_of q lv.rows).queue < lv.capacity = (rows.at-row (λ (r : LevelRow). (r.queue < lv.capacity) × (r.instrument < lv.instruments)) q lv.rows has rules.below).0 in
      record {
        is_row = has;
        is_queue = omega (arith, under, rows.row_of-queue q lv.rows has, k.level_room, k.many);
        first = first-looked T (P q) ∙ sym (ap slot_of (found-looked T P lv.rows k.summed k.some rules.apart l q found)) ∙ ap (λ (y : Book). slot_of (orders_at l y.resting)) seen;
        count = count-looked T P lv.rows k.summed k.some rules.apart l q found ∙ ap (λ (y : Book). length (orders_at l y.resting)) seen;
        leaves = leaves-looked T P lv.rows k.summed k.some rules.apart l q found ∙ ap (λ (y : Book). open_at l y.resting) seen;
        shown = shown-looked T P lv.rows k.summed k.some rules.apart l q found ∙ ap (λ (y : Book). shown_at l y.resting) seen;
      }

  -- ---- what is open

  pub open-is : (i : ℕ) (d : Side) (x : Price) → open_rows i d x lv.rows ≡ open_within i d x.0 b.resting
  open-is i d x = sym (open-looked (top_at tops) P i d x lv.rows k.summed) ∙ ap (λ (y : Book). open_within i d x.0 y.resting) seen

  pub open-fits : sum_by (λ (r : LevelRow). r.leaves) lv.rows < 2 ^ 63
  open-fits = rows-small (top_at tops) P n lv.rows k.summed k.right.rest (omega (arith, length-front book.resting book.waiting, k.right.few, k.right.small))

  -- ---- an order and its level

  pub record IsAtRow (s q : ℕ) (o : Order) : Type 0 where
    pub is_row : HasQueue q lv.rows
    pub held : (r : LevelRow) → r ≡ row_of q lv.rows → IsHeld r o
    pub listed : o.instrument < length tops

  pub at-row : (s : ℕ) {q : ℕ} {o : Order} → orders.HasSlot s b.resting → SlotsDiffer p → IsIn p s q → IsHeldAs s o → IsAtRow s q o
  at-row s {q} {o} h differ at held =
      let has = in-resting s h in
      let is : o ≡ orders.order_of s book.resting = held q at ∙ sym (is-order c n p ids lv tops k s has differ q at) in
      record {
        is_row = is-row c n p ids lv tops k s has differ q at;
        held = λ r e.
            subst (λ (x : LevelRow). IsHeld x o) (sym e) (subst (λ (y : Order). IsHeld (row_of q lv.rows) y) (sym (held q at)) (is-held c n p ids lv tops k s has differ q at));
        listed = omega (arith, is-listed c n p ids lv tops k s has, ap (λ (y : Order). y.instrument) is);
      }
