-- What each change makes of a linked book, as a caller sees it.
use Rattle.std.proofs.Common.{◌≡◌, ℕ, ◌+◌, ◌<◌, ◌≤◌, ◌^◌, Bool, false, List, length, map, sym, ap, subst, ◌∙◌, arith}
use Rattle.std.specs.FinMap as finmap
use Rattle.std.specs.Prelude.{Option, Some}
use Rattle.gx_base.specs.declared.order.Order.{Order}
use Rattle.gx_base.specs.declared.order.Side.{Side}
use Rattle.gx_base.specs.declared.order.Slot.{Slot}
use Rattle.plain_book.specs.Orders as orders
use Rattle.plain_book.specs.declared.entry.Entry.{Entry}
use Rattle.plain_book.specs.Orders.{level_of, is_live, is_best_price, is_new_best, placed, without}
use Rattle.plain_book.specs.Book.{Book, live_orders, IsResting, IsWaiting, IsFitToRest, IsFitToWait, AllRest, CanBeTop, first_shown, makes_top, book_placed, book_without, book_with_order, book_with_top, book_waited}
use Rattle.plain_book.proofs.Levels.{HasSlot-left, HasSlot-right}
use Rattle.plain_book.proofs.Right.{length-front}
use Rattle.order_pool.specs.Queues as pool
use Rattle.order_pool.specs.Queues.{IsIn, IsLive, SlotsDiffer, with_entry}
use Rattle.id_table.specs.Ids.{Ids, key, with_slots}
use Rattle.price_level.specs.declared.row.LevelRow.{LevelRow}
use Rattle.price_level.specs.Rows.{Rows, AreRows, best_row, row_of, with_sums}
use Rattle.book_side.specs.declared.tops.SideTops.{SideTops}
use Rattle.book_side.specs.Inner.Content.{book_of, resting_of, top_at}
use Rattle.book_side.specs.Inner.Linked.{IsLinked}
use Rattle.book_side.specs.Inner.Steps.{book_reordered, resting_as, rows_left, IsEntered, IsTopDropped, IsTopPlaced, IsTopSet}
use Rattle.book_side.proofs.Ids.{inserted, removed}
use Rattle.book_side.proofs.Resting.{is-order}
use Rattle.book_side.proofs.Bounds.{rows-few, row-small}
use Rattle.book_side.proofs.Looks.{best-looked}
use Rattle.book_side.proofs.Placing.{IsReady, level-ready, fresh-slot, placed-view, linked-placed}
use Rattle.book_side.proofs.Setting.{set-view, set-linked}
use Rattle.book_side.proofs.Leaving.{left-view, left-linked}
use Rattle.book_side.proofs.Backing.{back-view, back-linked}
use Rattle.plain_book.proofs.Calls.{right-back}
use Rattle.book_side.proofs.Topping.{topped-view, topped-linked}
use Rattle.book_side.proofs.Lining.{IsWaited, waited}
use Rattle.book_side.proofs.Unlining.{unlined}
use Rattle.book_side.proofs.Reordering.{stop-set}
use Rattle.book_side.proofs.Naming as naming
use Rattle.book_side.proofs.Seen.{IsHeldAs, order-is, id-there, id-absent}

-- these parts make that book
pub record AreParts (c n : ℕ) (p : pool.Queues) (ids : Ids) (lv : Rows) (tops : List SideTops) (b : Book) : Type 0 where
  pub view : book_of c n tops p.queues lv.rows ≡ b
  pub linked : IsLinked c n p ids lv tops

module _ {c n : ℕ} {p : pool.Queues} {ids : Ids} {lv : Rows} {tops : List SideTops} (k : IsLinked c n p ids lv tops) {b : Book} (seen : book_of c n tops p.queues lv.rows ≡ b) where
  abbrev book : Book
  book = book_of c n tops p.queues lv.rows

  in-resting : (s : ℕ) → orders.HasSlot s b.resting → orders.HasSlot s book.resting
  in-resting s h = subst (λ (y : Book). orders.HasSlot s y.resting) (sym seen) h

  -- ---- an order leaves

  module _ {p' : pool.Queues} {ids' : Ids} {lv' : Rows} {tops' : List SideTops} (s q : ℕ) (o : Order) (has : orders.HasSlot s b.resting) (differ : SlotsDiffer p) (rules : AreRows lv) (at : IsIn p s q) (held : IsHeldAs k seen s o)
      (out : p' ≡ record p { queues = pool.removed s p.queues }) (live : pool.live_of p' + 1 ≡ pool.live_of p) (lower : lv' ≡ record lv { rows = rows_left q o lv.rows })
      (taken : ids' ≡ with_slots (finmap.remove ids.slots (key o.firm o.id)) ids) (long : length tops' ≡ length tops) (drop : IsTopDropped s o tops tops') where
    pub left : AreParts c n p' ids' lv' tops' (book_without s b)
    left =
        let rests = in-resting s has in
        let is : o ≡ orders.order_of s book.resting = held q at ∙ sym (is-order c n p ids lv tops k s rests differ q at) in
        let names = removed ids ids' o.firm o.id (id-there k seen s o (HasSlot-left s b.resting b.waiting has) held) taken in
        record {
          view = left-view c n p p' ids ids' lv lv' tops tops' k s q o rests is differ at rules out live lower names.capacity names.count names.names long drop ∙ ap (book_without s) seen;
          linked = left-linked c n p p' ids ids' lv lv' tops tops' k s q o rests is differ at rules out live lower names.capacity names.count names.names long drop;
        }

  pub stop-left : {p' : pool.Queues} {ids' : Ids} (s : ℕ) (o : Order) → orders.HasSlot s b.waiting → SlotsDiffer p → AreRows lv → IsHeldAs k seen s o
      → p' ≡ record p { queues = pool.removed s p.queues } → pool.live_of p' + 1 ≡ pool.live_of p → ids' ≡ with_slots (finmap.remove ids.slots (key o.firm o.id)) ids
      → AreParts c n p' ids' lv tops (book_without s b)
  stop-left {p'} {ids'} s o has differ rules held out live taken =
      let h = HasSlot-right s b.resting b.waiting has in
      let names = removed ids ids' o.firm o.id (id-there k seen s o h held) taken in
      let new = unlined c n p p' ids ids' lv tops k rules differ s o (subst (λ (y : Book). orders.HasSlot s y.waiting) (sym seen) has) (order-is k seen s o h held ∙ ap (λ (y : Book). orders.order_of s (live_orders y)) (sym seen)) out live names in
      record { view = new.view ∙ ap (book_without s) seen; linked = new.linked }

  -- ---- an order changes

  -- what stays of it
  pub record IsKept (s : ℕ) (o : Order) : Type 0 where
    pub level : level_of o ≡ level_of (orders.order_of s b.resting)
    pub firm : o.firm ≡ (orders.order_of s b.resting).firm
    pub id : o.id ≡ (orders.order_of s b.resting).id
    pub fit : IsResting b.instruments o

  -- the sums of its level
  pub record IsExchanged (q : ℕ) (old o : Order) (r : LevelRow) (shown leaves : ℕ) (lv' : Rows) : Type 0 where
    pub row : r ≡ row_of q lv.rows
    pub shown_is : shown + old.shown ≡ r.shown + o.shown
    pub leaves_is : leaves + old.leaves ≡ r.leaves + o.leaves
    pub rows : lv' ≡ record lv { rows = with_sums q r.count shown leaves lv.rows }

  module _ (s q : ℕ) (old o : Order) (has : orders.HasSlot s b.resting) (differ : SlotsDiffer p) (rules : AreRows lv) (at : IsIn p s q) (held : IsHeldAs k seen s old) (kept : IsKept s o) where
    rests : orders.HasSlot s book.resting
    rests = in-resting s has

    level : level_of o ≡ level_of (orders.order_of s book.resting)
    level = subst (λ (y : Book). level_of o ≡ level_of (orders.order_of s y.resting)) (sym seen) kept.level

    firm : o.firm ≡ (orders.order_of s book.resting).firm
    firm = subst (λ (y : Book). o.firm ≡ (orders.order_of s y.resting).firm) (sym seen) kept.firm

    id : o.id ≡ (orders.order_of s book.resting).id
    id = subst (λ (y : Book). o.id ≡ (orders.order_of s y.resting).id) (sym seen) kept.id

    fit : IsResting n o
    fit = subst (λ (y : Book). IsResting y.instruments o) (sym seen) kept.fit

    pub changed : {p' : pool.Queues} {lv' : Rows} (r : LevelRow) (shown leaves : ℕ) → p' ≡ record p { queues = map (with_entry s o) p.queues } → IsExchanged q old o r shown leaves lv' → AreParts c n p' ids lv' tops (book_with_order s o b)
    changed {p'} {lv'} r shown leaves set x =
        let count : r.count ≡ (row_of q lv.rows).count = ap (λ (y : LevelRow). y.count) x.row in
        let shown_is = ap (λ (y : Order). shown + y.shown) (sym (held q at)) ∙ x.shown_is ∙ ap (λ (y : LevelRow). y.shown + o.shown) x.row in
        let leaves_is = ap (λ (y : Order). leaves + y.leaves) (sym (held q at)) ∙ x.leaves_is ∙ ap (λ (y : LevelRow). y.leaves + o.leaves) x.row in
        record {
          view = set-view c n p p' ids lv lv' tops k s q o rests differ at rules set level firm id fit r.count shown leaves x.rows count shown_is leaves_is ∙ ap (book_with_order s o) seen;
          linked = set-linked c n p p' ids lv lv' tops k s q o rests differ at rules set level firm id fit r.count shown leaves x.rows count shown_is leaves_is;
        }

    module _ {p1 p' : pool.Queues} {lv' : Rows} {tops' : List SideTops} (r : LevelRow) (shown leaves : ℕ)
        (back : (q : ℕ) → IsIn p s q → p1 ≡ record p { queues = pool.appended q (s, pool.order_of s (pool.entries_at p.queues q)) (pool.removed s p.queues) }) (back_live : pool.live_of p1 ≡ pool.live_of p)
        (set : p' ≡ record p1 { queues = map (with_entry s o) p1.queues }) (set_live : pool.live_of p' ≡ pool.live_of p1) (x : IsExchanged q old o r shown leaves lv')
        (long : length tops' ≡ length tops) (drop : IsTopDropped s old tops tops') where
      pub went-back : AreParts c n p' ids lv' tops' (resting_as b (placed (record { slot = s; order = o; is_top = false }) (without s b.resting)))
      went-back =
          let is : old ≡ orders.order_of s book.resting = held q at ∙ sym (is-order c n p ids lv tops k s rests differ q at) in
          let right = right-back book k.right s o rests level firm id fit in
          let count : r.count ≡ (row_of q lv.rows).count = ap (λ (y : LevelRow). y.count) x.row in
          let shown_is = x.shown_is ∙ ap (λ (y : LevelRow). y.shown + o.shown) x.row in
          let leaves_is = x.leaves_is ∙ ap (λ (y : LevelRow). y.leaves + o.leaves) x.row in
          let same_level = level ∙ ap level_of (sym is) in
          let same_firm = firm ∙ ap (λ (y : Order). y.firm) (sym is) in
          let same_id = id ∙ ap (λ (y : Order). y.id) (sym is) in
          record {
            view = back-view c n p p1 p' ids lv lv' tops tops' k s q old o rests is differ at rules (back q at) back_live set set_live same_level same_firm same_id r.count shown leaves x.rows count shown_is leaves_is long drop right
                ∙ ap (λ (y : Book). resting_as y (placed (record { slot = s; order = o; is_top = false }) (without s y.resting))) seen;
            linked = back-linked c n p p1 p' ids lv lv' tops tops' k s q old o rests is differ at rules (back q at) back_live set set_live same_level same_firm same_id r.count shown leaves x.rows count shown_is leaves_is long drop right;
          }

  pub stop-changed : {p' : pool.Queues} (s : ℕ) (o : Order) → orders.HasSlot s b.waiting → level_of o ≡ level_of (orders.order_of s (live_orders b)) → o.firm ≡ (orders.order_of s (live_orders b)).firm
      → o.id ≡ (orders.order_of s (live_orders b)).id → IsWaiting b.instruments o → p' ≡ record p { queues = map (with_entry s o) p.queues } → pool.live_of p' ≡ pool.live_of p → AreParts c n p' ids lv tops (book_reordered s o b)
  stop-changed {p'} s o has level firm id fit set live =
      let new = stop-set c n p p' ids lv tops k s o (subst (λ (y : Book). orders.HasSlot s y.waiting) (sym seen) has) set live
      (subst (λ (y : Book). level_of o ≡ level_of (orders.order_of s (live_orders y))) (sym seen) level) (subst (λ (y : Book). o.firm ≡ (orders.order_of s (live_orders y)).firm) (sym seen) firm)
      (subst (λ (y : Book). o.id ≡ (orders.order_of s (live_orders y)).id) (sym seen) id) (subst (λ (y : Book). IsWaiting y.instruments o) (sym seen) fit) in
      record { view = new.view ∙ ap (book_reordered s o) seen; linked = new.linked }

  pub named : {p' : pool.Queues} {ids' : Ids} (slot : Slot) (id : List ℕ) (old : Order) → orders.HasSlot slot.0 (live_orders b) → is_live (orders.order_of slot.0 (live_orders b)).firm id (live_orders b) ≡ false
      → IsHeldAs k seen slot.0 old → p' ≡ record p { queues = map (with_entry slot.0 (record old { id = id })) p.queues } → pool.live_of p' ≡ pool.live_of p
      → ((t : Slot) → finmap.get ids.slots (key old.firm old.id) ≡ Some t → ids' ≡ with_slots (finmap.insert (finmap.remove ids.slots (key old.firm old.id)) (key old.firm id) t) ids)
      → AreParts c n p' ids' lv tops (book_reordered slot.0 (record (orders.order_of slot.0 (live_orders b)) { id = id }) b)
  named {p'} {ids'} slot id old has u held set live rename =
      let back = sym seen in
      let new = naming.named c n p ids lv tops k slot id (subst (λ (y : Book). orders.HasSlot slot.0 (live_orders y)) back has)
      (subst (λ (y : Book). is_live (orders.order_of slot.0 (live_orders y)).firm id (live_orders y) ≡ false) back u) p' ids' old
      (order-is k seen slot.0 old has held ∙ ap (λ (y : Book). orders.order_of slot.0 (live_orders y)) back)
      set live rename in
      record { view = new.view ∙ ap (λ (y : Book). book_reordered slot.0 (record (orders.order_of slot.0 (live_orders y)) { id = id }) y) seen; linked = new.linked }

  -- ---- TOP

  pub topped : {tops' : List SideTops} (i : ℕ) (d : Side) (t : Option ℕ) → CanBeTop i d t b.resting → length tops' ≡ length tops → IsTopSet tops tops' i d t → AreParts c n p ids lv tops' (book_with_top i d t b)
  topped {tops'} i d t can long set =
      let can_be = subst (λ (y : Book). CanBeTop i d t y.resting) (sym seen) can in
      record { view = topped-view c n p ids lv tops tops' k i d t long set can_be ∙ ap (book_with_top i d t) seen; linked = topped-linked c n p ids lv tops tops' k i d t long set can_be }

  -- ---- a stop comes

  pub record IsWaitingNow (p' : pool.Queues) (ids' : Ids) (s : ℕ) (o : Order) : Type 0 where
    pub fresh : orders.HasSlot s (live_orders b) → ⊥
    pub now : AreParts c n p' ids' lv tops (book_waited s o b)

  pub stop-came : {p' : pool.Queues} {ids' : Ids} (slot : Slot) (i : ℕ) (o : Order) → AreRows lv → IsFitToWait b.instruments o → is_live o.firm o.id (live_orders b) ≡ false → length (live_orders b) < b.capacity
      → i ≡ o.instrument → p' ≡ record p { queues = pool.appended (c + i) (slot.0, record o { shown = 0 }) p.queues } → (IsLive p slot.0 → ⊥) → pool.live_of p' ≡ pool.live_of p + 1
      → ids' ≡ with_slots (finmap.insert ids.slots (key o.firm o.id) slot) ids → IsWaitingNow p' ids' slot.0 o
  stop-came {p'} {ids'} slot i o rules fit u room ei pushed dead live given =
      let back = sym seen in
      let s = slot.0 in
      let at = pushed ∙ ap (λ (j : ℕ). (let z : pool.Queues = record p { queues = pool.appended (c + j) (s, record o { shown = 0 }) p.queues } in z)) ei in
      let new : IsWaited c n p p' ids' lv tops s o = waited c n p p' ids ids' lv tops k rules s o (subst (λ (y : Book). IsFitToWait y.instruments o) back fit)
      (subst (λ (y : Book). is_live o.firm o.id (live_orders y) ≡ false) back u) (subst (λ (y : Book). length (live_orders y) < y.capacity) back room) at dead live
      (inserted ids ids' o.firm o.id slot (id-absent k seen o.firm o.id u) given) in
      record { fresh = λ h. new.fresh (subst (λ (y : Book). orders.HasSlot s (live_orders y)) back h); now = record { view = new.view ∙ ap (book_waited s o) seen; linked = new.linked } }

  -- ---- an order comes to rest

  few : length (live_orders b) < b.capacity → length (live_orders book) < c
  few room = subst (λ (y : Book). length (live_orders y) < y.capacity) (sym seen) room

  -- there are no more levels than orders
  pub rows-room : length (live_orders b) < b.capacity → length lv.rows < lv.capacity
  rows-room room = omega (arith, rows-few (top_at tops) (pool.entries_at p.queues) lv.rows k.summed k.some, length-front book.resting book.waiting, few room, k.level_room)

  module _ (q : ℕ) (o : Order) (lv1 : Rows) (en : IsEntered (level_of o) q lv lv1) (rules : AreRows lv1) (room : length (live_orders b) < b.capacity) (fits : IsFitToRest b.instruments o) where
    ready : IsReady c (pool.entries_at p.queues) q lv.rows lv1.rows
    ready = level-ready c (pool.entries_at p.queues) q (level_of o) lv lv1 k.level_room k.summed k.some k.unused rules en

    pub queue-below : q < c
    queue-below = ready.below

    pub queue-there : q < length p.queues
    queue-there = omega (arith, ready.below, k.many)

    -- one order more, and its lots, fit into the sums
    pub sums-fit : (r : LevelRow) → r ≡ row_of q lv1.rows → (m : ℕ) → m ≤ o.leaves → (r.count + 1 < 2 ^ 32) × (r.shown + m < 2 ^ 64) × (r.leaves + m < 2 ^ 64)
    sums-fit r e m le =
        let T = top_at tops in
        let P = pool.entries_at p.queues in
        let small = row-small T P n q lv1.rows ready.summed en.has (subst (AllRest n) (ready.same T) k.right.rest) in
        let same : length (resting_of T P lv1.rows) ≡ length book.resting = ap (λ (l : List Entry). length l) (sym (ready.same T)) in
        let few = length-front book.resting book.waiting in (
          omega (arith, small.0, same, ap (λ (y : LevelRow). y.count) e, few, k.right.few, k.right.small, few-room),
          omega (arith, small.0, small.1, same, ap (λ (y : LevelRow). y.shown) e, few, k.right.few, k.right.small, le, fits.whole, fits.small),
          omega (arith, small.0, small.2, same, ap (λ (y : LevelRow). y.leaves) e, few, k.right.few, k.right.small, le, fits.whole, fits.small),
        )
      where
        few-room : length (live_orders book) < c
        few-room = few room

    module _ (p' : pool.Queues) (ids' : Ids) (lv' : Rows) (tops' : List SideTops) (slot : Slot) (least : Option ℕ) (m shown leaves : ℕ) (r : LevelRow) (best enough : Bool) where
      -- what the parts of the call answer
      pub record IsPut : Type 0 where
        pub first : m ≡ first_shown o
        pub queues : p' ≡ record p { queues = pool.appended q (slot.0, record o { shown = m }) p.queues }
        pub fresh : IsLive p slot.0 → ⊥
        pub live : pool.live_of p' ≡ pool.live_of p + 1
        pub row : r ≡ row_of q lv1.rows
        pub shown_is : shown ≡ m
        pub leaves_is : leaves ≡ o.leaves
        pub rows : lv' ≡ record lv1 { rows = with_sums q (r.count + 1) (r.shown + shown) (r.leaves + leaves) lv1.rows }
        pub given : ids' ≡ with_slots (finmap.insert ids.slots (key o.firm o.id) slot) ids
        pub best_is : best ≡ is_best_price o.side o.price.0 (best_row o.instrument o.side lv.rows)
        pub enough_is : enough ≡ makes_top least o.leaves
        pub long : length tops' ≡ length tops
        pub top : IsTopPlaced best enough slot.0 o tops tops'

      pub record IsRestingNow : Type 0 where
        pub fresh : orders.HasSlot slot.0 (live_orders b) → ⊥
        pub now : AreParts c n p' ids' lv' tops' (book_placed slot.0 o least b)

      pub came : IsPut → is_live o.firm o.id (live_orders b) ≡ false → IsRestingNow
      came x u =
          let s = slot.0 in
          let T = top_at tops in
          let P = pool.entries_at p.queues in
          let best_is : best ≡ is_new_best o book.resting = x.best_is ∙ sym (ap (is_best_price o.side o.price.0) (best-looked T P lv.rows k.summed k.some o.instrument o.side)) in
          let pushed : p' ≡ record p { queues = pool.appended q (s, record o { shown = first_shown o }) p.queues } =
          x.queues ∙ ap (λ (i : ℕ). (let z : pool.Queues = record p { queues = pool.appended q (s, record o { shown = i }) p.queues } in z)) x.first in
          let top : IsTopPlaced (is_new_best o book.resting) (makes_top least o.leaves) s o tops tops' =
          subst (λ (y : Bool). IsTopPlaced y (makes_top least o.leaves) s o tops tops') best_is (subst (λ (y : Bool). IsTopPlaced best y s o tops tops') x.enough_is x.top) in
          let names = inserted ids ids' o.firm o.id slot (id-absent k seen o.firm o.id u) x.given in
          let unnamed = subst (λ (y : Book). is_live o.firm o.id (live_orders y) ≡ false) (sym seen) u in
          let fit = subst (λ (y : Book). IsFitToRest y.instruments o) (sym seen) fits in
          let count = ap (λ (y : LevelRow). y.count + 1) x.row in
          let shown_is = ap (λ (y : LevelRow). y.shown + shown) x.row ∙ ap (λ (i : ℕ). (row_of q lv1.rows).shown + i) (x.shown_is ∙ x.first) in
          let leaves_is = ap (λ (y : LevelRow). y.leaves + leaves) x.row ∙ ap (λ (i : ℕ). (row_of q lv1.rows).leaves + i) x.leaves_is in
          record {
            fresh = λ h. fresh-slot c n p p' ids ids' lv lv1 lv' tops tops' k s q o least en rules pushed x.fresh x.live (r.count + 1) (r.shown + shown) (r.leaves + leaves) x.rows count shown_is leaves_is
                names.capacity names.count names.names x.long top fit unnamed (few room) (subst (λ (y : Book). orders.HasSlot s (live_orders y)) (sym seen) h);
            now = record {
              view = placed-view c n p p' ids ids' lv lv1 lv' tops tops' k s q o least en rules pushed x.fresh x.live (r.count + 1) (r.shown + shown) (r.leaves + leaves) x.rows count shown_is leaves_is
                  names.capacity names.count names.names x.long top fit unnamed (few room) ∙ ap (book_placed s o least) seen;
              linked = linked-placed c n p p' ids ids' lv lv1 lv' tops tops' k s q o least en rules pushed x.fresh x.live (r.count + 1) (r.shown + shown) (r.leaves + leaves) x.rows count shown_is leaves_is
                  names.capacity names.count names.names x.long top fit unnamed (few room);
            };
          }
