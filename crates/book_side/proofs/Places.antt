-- Where a live order is, and what follows it there.
use Rattle.std.proofs.Common.{◌≡◌, ◌≢◌, ℕ, ◌+◌, ◌-◌, ◌<◌, ◌≤◌, Bool, true, false, cond, List, [], ◌∷◌, filter, refl, sym, ap, subst, ◌∙◌, arith, inl, inr}
use Rattle.std.proofs.lemmas.Bool.Decides.{eqb_tells, nat_tests}
use Rattle.std.specs.Prelude.{◌==◌, nat_lt, Option, None, Some, option_map, map as each_of}
use Rattle.std.specs.Bool.{MatchBool}
use Rattle.std.specs.FinMap as map
use Rattle.std.specs.List.{AllByRecursion}
use Rattle.gx_base.specs.declared.order.Order.{Order}
use Rattle.gx_base.specs.declared.order.Side.{Side}
use Rattle.plain_book.specs.declared.entry.Entry.{Entry}
use Rattle.plain_book.specs.Orders as orders
use Rattle.plain_book.specs.Orders.{Level, level_of, is_before, orders_at, slot_of, slot_after, slot_named, stops_of}
use Rattle.plain_book.specs.Book.{Book, live_orders, slot_number}
use Rattle.plain_book.proofs.Levels.{AllDiffer-front, AllDiffer-back, HasSlot-either, order_of-left, order_of-right, slots-apart, is_level-same, is_level-refl, is_before-irrefl}
use Rattle.order_pool.specs.Queues as pool
use Rattle.order_pool.specs.Queues.{HasSlot, IsIn, IsLive, SlotsDiffer, next_slot, first_slot}
use Rattle.price_level.specs.declared.row.LevelRow.{LevelRow}
use Rattle.book_side.specs.declared.tops.SideTops.{SideTops}
use Rattle.id_table.specs.Ids.{Ids, key}
use Rattle.price_level.specs.Rows.{Rows, AreRows, Pairs, AreRowsApart, level_of_row, row_at, queue_at, queue_of_row, HasQueue, row_of}
use Rattle.book_side.specs.Inner.Content.{Held, marked, unmarked, book_of, top_at}
use Rattle.book_side.specs.Inner.Linked.{IsSummed, IsLinked}
use Rattle.book_side.proofs.Flat.{at-row, row_of-queue, row_of-here, row_of-later, flat-had}
use Rattle.book_side.proofs.Pools.{held-marked, has-below}
use Rattle.book_side.proofs.Looks.{at-looked, all-marked, first-looked, queue_or_none}
use Rattle.book_side.proofs.Slots.{rests-order, order-marked}
use Rattle.book_side.proofs.Leaving.{own-name}
use Rattle.book_side.proofs.Setting.{level-held}
use Rattle.book_side.proofs.Stops.{AreOf, range-had, range-order, stops-at}

-- the slot after one in its queue is the one after it in the book
pub after-looked : (T : ℕ → Side → Option ℕ) (s : ℕ) (hs : List Held) → next_slot s hs ≡ slot_after s (each_of (marked T) hs)
after-looked T s [] = refl
after-looked T s (h ∷ hs) =
    ap (λ (o : Option ℕ). cond (h.0 == s) o (next_slot s hs)) (first-looked T hs) ∙ ap (λ (o : Option ℕ). cond (h.0 == s) (slot_of (each_of (marked T) hs)) o) (after-looked T s hs)

-- a level before another one is another
not-before : (r x : LevelRow) → is_before (level_of_row r) (level_of_row x) ≡ true → row_at (level_of_row x) r ≡ false
not-before r x b =
    let go : (c : Bool) → row_at (level_of_row x) r ≡ c → row_at (level_of_row x) r ≡ false = elim [
      | true ↦ λ e. absurd (let z : true ≡ false = sym (subst (λ (j : Level). is_before j (level_of_row x) ≡ true) (is_level-same (level_of_row r) (level_of_row x) e) b) ∙ is_before-irrefl (level_of_row x) in cc)
      | false ↦ λ e. e
    ] in go (row_at (level_of_row x) r) refl

-- a level is found
pub row-found : (q : ℕ) (rs : List LevelRow) → Pairs AreRowsApart rs → HasQueue q rs → queue_at (level_of_row (row_of q rs)) rs ≡ Some q
row-found q [] a h = absurd h
row-found q (r ∷ rs) a h = elim (eqb_tells r.queue q) [
  | inl t ↦
      let is : row_of q (r ∷ rs) ≡ r = row_of-here q r rs t.1 in
      ap (λ (x : LevelRow). queue_at (level_of_row x) (r ∷ rs)) is
      ∙ ap (λ (c : Bool). queue_of_row (cond c (r ∷ filter (row_at (level_of_row r)) rs) (filter (row_at (level_of_row r)) rs))) (is_level-refl (level_of_row r))
      ∙ ap (λ (x : ℕ). Some x) t.1
  | inr t ↦
      let later : HasQueue q rs = elim h [ inl e ↦ absurd (t.1 e) | inr e ↦ e ] in
      let R = row_of q rs in
      let is : row_of q (r ∷ rs) ≡ R = row_of-later q r rs t.1 in
      ap (λ (x : LevelRow). queue_at (level_of_row x) (r ∷ rs)) is
      ∙ ap (λ (c : Bool). queue_of_row (cond c (r ∷ filter (row_at (level_of_row R)) rs) (filter (row_at (level_of_row R)) rs))) (not-before r R (at-row (AreRowsApart r) q rs later a.0).0)
      ∙ row-found q rs a.1 later
]

below-is : (a b : ℕ) → a < b → nat_lt a b ≡ true
below-is a b h = grind (arith, nat_tests)

above-is : (a b : ℕ) → b ≤ a → nat_lt a b ≡ false
above-is a b h = grind (arith, nat_tests)

-- the order of a slot is of the instrument of its queue
pub instrument-held : (s i : ℕ) (hs : List Held) → HasSlot s hs → AllByRecursion (λ (h : Held). h.1.instrument ≡ i) hs → (pool.order_of s hs).instrument ≡ i
instrument-held s i [] h a = absurd h
instrument-held s i (x ∷ hs) h a = elim (eqb_tells x.0 s) [
  | inl t ↦ ap (λ (b : Bool). (cond b x.1 (pool.order_of s hs)).instrument) t.0 ∙ a.0
  | inr t ↦ ap (λ (b : Bool). (cond b x.1 (pool.order_of s hs)).instrument) t.0 ∙ instrument-held s i hs (elim h [ inl e ↦ absurd (t.1 (sym e)) | inr e ↦ e ]) a.1
]

-- an order that waits has no mark
abbrev no_top : ℕ → Side → Option ℕ
no_top i d = None

module _ (c n : ℕ) (p : pool.Queues) (ids : Ids) (lv : Rows) (tops : List SideTops) (k : IsLinked c n p ids lv tops) where
  abbrev book : Book
  book = book_of c n tops p.queues lv.rows

  abbrev P : ℕ → List Held
  P = pool.entries_at p.queues

  abbrev E : ℕ → List Entry
  E q = each_of (marked (top_at tops)) (P q)

  abbrev W : ℕ → List Entry
  W q = each_of unmarked (P q)

  -- each queue after those of the levels has the stops of one instrument
  pub stops-of : (q : ℕ) → c ≤ q → q < c + n → AreOf W c q
  stops-of q low high =
      let is : c + (q - c) ≡ q = omega arith in
      subst (AreOf W c) is
      (all-marked no_top (λ (h : Held). h.1.instrument ≡ q - c) (λ (e : Entry). c + e.order.instrument ≡ c + (q - c)) (λ h e. ap (λ (i : ℕ). c + i) e) (P (c + (q - c))) (k.stops (q - c) (omega arith)))

  pub stops-in : (i : ℕ) → i < n → stops_of i book.waiting ≡ W (c + i)
  stops-in i lt = stops-at W c i c n stops-of (omega arith) (omega arith)

  pub first-stop : (i : ℕ) → i < n → first_slot (P (c + i)) ≡ slot_of (stops_of i book.waiting)
  first-stop i lt = first-looked no_top (P (c + i)) ∙ ap slot_of (sym (stops-in i lt))

  module _ (s : ℕ) where
    -- the queue of an order that rests
    pub record IsAtLevel : Type 0 where
      pub queue : ℕ
      pub is_row : HasQueue queue lv.rows
      pub at : IsIn p s queue
      pub order : orders.order_of s book.resting ≡ pool.order_of s (P queue)

    -- the queue of a stop that waits
    pub record IsInLine : Type 0 where
      pub instrument : ℕ
      pub listed : instrument < n
      pub at : IsIn p s (c + instrument)
      pub order : orders.order_of s book.waiting ≡ pool.order_of s (P (c + instrument))

    -- the queue of a live order
    pub record IsPlaced : Type 0 where
      pub queue : ℕ
      pub at : IsIn p s queue
      pub order : orders.order_of s (live_orders book) ≡ pool.order_of s (P queue)

    pub at-level : orders.HasSlot s book.resting → IsAtLevel
    at-level h =
        let r = flat-had s E lv.rows h in
        let held = held-marked (top_at tops) s (P r.queue) r.has in
        record {
          queue = r.queue;
          is_row = r.is_row;
          at = (has-below s r.queue p.queues held, held);
          order = rests-order p (top_at tops) lv.rows s r.queue (record { is_row = r.is_row; has = held }) (AllDiffer-front book.resting book.waiting k.right.differ);
        }

    pub in-line : orders.HasSlot s book.waiting → IsInLine
    in-line h =
        let r = range-had s W c n h in
        let held = held-marked no_top s (P r.queue) r.has in
        let low : c ≤ r.queue = r.low in
        let high : r.queue < c + n = r.high in
        let is : r.queue ≡ c + (r.queue - c) = omega arith in
        let order : orders.order_of s book.waiting ≡ pool.order_of s (P r.queue) =
        range-order s W r.queue c n low high r.has (AllDiffer-back book.resting book.waiting k.right.differ) ∙ order-marked no_top s (P r.queue) held in
        record {
          instrument = r.queue - c;
          listed = omega arith;
          at = subst (IsIn p s) is (has-below s r.queue p.queues held, held);
          order = order ∙ ap (λ (q : ℕ). pool.order_of s (P q)) is;
        }

    pub place : orders.HasSlot s (live_orders book) → IsPlaced
    place h = elim (HasSlot-either s book.resting book.waiting h) [
      | inl e ↦ let r = at-level e in record { queue = r.queue; at = r.at; order = order_of-left s book.resting book.waiting e ∙ r.order }
      | inr e ↦
          let w = in-line e in
          record { queue = c + w.instrument; at = w.at; order = order_of-right s book.resting book.waiting (λ r. slots-apart s book.resting book.waiting k.right.differ r e) ∙ w.order }
    ]

    pub is-live : orders.HasSlot s (live_orders book) → IsLive p s
    is-live h = let r = place h in (r.queue, r.at)

    -- what the pool finds after an order at its level
    pub next-rests : orders.HasSlot s book.resting → AreRows lv → (o : Option ℕ) → ((q : ℕ) → IsIn p s q → o ≡ next_slot s (P q)) → o ≡ slot_after s (orders_at (level_of (orders.order_of s book.resting)) book.resting)
    next-rests h rules o found =
        let r = at-level h in
        let R = row_of r.queue lv.rows in
        let sums : IsSummed P R = at-row (IsSummed P) r.queue lv.rows r.is_row k.summed in
        let stands : AllByRecursion (λ (h : Held). level_of h.1 ≡ level_of_row R) (P r.queue) =
        subst (λ (q : ℕ). AllByRecursion (λ (h : Held). level_of h.1 ≡ level_of_row R) (P q)) (row_of-queue r.queue lv.rows r.is_row) sums.at in
        let level : level_of (orders.order_of s book.resting) ≡ level_of_row R = ap level_of r.order ∙ level-held s (level_of_row R) (P r.queue) r.at.1 stands in
        let line : orders_at (level_of (orders.order_of s book.resting)) book.resting ≡ E r.queue =
        ap (λ (l : Level). orders_at l book.resting) level
        ∙ at-looked (top_at tops) P lv.rows k.summed k.some rules.apart (level_of_row R)
        ∙ ap (queue_or_none E) (row-found r.queue lv.rows rules.apart r.is_row) in
        found r.queue r.at ∙ after-looked (top_at tops) s (P r.queue) ∙ ap (slot_after s) (sym line)

    -- and after a stop of its instrument
    pub next-waits : orders.HasSlot s book.waiting → (o : Option ℕ) → ((q : ℕ) → IsIn p s q → o ≡ next_slot s (P q)) → o ≡ slot_after s (stops_of (orders.order_of s book.waiting).instrument book.waiting)
    next-waits h o found =
        let w = in-line h in
        let i = w.instrument in
        let mine : (pool.order_of s (P (c + i))).instrument ≡ i = instrument-held s i (P (c + i)) w.at.1 (k.stops i w.listed) in
        let line : stops_of (orders.order_of s book.waiting).instrument book.waiting ≡ W (c + i) =
        ap (λ (x : Order). stops_of x.instrument book.waiting) w.order ∙ ap (λ (j : ℕ). stops_of j book.waiting) mine
        ∙ stops-in i w.listed in
        found (c + i) w.at ∙ after-looked no_top s (P (c + i)) ∙ ap (slot_after s) (sym line)

    -- an order rests exactly where its queue is one of those of the levels
    pub rests-below : SlotsDiffer p → AreRows lv → orders.HasSlot s (live_orders book) → (q : ℕ) → IsIn p s q → MatchBool (nat_lt q c) (orders.HasSlot s book.resting) (orders.HasSlot s book.waiting)
    rests-below differ rules h q at = elim (HasSlot-either s book.resting book.waiting h) [
      | inl e ↦
          let r = at-level e in
          let is : q ≡ r.queue = differ.across s q r.queue at r.at in
          let queue : (row_of r.queue lv.rows).queue < lv.capacity = (at-row (λ (x : LevelRow). (x.queue < lv.capacity) × (x.instrument < lv.instruments)) r.queue lv.rows r.is_row rules.below).0 in
          let lt : q < c = omega (arith, is, queue, row_of-queue r.queue lv.rows r.is_row, k.level_room) in
          subst (λ (b : Bool). MatchBool b (orders.HasSlot s book.resting) (orders.HasSlot s book.waiting)) (sym (below-is q c lt)) e
      | inr e ↦
          let w = in-line e in
          let is : q ≡ c + w.instrument = differ.across s q (c + w.instrument) at w.at in
          subst (λ (b : Bool). MatchBool b (orders.HasSlot s book.resting) (orders.HasSlot s book.waiting)) (sym (above-is q c (omega (arith, is)))) e
    ]

    -- its id is in the table
    pub is-named : orders.HasSlot s (live_orders book) → (o : Order) → o ≡ orders.order_of s (live_orders book) → map.get ids.slots (key o.firm o.id) ≢ None
    is-named h o e n =
        own-name s (live_orders book) h
        (ap (λ (x : Order). slot_named x.firm x.id (live_orders book)) (sym e) ∙ sym (k.named o.firm o.id) ∙ ap (option_map slot_number) n)
