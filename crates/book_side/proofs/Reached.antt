-- The stops that stand once more, with what tells whether trades reach them.
use Rattle.std.proofs.Common.{◌≡◌, ◌≢◌, ℕ, ◌+◌, ◌<◌, ◌≤◌, Bool, true, false, cond, not, List, [], ◌∷◌, map, filter, length, replicate, refl, sym, ap, subst, ◌∙◌, arith, inl, inr, get_or-set_other}
use Prim.Native.Nat.{zero, suc}
use Rattle.std.proofs.lemmas.Grind.{get_or-set_at}
use Rattle.std.proofs.lemmas.Bool.Decides.{eqb_tells}
use Rattle.std.proofs.lemmas.List.{length-map, length-replicate, length-set, map-append}
use Rattle.std.proofs.lemmas.List.Sums.{get_or-le-sum_by}
use Rattle.std.specs.Prelude.{◌==◌, slice_set}
use Rattle.std.specs.List.{AllByRecursion}
use Rattle.gx_base.specs.declared.order.Order.{Order}
use Rattle.gx_base.specs.declared.order.Slot.{Slot}
use Rattle.gx_base.specs.declared.price.Price.{Price}
use Rattle.plain_book.specs.declared.entry.Entry.{Entry}
use Rattle.plain_book.specs.Orders as orders
use Rattle.plain_book.specs.Orders.{Level, level_of, slot_of}
use Rattle.plain_book.specs.Book.{Book, live_orders, IsFitToWait}
use Rattle.plain_book.specs.Waiting.{is_reached_by, reached_stops}
use Rattle.order_pool.specs.Queues as pool
use Rattle.order_pool.specs.Queues.{HasSlot, IsIn, IsLive, NoRepeat, SlotsDiffer, with_entry}
use Rattle.id_table.specs.Ids.{Ids}
use Rattle.price_level.specs.Rows.{Rows, AreRows}
use Rattle.waiting_stops.specs.declared.queue.Wait.{Wait}
use Rattle.waiting_stops.specs.Waits as waits
use Rattle.waiting_stops.specs.Waits.{StopLists, no_stops, list_at, is_reached_wait, first_slot, with_wait}
use Rattle.book_side.specs.declared.tops.SideTops.{SideTops}
use Rattle.book_side.specs.Inner.Content.{Held, unmarked, wait_of, book_of}
use Rattle.book_side.specs.Inner.Linked.{IsLinked, HasStops}
use Rattle.book_side.proofs.LevelOf.{held, is-here}
use Rattle.book_side.proofs.Pools.{at-appended, at-others, at-removed, at-with_entry, has-below}
use Rattle.book_side.proofs.Slots.{with_entry-none, without_slot-none}
use Rattle.book_side.proofs.Empty.{empty-at}
use Rattle.book_side.proofs.Places as places
use Rattle.book_side.proofs.Seen.{IsHeldAs}

-- ---- the stops of one queue

-- the first that is reached has the slot of the first entry that is
first-reached : (range : Price × Price) (hs : List Held) → first_slot (filter (is_reached_wait range) (map wait_of hs)) ≡ slot_of (filter (is_reached_by range) (map unmarked hs))
first-reached range [] = refl
first-reached range (h ∷ hs) =
    let ws = filter (is_reached_wait range) (map wait_of hs) in
    let es = filter (is_reached_by range) (map unmarked hs) in
    let go : (b : Bool) → first_slot (cond b (wait_of h ∷ ws) ws) ≡ slot_of (cond b (unmarked h ∷ es) es) = elim [ true ↦ refl | false ↦ first-reached range hs ] in
    go (is_reached_wait range (wait_of h))

waits-without : (s : ℕ) (hs : List Held) → map wait_of (pool.without_slot s hs) ≡ waits.without_slot s (map wait_of hs)
waits-without s [] = refl
waits-without s (h ∷ hs) =
    let go : (b : Bool) → map wait_of (cond b (h ∷ pool.without_slot s hs) (pool.without_slot s hs)) ≡ cond b (wait_of h ∷ waits.without_slot s (map wait_of hs)) (waits.without_slot s (map wait_of hs)) = elim [
      | true ↦ ap (λ (l : List Wait). wait_of h ∷ l) (waits-without s hs)
      | false ↦ waits-without s hs
    ] in go (not (h.0 == s))

waits-other : (s : ℕ) (hs : List Held) → (HasSlot s hs → ⊥) → AllByRecursion (λ (w : Wait). w.slot.0 ≢ s) (map wait_of hs)
waits-other s [] none = tt
waits-other s (h ∷ hs) none = ((λ e. none (inl (sym e))), waits-other s hs (λ k. none (inr k)))

waits-differ : (hs : List Held) → NoRepeat hs → waits.SlotsDiffer (map wait_of hs)
waits-differ [] d = tt
waits-differ (h ∷ hs) d = (waits-other h.0 hs d.0, waits-differ hs d.1)

-- an order changes, but nothing that tells whether trades reach it
waits-kept : (s : ℕ) (o : Order) (hs : List Held) → NoRepeat hs → (HasSlot s hs → wait_of (s, o) ≡ wait_of (s, pool.order_of s hs)) → map wait_of (with_entry s o hs) ≡ map wait_of hs
waits-kept s o [] d alike = refl
waits-kept s o (h ∷ hs) d alike =
    let rest = map wait_of (with_entry s o hs) in
    elim (eqb_tells h.0 s) [
      | inl t ↦
          let own : wait_of (h.0, o) ≡ wait_of h =
          ap (λ (m : ℕ). wait_of (m, o)) t.1 ∙ alike (inl (sym t.1)) ∙ ap (λ (b : Bool). wait_of (s, cond b h.1 (pool.order_of s hs))) t.0 ∙ ap (λ (m : ℕ). wait_of (m, h.1)) (sym t.1) in
          ap (λ (b : Bool). wait_of (h.0, cond b o h.1) ∷ rest) t.0
          ∙ ap (λ (w : Wait). w ∷ rest) own
          ∙ ap (λ (l : List Held). wait_of h ∷ map wait_of l) (with_entry-none s o hs (subst (λ (m : ℕ). HasSlot m hs → ⊥) t.1 d.0))
      | inr t ↦
          ap (λ (b : Bool). wait_of (h.0, cond b o h.1) ∷ rest) t.0
          ∙ ap (λ (l : List Wait). wait_of h ∷ l)
          (waits-kept s o hs d.1 (λ has. alike (inr has) ∙ ap (λ (b : Bool). wait_of (s, cond b h.1 (pool.order_of s hs))) t.0))
    ]

-- ---- no stops

none-stand : (c n m : ℕ) → HasStops c n (pool.empty_queues c m) (no_stops c n)
none-stand c n m = record {
  room = refl;
  sides = length-replicate n [];
  same = λ i lt. empty-list n i ∙ ap (λ (l : List Held). map wait_of l) (sym (empty-at m (c + i)));
}
  where
    empty-list : (n i : ℕ) → list_at (replicate n []) i ≡ []
    empty-list zero i = refl
    empty-list (suc n) zero = refl
    empty-list (suc n) (suc i) = empty-list n i

pub none-made : (c n m : ℕ) {p : pool.Queues} {st : StopLists} → p ≡ pool.empty_queues c m → st ≡ no_stops c n → HasStops c n p st
none-made c n m {p} ep es = subst (λ (y : StopLists). HasStops c n p y) (sym es) (subst (λ (y : pool.Queues). HasStops c n y (no_stops c n)) (sym ep) (none-stand c n m))

-- ---- the queues of the stops stay

module _ {c n : ℕ} {p : pool.Queues} {st : StopLists} (h : HasStops c n p st) where
  stand-same : {p' : pool.Queues} → ((q : ℕ) → c ≤ q → held p' q ≡ held p q) → HasStops c n p' st
  stand-same same = record {
    room = h.room;
    sides = h.sides;
    same = λ i lt. h.same i lt ∙ ap (λ (l : List Held). map wait_of l) (sym (same (c + i) (omega arith)));
  }

  -- an order comes to a level
  pub stand-placed : {p' : pool.Queues} (q : ℕ) (x : Held) → q < c → p' ≡ record p { queues = pool.appended q x p.queues } → HasStops c n p' st
  stand-placed q x low pushed = stand-same (λ r le. ap (λ (y : pool.Queues). pool.entries_at y.queues r) pushed ∙ at-others q r x p.queues (λ e. absurd (omega arith)))

  module _ (s q : ℕ) (differ : SlotsDiffer p) (at : IsIn p s q) where
    not-there : q < c → (r : ℕ) → c ≤ r → HasSlot s (held p r) → ⊥
    not-there low r le has = let e : r ≡ q = differ.across s r q (has-below s r p.queues has, has) at in absurd (omega arith)

    -- it leaves its level
    pub stand-left : {p' : pool.Queues} → q < c → p' ≡ record p { queues = pool.removed s p.queues } → HasStops c n p' st
    stand-left low out = stand-same (λ r le. ap (λ (y : pool.Queues). pool.entries_at y.queues r) out ∙ at-removed s p.queues r ∙ without_slot-none s (held p r) (not-there low r le))

    -- it goes to the end of its level, and changes
    pub stand-back : {p1 p' : pool.Queues} (o : Order) → q < c → p1 ≡ record p { queues = pool.appended q (s, pool.order_of s (held p q)) (pool.removed s p.queues) }
        → p' ≡ record p1 { queues = map (with_entry s o) p1.queues } → HasStops c n p' st
    stand-back {p1} o low back set = stand-same (λ r le.
        let none = not-there low r le in
        let same : held p1 r ≡ held p r =
        ap (λ (y : pool.Queues). pool.entries_at y.queues r) back ∙ at-others q r (s, pool.order_of s (held p q)) (pool.removed s p.queues) (λ e. absurd (omega arith))
        ∙ at-removed s p.queues r ∙ without_slot-none s (held p r) none in
        ap (λ (y : pool.Queues). pool.entries_at y.queues r) set ∙ at-with_entry s o p1.queues r ∙ ap (with_entry s o) same ∙ with_entry-none s o (held p r) none)

    -- it changes in its place
    pub stand-set : {p' : pool.Queues} (o : Order) → length p.queues ≡ c + n → (c ≤ q → wait_of (s, o) ≡ wait_of (s, pool.order_of s (held p q))) → p' ≡ record p { queues = map (with_entry s o) p.queues } → HasStops c n p' st
    stand-set o many alike set = record {
      room = h.room;
      sides = h.sides;
      same = λ i lt.
          let r = c + i in
          let kept = waits-kept s o (held p r) (differ.within r (omega (arith, many, lt))) (λ has.
          let e : q ≡ r = differ.across s q r at (has-below s r p.queues has, has) in
          let le : c ≤ q = omega (arith, e) in
          alike le ∙ ap (λ (m : ℕ). wait_of (s, pool.order_of s (held p m))) e) in
          h.same i lt ∙ sym (ap (λ (l : List Held). map wait_of l) (ap (λ (y : pool.Queues). pool.entries_at y.queues r) set ∙ at-with_entry s o p.queues r) ∙ kept);
    }

  -- ---- a stop comes, or leaves

  module _ (i : ℕ) (listed : i < n) where
    here : length st.lists ≡ n → (w : List Wait) → list_at (slice_set st.lists i w) i ≡ w
    here e w = get_or-set_at st.lists i i w [] refl (omega (arith, e, listed))

    there : (j : ℕ) (w : List Wait) → j ≢ i → list_at (slice_set st.lists i w) j ≡ list_at st.lists j
    there j w ne = get_or-set_other st.lists i j w [] ne

    -- the lists with another one of this instrument are those of these queues
    stand-other : {p' : pool.Queues} {st' : StopLists} (w : List Wait) → st' ≡ record st { lists = slice_set st.lists i w } → w ≡ map wait_of (held p' (c + i)) → ((j : ℕ) → j ≢ i → held p' (c + j) ≡ held p (c + j)) → HasStops c n p' st'
    stand-other {p'} {st'} w is mine others = record {
      room = ap (λ (y : StopLists). y.capacity) is ∙ h.room;
      sides = ap (λ (y : StopLists). length y.lists) is ∙ length-set st.lists i w ∙ h.sides;
      same = λ j lt. ap (λ (y : StopLists). list_at y.lists j) is ∙ elim (eqb_tells j i) [
        | inl t ↦ ap (λ (m : ℕ). list_at (slice_set st.lists i w) m) t.1 ∙ here h.sides w ∙ mine ∙ ap (λ (m : ℕ). map wait_of (held p' (c + m))) (sym t.1)
        | inr t ↦ there j w t.1 ∙ h.same j lt ∙ ap (λ (l : List Held). map wait_of l) (sym (others j t.1))
      ];
    }

    pub stand-waited : {p' : pool.Queues} {st' : StopLists} (x : Held) → length p.queues ≡ c + n → p' ≡ record p { queues = pool.appended (c + i) x p.queues }
        → st' ≡ record st { lists = slice_set st.lists i (with_wait (wait_of x) (list_at st.lists i)) } → HasStops c n p' st'
    stand-waited {p'} x many pushed put =
        let q = c + i in
        stand-other (with_wait (wait_of x) (list_at st.lists i)) put
        (ap (λ (l : List Wait). with_wait (wait_of x) l) (h.same i listed) ∙ sym (map-append wait_of (held p q) (x ∷ []))
        ∙ sym (ap (λ (y : pool.Queues). map wait_of (pool.entries_at y.queues q)) pushed ∙ ap (λ (l : List Held). map wait_of l) (at-appended q x p.queues (omega (arith, many, listed)))))
        (λ j ne. ap (λ (y : pool.Queues). pool.entries_at y.queues (c + j)) pushed ∙ at-others q (c + j) x p.queues (λ e. ne (omega arith)))

    module _ (s : ℕ) (differ : SlotsDiffer p) (at : IsIn p s (c + i)) where
      pub stand-out : {p' : pool.Queues} {st' : StopLists} → p' ≡ record p { queues = pool.removed s p.queues } → st' ≡ record st { lists = slice_set st.lists i (waits.without_slot s (list_at st.lists i)) } → HasStops c n p' st'
      stand-out {p'} out taken =
          let each : (r : ℕ) → held p' r ≡ pool.without_slot s (held p r) = λ r. ap (λ (y : pool.Queues). pool.entries_at y.queues r) out ∙ at-removed s p.queues r in
          stand-other (waits.without_slot s (list_at st.lists i)) taken
          (ap (waits.without_slot s) (h.same i listed) ∙ sym (waits-without s (held p (c + i))) ∙ ap (λ (l : List Held). map wait_of l) (sym (each (c + i))))
          (λ j ne. each (c + j) ∙ without_slot-none s (held p (c + j)) (λ has.
          let e : c + j ≡ c + i = differ.across s (c + j) (c + i) (has-below s (c + j) p.queues has, has) at in
          ne (omega (arith, e))))

      pub slots-differ : waits.SlotsDiffer (list_at st.lists i)
      slots-differ = subst waits.SlotsDiffer (sym (h.same i listed)) (waits-differ (held p (c + i)) (differ.within (c + i) at.0))

-- ---- as a caller sees them

module _ {c n : ℕ} {p : pool.Queues} {ids : Ids} {lv : Rows} {tops : List SideTops} (k : IsLinked c n p ids lv tops) {b : Book} (seen : book_of c n tops p.queues lv.rows ≡ b) {st : StopLists} (h : HasStops c n p st) where
  abbrev book : Book
  book = book_of c n tops p.queues lv.rows

  is-listed : (i : ℕ) → i < b.instruments → i < n
  is-listed i lt = subst (λ (y : Book). i < y.instruments) (sym seen) lt

  pub stop-listed : (i : ℕ) → i < b.instruments → i < length st.lists
  stop-listed i lt = omega (arith, is-listed i lt, h.sides)

  pub reached-is : (range : Price × Price) (i : ℕ) → i < b.instruments → first_slot (filter (is_reached_wait range) (list_at st.lists i)) ≡ slot_of (reached_stops i range b.waiting)
  reached-is range i lt =
      ap (λ (l : List Wait). first_slot (filter (is_reached_wait range) l)) (h.same i (is-listed i lt))
      ∙ first-reached range (held p (c + i))
      ∙ ap (λ (l : List Entry). slot_of (filter (is_reached_by range) l)) (sym (places.stops-in c n p ids lv tops k i (is-listed i lt)))
      ∙ ap (λ (y : Book). slot_of (reached_stops i range y.waiting)) seen

  -- there is room for one more
  pub stop-room : (i : ℕ) → i < b.instruments → length (live_orders b) < b.capacity → length (list_at st.lists i) < st.capacity
  stop-room i lt room =
      let few : length (live_orders book) < c = subst (λ (y : Book). length (live_orders y) < y.capacity) (sym seen) room in
      let own : length (list_at st.lists i) ≡ length (held p (c + i)) = ap (λ (l : List Wait). length l) (h.same i (is-listed i lt)) ∙ length-map (held p (c + i)) wait_of in
      let low : c + i < length p.queues = omega (arith, k.many, is-listed i lt) in
      omega (arith, own, get_or-le-sum_by (λ (l : List Held). length l) p.queues (c + i) [] low, k.live, few, h.room)

  -- its slot is one of those of the stops
  pub stop-low : {p' : pool.Queues} (s : ℕ) → SlotsDiffer p' → IsLive p' s → p'.capacity ≡ p.capacity → s < st.capacity
  stop-low s differ live same = omega (arith, differ.below s live, same, k.slots, h.room)

  -- and it stands once more
  pub stop-stands : {p' : pool.Queues} {st' : StopLists} (slot : Slot) (i : ℕ) (o : Order) → IsFitToWait b.instruments o → i ≡ o.instrument → p' ≡ record p { queues = pool.appended (c + i) (slot.0, record o { shown = 0 }) p.queues }
      → st' ≡ record st { lists = slice_set st.lists o.instrument (with_wait (wait_of (slot.0, o)) (list_at st.lists o.instrument)) } → HasStops c n p' st'
  stop-stands slot i o fit same pushed put =
      let x : Held = (slot.0, record o { shown = 0 }) in
      stand-waited h o.instrument (is-listed o.instrument fit.listed) x k.many (pushed ∙ ap (λ (j : ℕ). (let z : pool.Queues = record p { queues = pool.appended (c + j) x p.queues } in z)) same) put

  -- the queue of an order that rests
  pub rests-below : (s q : ℕ) → orders.HasSlot s b.resting → SlotsDiffer p → IsIn p s q → AreRows lv → q < c
  rests-below s q has differ at rules = (is-here k s q (subst (λ (y : Book). orders.HasSlot s y.resting) (sym seen) has) differ at rules).below

  -- the queue of a stop
  pub record IsStopAt (s : ℕ) (o : Order) : Type 0 where
    pub listed : o.instrument < n
    pub in_lists : o.instrument < length st.lists
    pub at : IsIn p s (c + o.instrument)

  pub stop-at : (s : ℕ) (o : Order) → orders.HasSlot s b.waiting → IsHeldAs k seen s o → IsStopAt s o
  stop-at s o has is =
      let w = places.in-line c n p ids lv tops k s (subst (λ (y : Book). orders.HasSlot s y.waiting) (sym seen) has) in
      let i = w.instrument in
      let same : i ≡ o.instrument = sym (ap (λ (x : Order). x.instrument) (is (c + i) w.at) ∙ places.instrument-held s i (held p (c + i)) w.at.1 (k.stops i w.listed)) in
      let low : o.instrument < n = subst (λ (j : ℕ). j < n) same w.listed in
      record { listed = low; in_lists = omega (arith, low, h.sides); at = subst (λ (j : ℕ). IsIn p s (c + j)) same w.at }

  -- a live order changes, and keeps its side and its stop price
  pub stand-changed : {p' : pool.Queues} (s : ℕ) (o : Order) → SlotsDiffer p → orders.HasSlot s (live_orders b) → level_of o ≡ level_of (orders.order_of s (live_orders b)) → o.trigger ≡ (orders.order_of s (live_orders b)).trigger
      → p' ≡ record p { queues = map (with_entry s o) p.queues } → HasStops c n p' st
  stand-changed s o differ has level trigger set =
      let at = places.place c n p ids lv tops k s (subst (λ (y : Book). orders.HasSlot s (live_orders y)) (sym seen) has) in
      let old = orders.order_of s (live_orders b) in
      let is : old ≡ pool.order_of s (held p at.queue) = ap (λ (y : Book). orders.order_of s (live_orders y)) (sym seen) ∙ at.order in
      stand-set h s at.queue differ at.at o k.many
      (λ _.
      ap (λ (l : Level). wait_of (s, record o { side = l.side })) level
      ∙ ap (λ (x : Price). wait_of (s, record old { trigger = x })) trigger
      ∙ ap (λ (x : Order). wait_of (s, x)) is)
      set

  -- and gets another id
  pub stand-named : {p' : pool.Queues} (s : ℕ) (id : List ℕ) (old : Order) → SlotsDiffer p → IsLive p s → IsHeldAs k seen s old → p' ≡ record p { queues = map (with_entry s (record old { id = id })) p.queues } → HasStops c n p' st
  stand-named s id old differ live is set = stand-set h s live.0 differ live.1 (record old { id = id }) k.many (λ _. ap (λ (x : Order). wait_of (s, x)) (is live.0 live.1)) set
