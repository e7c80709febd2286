-- An order that changes in its place.
use Rattle.std.proofs.Common.{◌≡◌, ◌≢◌, ℕ, ◌+◌, ◌<◌, ◌≤◌, Bool, true, false, cond, ◌&&◌, List, [], ◌∷◌, ◌++◌, map, filter, length, refl, sym, ap, subst, ◌∙◌, arith, inl, inr}
use Rattle.std.proofs.lemmas.Bool.Decides.{eqb_tells}
use Rattle.std.proofs.lemmas.List.{length-map}
use Rattle.std.proofs.lemmas.List.Sums.{sum_by-cons}
use Rattle.std.specs.Prelude.{◌==◌, Option, Some, sum_by}
use Rattle.std.specs.List.{AllByRecursion}
use Rattle.gx_base.specs.declared.order.Order.{Order}
use Rattle.gx_base.specs.declared.order.Side.{Side}
use Rattle.plain_book.specs.declared.entry.Entry.{Entry}
use Rattle.plain_book.specs.Orders as orders
use Rattle.plain_book.specs.Orders.{Level, level_of, is_on, is_named, side_of, slot_of, slot_named, is_slot_in, reordered, with_order}
use Rattle.plain_book.specs.Book.{Book, live_orders, IsRight, IsResting, book_with_order}
use Rattle.plain_book.proofs.Levels.{AllDiffer-front, order_of-left}
use Rattle.plain_book.proofs.Pairs.{all-with, all-both}
use Rattle.plain_book.proofs.Right.{right-with_order, waiting-same, live-reordered}
use Rattle.plain_book.proofs.Tops.{at-slot}
use Rattle.order_pool.specs.Queues as pool
use Rattle.order_pool.specs.Queues.{HasSlot, IsIn, NoRepeat, SlotsDiffer, with_entry}
use Rattle.price_level.specs.declared.row.LevelRow.{LevelRow}
use Rattle.book_side.specs.declared.tops.SideTops.{SideTops}
use Rattle.id_table.specs.Ids.{Ids}
use Rattle.price_level.specs.Rows.{Rows, AreRows, level_of_row, HasQueue, row_of, with_sums}
use Rattle.book_side.specs.Inner.Flat.{flat, queues_of}
use Rattle.book_side.specs.Inner.Content.{Held, marked, resting_of, waiting_of, book_of, top_at}
use Rattle.book_side.specs.Inner.Linked.{IsSummed, IsLinked, IsTopOf}
use Rattle.book_side.proofs.LevelOf.{held, same-lists, summed-as, IsHere, is-here}
use Rattle.book_side.proofs.Flat.{flat-map, flat-rows, only-row, at-row}
use Rattle.book_side.proofs.Pools.{at-with_entry}
use Rattle.book_side.proofs.Pools as queues
use Rattle.book_side.proofs.Slots.{with_entry-none, sum-with_entry, rests-alone, flat-each}
use Rattle.book_side.proofs.Placing.{queues-summed, has-summed, all-summed}
use Rattle.book_side.proofs.Names.{top-through}

-- ---- marks and names

-- an order that changes at its level keeps its mark
marked-entry : (T : ℕ → Side → Option ℕ) (s : ℕ) (o : Order) (h : Held) → (h.0 ≡ s → level_of o ≡ level_of h.1) → marked T (h.0, cond (h.0 == s) o h.1) ≡ reordered s o (marked T h)
marked-entry T s o h l =
    let go : (b : Bool) → (b ≡ true → level_of o ≡ level_of h.1) → marked T (h.0, cond b o h.1) ≡ cond b (record (marked T h) { order = o }) (marked T h) = elim [
      | true ↦ λ f. ap (λ (k : Level). let e : Entry = record { slot = h.0; order = o; is_top = is_slot_in (T k.instrument k.side) h.0 } in e) (f refl)
      | false ↦ λ _. refl
    ] in go (h.0 == s) (λ t. l (elim (eqb_tells h.0 s) [ inl x ↦ x.1 | inr x ↦ absurd (let z : true ≡ false = sym t ∙ x.0 in cc) ]))

pub marks-entry : (T : ℕ → Side → Option ℕ) (s : ℕ) (o : Order) (hs : List Held) → AllByRecursion (λ (e : Entry). e.slot ≡ s → level_of o ≡ level_of e.order) (map (marked T) hs) → map (marked T) (with_entry s o hs) ≡ with_order s o (map (marked T) hs)
marks-entry T s o [] a = refl
marks-entry T s o (h ∷ hs) a = ap (λ (e : Entry). e ∷ map (marked T) (with_entry s o hs)) (marked-entry T s o h a.0) ∙ ap (λ (l : List Entry). reordered s o (marked T h) ∷ l) (marks-entry T s o hs a.1)

-- an order that keeps its name is found by it
pub names-reordered : (s : ℕ) (o : Order) (f : ℕ) (i : List ℕ) (es : List Entry) → AllByRecursion (λ (e : Entry). e.slot ≡ s → (o.firm ≡ e.order.firm) × (o.id ≡ e.order.id)) es → slot_named f i (with_order s o es) ≡ slot_named f i es
names-reordered s o f i [] a = refl
names-reordered s o f i (e ∷ es) a =
    let same : (b : Bool) → (b ≡ true → (o.firm ≡ e.order.firm) × (o.id ≡ e.order.id)) → (is_named f i (cond b (record e { order = o }) e) ≡ is_named f i e) × ((cond b (record e { order = o }) e).slot ≡ e.slot) = elim [
      | true ↦ λ g. (ap (λ (m : ℕ). is_named f i (record e { order = record o { firm = m } })) (g refl).0 ∙ ap (λ (m : List ℕ). is_named f i (record e { order = record o { firm = e.order.firm; id = m } })) (g refl).1, refl)
      | false ↦ λ _. (refl, refl)
    ] in
    let is = same (e.slot == s) (λ t. a.0 (elim (eqb_tells e.slot s) [ inl x ↦ x.1 | inr x ↦ absurd (let z : true ≡ false = sym t ∙ x.0 in cc) ])) in
    let x = reordered s o e in
    let go : (b : Bool) → slot_of (cond b (x ∷ filter (is_named f i) (with_order s o es)) (filter (is_named f i) (with_order s o es))) ≡ slot_of (cond b (e ∷ filter (is_named f i) es) (filter (is_named f i) es)) = elim [
      | true ↦ ap (λ (m : ℕ). Some m) is.1
      | false ↦ names-reordered s o f i es a.1
    ] in
    ap (λ (b : Bool). slot_of (cond b (x ∷ filter (is_named f i) (with_order s o es)) (filter (is_named f i) (with_order s o es)))) is.0 ∙ go (is_named f i e)

-- an order that keeps its level stays on its side
pub side-reordered : (s : ℕ) (o : Order) (i : ℕ) (d : Side) (t : ℕ) (es : List Entry) → AllByRecursion (λ (e : Entry). e.slot ≡ s → level_of o ≡ level_of e.order) es → orders.HasSlot t (side_of i d es) → orders.HasSlot t (side_of i d (with_order s o es))
side-reordered s o i d t [] a h = h
side-reordered s o i d t (e ∷ es) a h =
    let same : (b : Bool) → (b ≡ true → level_of o ≡ level_of e.order) → (is_on i d e ≡ is_on i d (cond b (record e { order = o }) e)) × ((cond b (record e { order = o }) e).slot ≡ e.slot) = elim [
      | true ↦ λ g. (sym (ap (λ (k : Level). (k.instrument == i) && orders.is_side k.side d) (g refl)), refl)
      | false ↦ λ _. (refl, refl)
    ] in
    let is = same (e.slot == s) (λ q. a.0 (elim (eqb_tells e.slot s) [ inl x ↦ x.1 | inr x ↦ absurd (let z : true ≡ false = sym q ∙ x.0 in cc) ])) in
    let x = reordered s o e in
    let go : (b : Bool) → orders.HasSlot t (cond b (e ∷ side_of i d es) (side_of i d es)) → orders.HasSlot t (cond b (x ∷ side_of i d (with_order s o es)) (side_of i d (with_order s o es))) = elim [
      | true ↦ λ k. elim k [ inl y ↦ inl (is.1 ∙ y) | inr y ↦ inr (side-reordered s o i d t es a.1 y) ]
      | false ↦ λ k. side-reordered s o i d t es a.1 k
    ] in subst (λ (b : Bool). orders.HasSlot t (cond b (x ∷ side_of i d (with_order s o es)) (side_of i d (with_order s o es)))) is.0 (go (is_on i d e) h)

pub lengths-entry : (s : ℕ) (o : Order) (qs : List (List Held)) → sum_by (λ (l : List Held). length l) (map (with_entry s o) qs) ≡ sum_by (λ (l : List Held). length l) qs
lengths-entry s o [] = refl
lengths-entry s o (x ∷ qs) =
    omega (arith, sum_by-cons (λ (l : List Held). length l) (with_entry s o x) (map (with_entry s o) qs), sum_by-cons (λ (l : List Held). length l) x qs, lengths-entry s o qs, length-map x (λ (e : Held). let y : Held = (e.0, cond (e.0 == s) o e.1) in y))

level-entry : (s : ℕ) (o : Order) (k : Level) (hs : List Held) → level_of o ≡ k → AllByRecursion (λ (h : Held). level_of h.1 ≡ k) hs → AllByRecursion (λ (h : Held). level_of h.1 ≡ k) (with_entry s o hs)
level-entry s o k [] l a = tt
level-entry s o k (h ∷ hs) l a =
    let go : (b : Bool) → level_of (cond b o h.1) ≡ k = elim [ true ↦ l | false ↦ a.0 ] in
    (go (h.0 == s), level-entry s o k hs l a.1)

pub level-held : (s : ℕ) (k : Level) (hs : List Held) → HasSlot s hs → AllByRecursion (λ (h : Held). level_of h.1 ≡ k) hs → level_of (pool.order_of s hs) ≡ k
level-held s k [] h a = absurd h
level-held s k (x ∷ hs) h a =
    let go : (b : Bool) → (x.0 == s) ≡ b → level_of (cond b x.1 (pool.order_of s hs)) ≡ k = elim [
      | true ↦ λ _. a.0
      | false ↦ λ t. level-held s k hs (elim h [ inl e ↦ absurd (elim (eqb_tells x.0 s) [ inl y ↦ (let z : true ≡ false = sym y.0 ∙ t in cc) | inr y ↦ y.1 (sym e) ]) | inr e ↦ e ]) a.1
    ] in go (x.0 == s) refl

-- ---- the whole call

module _ (c n : ℕ) (p p' : pool.Queues) (ids : Ids) (lv lv2 : Rows) (tops : List SideTops) (k : IsLinked c n p ids lv tops) (s q : ℕ) (o : Order) where
  abbrev T : ℕ → Side → Option ℕ
  T = top_at tops

  abbrev book : Book
  book = book_of c n tops p.queues lv.rows

  module _ (has : orders.HasSlot s book.resting) (differ : SlotsDiffer p) (at : IsIn p s q) (rules : AreRows lv) (set : p' ≡ record p { queues = map (with_entry s o) p.queues })
      (same_level : level_of o ≡ level_of (orders.order_of s book.resting)) (same_firm : o.firm ≡ (orders.order_of s book.resting).firm) (same_id : o.id ≡ (orders.order_of s book.resting).id) (fit : IsResting n o)
      (a b d : ℕ) (summed : lv2 ≡ record lv { rows = with_sums q a b d lv.rows })
      (ea : a ≡ (row_of q lv.rows).count) (eb : b + (pool.order_of s (held p q)).shown ≡ (row_of q lv.rows).shown + o.shown) (ed : d + (pool.order_of s (held p q)).leaves ≡ (row_of q lv.rows).leaves + o.leaves) where
    abbrev U : ℕ → List Held
    U r = with_entry s o (held p r)

    each : (r : ℕ) → held p' r ≡ U r
    each r = ap (λ (x : pool.Queues). pool.entries_at x.queues r) set ∙ at-with_entry s o p.queues r

    it : IsHere c p lv tops s q
    it = is-here k s q has differ at rules

    others : (r : ℕ) → r ≢ q → held p' r ≡ held p r
    others r ne = each r ∙ with_entry-none s o (held p r) (rests-alone p T lv.rows s differ q at r ne)

    levels-same : AllByRecursion (λ (e : Entry). e.slot ≡ s → level_of o ≡ level_of e.order) book.resting
    levels-same = at-slot (λ (x : Order). level_of o ≡ level_of x) s book.resting (AllDiffer-front book.resting book.waiting k.right.differ) same_level

    resting-is : resting_of T (held p') lv2.rows ≡ with_order s o book.resting
    resting-is =
        let E : ℕ → List Entry = λ r. map (marked T) (held p r) in
        let each-row = flat-each (λ (e : Entry). e.slot ≡ s → level_of o ≡ level_of e.order) E lv.rows levels-same in
        ap (λ (x : Rows). resting_of T (held p') x.rows) summed ∙ ap (flat (λ r. map (marked T) (held p' r))) (queues-summed q a b d lv.rows)
        ∙ flat-rows (λ r. map (marked T) (held p' r)) (λ r. with_order s o (E r)) lv.rows
        (all-with (λ (r : LevelRow). AllByRecursion (λ (e : Entry). e.slot ≡ s → level_of o ≡ level_of e.order) (E r.queue)) (λ (r : LevelRow). map (marked T) (held p' r.queue) ≡ with_order s o (E r.queue))
        (λ r h. ap (λ (l : List Held). map (marked T) l) (each r.queue) ∙ marks-entry T s o (held p r.queue) h) lv.rows each-row)
        ∙ sym (flat-map (reordered s o) E (queues_of lv.rows))

    waiting-is : waiting_of (held p') c n ≡ waiting_of (held p) c n
    waiting-is = queues.waiting-same (held p) (held p') c n (λ r le. others r (λ e. let lt : q < c = it.below in absurd (omega arith)))

    pub set-view : book_of c n tops p'.queues lv2.rows ≡ book_with_order s o book
    set-view =
        same-lists c n resting-is waiting-is

    live-is : live_orders (book_with_order s o book) ≡ with_order s o (live_orders book)
    live-is = ap live_orders (sym (waiting-same book s o k.right has)) ∙ live-reordered s o book

    named-same : AllByRecursion (λ (e : Entry). e.slot ≡ s → (o.firm ≡ e.order.firm) × (o.id ≡ e.order.id)) (live_orders book)
    named-same =
        let is : orders.order_of s (live_orders book) ≡ orders.order_of s book.resting = order_of-front s book.resting book.waiting has in
        at-slot (λ (x : Order). (o.firm ≡ x.firm) × (o.id ≡ x.id)) s (live_orders book) k.right.differ (subst (λ (x : Order). (o.firm ≡ x.firm) × (o.id ≡ x.id)) (sym is) (same_firm, same_id))
      where
        order_of-front : (s : ℕ) (xs ys : List Entry) → orders.HasSlot s xs → orders.order_of s (xs ++ ys) ≡ orders.order_of s xs
        order_of-front s xs ys h = order_of-left s xs ys h

    same-length : length (live_orders (book_of c n tops p'.queues lv2.rows)) ≡ length (live_orders book)
    same-length = ap (λ (x : Book). length (live_orders x)) set-view ∙ ap (λ (l : List Entry). length l) live-is ∙ length-map (live_orders book) (reordered s o)

    pub set-linked : IsLinked c n p' ids lv2 tops
    set-linked =
        let A : LevelRow → Type 0 = λ (r : LevelRow). IsSummed (held p) r × (r.queue ≡ q → r ≡ row_of q lv.rows) in
        let norep : NoRepeat (held p q) = differ.within q at.0 in
        let old-level : (r : LevelRow) → r.queue ≡ q → IsSummed (held p) r → level_of o ≡ level_of_row r = λ r e h.
        same_level ∙ ap level_of it.order
        ∙ level-held s (level_of_row r) (held p q) at.1 (subst (λ (x : ℕ). AllByRecursion (λ (h : Held). level_of h.1 ≡ level_of_row r) (held p x)) e h.at) in
        record {
          slots = ap (λ (x : pool.Queues). x.capacity) set ∙ k.slots;
          many = ap (λ (x : pool.Queues). length x.queues) set ∙ length-map p.queues (with_entry s o) ∙ k.many;
          level_room = ap (λ (x : Rows). x.capacity) summed ∙ k.level_room;
          listed = ap (λ (x : Rows). x.instruments) summed ∙ k.listed;
          id_room = k.id_room;
          sides = k.sides;
          fits = k.fits;
          right = subst IsRight (sym set-view) (right-with_order book s o k.right has same_level same_firm same_id fit);
          summed = subst (λ (x : Rows). AllByRecursion (IsSummed (held p')) x.rows) (sym summed) (all-summed A (IsSummed (held p')) q a b d
              (λ r h e.
              let is : r ≡ row_of q lv.rows = h.1 e in
              let R = row_of q lv.rows in
              let to : held p' r.queue ≡ with_entry s o (held p q) = each r.queue ∙ ap (λ (x : ℕ). with_entry s o (held p x)) e in
              let from : held p r.queue ≡ held p q = ap (held p) e in
              record {
                at = subst (AllByRecursion (λ (x : Held). level_of x.1 ≡ level_of_row r)) (sym to) (level-entry s o (level_of_row r) (held p q) (old-level r e h.0) (subst (λ (x : ℕ). AllByRecursion (λ (h : Held). level_of h.1 ≡ level_of_row r) (held p x)) e h.0.at));
                count = ea ∙ ap (λ (y : LevelRow). y.count) (sym is) ∙ h.0.count ∙ ap (λ (l : List Held). length l) from ∙ sym (ap (λ (l : List Held). length l) to ∙ length-map (held p q) (λ (e : Held). let y : Held = (e.0, cond (e.0 == s) o e.1) in y));
                shown = let x : R.shown ≡ r.shown = ap (λ (y : LevelRow). y.shown) (sym is) in omega (arith, eb, x, h.0.shown, ap (λ (l : List Held). sum_by (λ (y : Held). y.1.shown) l) from, ap (λ (l : List Held). sum_by (λ (y : Held). y.1.shown) l) to, sum-with_entry (λ (y : Order). y.shown) s o (held p q) at.1 norep);
                leaves = let x : R.leaves ≡ r.leaves = ap (λ (y : LevelRow). y.leaves) (sym is) in omega (arith, ed, x, h.0.leaves, ap (λ (l : List Held). sum_by (λ (y : Held). y.1.leaves) l) from, ap (λ (l : List Held). sum_by (λ (y : Held). y.1.leaves) l) to, sum-with_entry (λ (y : Order). y.leaves) s o (held p q) at.1 norep);
              })
              (λ r h ne. summed-as (held p) (held p') r (others r.queue ne) h.0)
              lv.rows (all-both (IsSummed (held p)) (λ (r : LevelRow). r.queue ≡ q → r ≡ row_of q lv.rows) lv.rows k.summed (only-row q lv.rows rules.apart)));
          some = subst (λ (x : Rows). AllByRecursion (λ (r : LevelRow). 1 ≤ r.count) x.rows) (sym summed)
              (all-summed (λ (r : LevelRow). 1 ≤ r.count) (λ (r : LevelRow). 1 ≤ r.count) q a b d (λ r h e. let one : 1 ≤ (row_of q lv.rows).count = at-row (λ (x : LevelRow). 1 ≤ x.count) q lv.rows it.rests.is_row k.some in let l : 1 ≤ a = omega (arith, one, ea) in l) (λ r h ne. h) lv.rows k.some);
          unused = λ r lt h.
              let none : HasQueue r lv.rows → ⊥ = λ g. h (subst (λ (x : Rows). HasQueue r x.rows) (sym summed) (has-summed q a b d r lv.rows g)) in
              others r (λ e. none (subst (λ (m : ℕ). HasQueue m lv.rows) (sym e) it.rests.is_row)) ∙ k.unused r lt none;
          stops = λ i lt. subst (AllByRecursion (λ (h : Held). h.1.instrument ≡ i)) (sym (others (c + i) (λ e. let l : q < c = it.below in absurd (omega arith)))) (k.stops i lt);
          top = λ i dd. subst (λ (l : List Entry). IsTopOf (top_at tops i dd) (side_of i dd l)) (sym resting-is)
              (top-through (top_at tops i dd) (side_of i dd book.resting) (side_of i dd (with_order s o book.resting)) (λ t h. side-reordered s o i dd t book.resting levels-same h) (k.top i dd));
          live = ap (λ (x : pool.Queues). pool.live_of x) set ∙ lengths-entry s o p.queues ∙ k.live ∙ sym same-length;
          count = k.count ∙ sym same-length;
          named = λ f i. k.named f i ∙ sym (ap (λ (x : Book). slot_named f i (live_orders x)) set-view ∙ ap (slot_named f i) live-is ∙ names-reordered s o f i (live_orders book) named-same);
        }
