-- An order that changes in its place, and no sum of its level.
use Rattle.std.proofs.Common.{◌≡◌, ◌≢◌, ℕ, ◌+◌, ◌<◌, ◌≤◌, Bool, true, false, cond, List, [], ◌∷◌, ◌++◌, map, length, refl, sym, ap, subst, ◌∙◌, arith, inl, inr}
use Prim.Native.Nat.{zero, suc}
use Rattle.std.proofs.lemmas.Bool.Decides.{eqb_tells}
use Rattle.std.proofs.lemmas.List.{length-map}
use Rattle.std.proofs.lemmas.List.Sums.{sum_by-cons}
use Rattle.std.specs.Prelude.{◌==◌, Option, None, sum_by}
use Rattle.std.specs.List.{AllByRecursion, range_with_len}
use Rattle.gx_base.specs.declared.order.Order.{Order}
use Rattle.gx_base.specs.declared.order.Side.{Side}
use Rattle.plain_book.specs.declared.entry.Entry.{Entry}
use Rattle.plain_book.specs.Orders as orders
use Rattle.plain_book.specs.Orders.{Level, level_of, side_of, slot_named, reordered, with_order}
use Rattle.plain_book.specs.Book.{Book, live_orders, IsRight, IsWaiting}
use Rattle.plain_book.proofs.Pairs.{all-with, all-both, all-front, all-back}
use Rattle.plain_book.proofs.Levels.{slots-apart}
use Rattle.plain_book.proofs.Named.{named-changed}
use Rattle.plain_book.proofs.Right.{live-reordered, right-reordered}
use Rattle.plain_book.proofs.Tops.{at-slot}
use Rattle.order_pool.specs.Queues as pool
use Rattle.order_pool.specs.Queues.{with_entry}
use Rattle.id_table.specs.Ids.{Ids}
use Rattle.price_level.specs.declared.row.LevelRow.{LevelRow}
use Rattle.price_level.specs.Rows.{Rows, level_of_row}
use Rattle.book_side.specs.declared.tops.SideTops.{SideTops}
use Rattle.book_side.specs.Inner.Flat.{flat, queues_of}
use Rattle.book_side.specs.Inner.Content.{Held, marked, unmarked, book_of, resting_of, waiting_of, top_at}
use Rattle.book_side.specs.Inner.Linked.{IsSummed, IsTopOf, IsLinked}
use Rattle.book_side.specs.Inner.Steps.{book_reordered}
use Rattle.book_side.proofs.LevelOf.{held, same-lists}
use Rattle.book_side.proofs.Ids.{looked_up, count_of}
use Rattle.book_side.proofs.Flat.{flat-map, flat-rows}
use Rattle.book_side.proofs.Pools.{at-with_entry}
use Rattle.book_side.proofs.Slots.{flat-each}
use Rattle.book_side.proofs.Names.{top-through}
use Rattle.book_side.proofs.Setting.{marks-entry, names-reordered, side-reordered}

-- what stays of an order
pub record IsAlike (o x : Order) : Type 0 where
  pub level : level_of o ≡ level_of x
  pub shown : o.shown ≡ x.shown
  pub leaves : o.leaves ≡ x.leaves

abbrev Keeps : ℕ → Order → Entry → Type 0
Keeps s o e = e.slot ≡ s → IsAlike o e.order

module _ (T : ℕ → Side → Option ℕ) (s : ℕ) (o : Order) where
  sum-kept : (g : Order → ℕ) → ((x : Order) → IsAlike o x → g o ≡ g x) → (hs : List Held) → AllByRecursion (Keeps s o) (map (marked T) hs) → sum_by (λ (h : Held). g h.1) (with_entry s o hs) ≡ sum_by (λ (h : Held). g h.1) hs
  sum-kept g f [] a = refl
  sum-kept g f (h ∷ hs) a =
      let go : (b : Bool) → (h.0 == s) ≡ b → g (cond b o h.1) ≡ g h.1 = elim [
        | true ↦ λ e. elim (eqb_tells h.0 s) [ inl t ↦ f h.1 (a.0 t.1) | inr t ↦ absurd (let z : true ≡ false = sym e ∙ t.0 in cc) ]
        | false ↦ λ e. refl
      ] in
      let first : g (cond (h.0 == s) o h.1) ≡ g h.1 = go (h.0 == s) refl in
      omega (arith, sum_by-cons (λ (h : Held). g h.1) (h.0, cond (h.0 == s) o h.1) (with_entry s o hs), sum_by-cons (λ (h : Held). g h.1) h hs, sum-kept g f hs a.1, first)

  level-kept : (k : Level) (hs : List Held) → AllByRecursion (Keeps s o) (map (marked T) hs) → AllByRecursion (λ (h : Held). level_of h.1 ≡ k) hs → AllByRecursion (λ (h : Held). level_of h.1 ≡ k) (with_entry s o hs)
  level-kept k [] a h = tt
  level-kept k (x ∷ hs) a h =
      let go : (b : Bool) → (x.0 == s) ≡ b → level_of (cond b o x.1) ≡ k = elim [
        | true ↦ λ e. elim (eqb_tells x.0 s) [ inl t ↦ (a.0 t.1).level ∙ h.0 | inr t ↦ absurd (let z : true ≡ false = sym e ∙ t.0 in cc) ]
        | false ↦ λ e. h.0
      ] in (go (x.0 == s) refl, level-kept k hs a.1 h.1)

abbrev KeepsLevel : ℕ → Order → Entry → Type 0
KeepsLevel s o e = e.slot ≡ s → level_of o ≡ level_of e.order

-- a stop keeps its instrument
instrument-kept : (s : ℕ) (o : Order) (i : ℕ) (hs : List Held) → AllByRecursion (KeepsLevel s o) (map unmarked hs) → AllByRecursion (λ (h : Held). h.1.instrument ≡ i) hs → AllByRecursion (λ (h : Held). h.1.instrument ≡ i) (with_entry s o hs)
instrument-kept s o i [] a h = tt
instrument-kept s o i (x ∷ hs) a h =
    let go : (b : Bool) → (x.0 == s) ≡ b → (cond b o x.1).instrument ≡ i = elim [
      | true ↦ λ e. elim (eqb_tells x.0 s) [ inl t ↦ ap (λ (k : Level). k.instrument) (a.0 t.1) ∙ h.0 | inr t ↦ absurd (let z : true ≡ false = sym e ∙ t.0 in cc) ]
      | false ↦ λ e. h.0
    ] in (go (x.0 == s) refl, instrument-kept s o i hs a.1 h.1)

range-each : (A : Entry → Type 0) (E : ℕ → List Entry) (q a n : ℕ) → a ≤ q → q < a + n → AllByRecursion A (flat E (range_with_len a n)) → AllByRecursion A (E q)
range-each A E q a zero low high h = absurd (omega arith)
range-each A E q a (suc n) low high h = elim (eqb_tells q a) [
  | inl t ↦ subst (λ (p : ℕ). AllByRecursion A (E p)) (sym t.1) (all-front A (E a) (flat E (range_with_len (a + 1) n)) h)
  | inr t ↦ let ne : q ≢ a = t.1 in range-each A E q (a + 1) n (omega arith) (omega arith) (all-back A (E a) (flat E (range_with_len (a + 1) n)) h)
]

waiting-reordered : (s : ℕ) (o : Order) (P : ℕ → List Held) (a n : ℕ) → AllByRecursion (KeepsLevel s o) (waiting_of P a n) → waiting_of (λ q. with_entry s o (P q)) a n ≡ with_order s o (waiting_of P a n)
waiting-reordered s o P a zero h = refl
waiting-reordered s o P a (suc n) h =
    let E : ℕ → List Entry = λ (q : ℕ). map unmarked (P q) in
    let F = waiting_of P (a + 1) n in
    ap (λ (l : List Entry). l ++ waiting_of (λ q. with_entry s o (P q)) (a + 1) n) (marks-entry (λ i d. None) s o (P a) (all-front (KeepsLevel s o) (E a) F h))
    ∙ ap (λ (l : List Entry). with_order s o (E a) ++ l) (waiting-reordered s o P (a + 1) n (all-back (KeepsLevel s o) (E a) F h))
    ∙ sym (with_order-append (E a) F)
  where
    with_order-append : (xs ys : List Entry) → with_order s o (xs ++ ys) ≡ with_order s o xs ++ with_order s o ys
    with_order-append [] ys = refl
    with_order-append (x ∷ xs) ys = ap (λ (l : List Entry). reordered s o x ∷ l) (with_order-append xs ys)

-- what the call makes
pub record IsReordered (c n : ℕ) (p p' : pool.Queues) (ids' : Ids) (lv : Rows) (tops : List SideTops) (s : ℕ) (o : Order) : Type 0 where
  pub view : book_of c n tops p'.queues lv.rows ≡ book_reordered s o (book_of c n tops p.queues lv.rows)
  pub linked : IsLinked c n p' ids' lv tops

module _ (c n : ℕ) (p p' : pool.Queues) (ids ids' : Ids) (lv : Rows) (tops : List SideTops) (k : IsLinked c n p ids lv tops) (s : ℕ) (o : Order) where
  abbrev T : ℕ → Side → Option ℕ
  T = top_at tops

  abbrev book : Book
  book = book_of c n tops p.queues lv.rows

  module _ (set : p' ≡ record p { queues = map (with_entry s o) p.queues }) (live : pool.live_of p' ≡ pool.live_of p)
      (level : level_of o ≡ level_of (orders.order_of s (live_orders book))) (alike : AllByRecursion (Keeps s o) book.resting) (right : IsRight (book_reordered s o book))
      (id_room : ids'.capacity ≡ ids.capacity) (id_count : count_of ids' ≡ count_of ids) (id_names : (f : ℕ) (i : List ℕ) → looked_up f i ids' ≡ slot_named f i (with_order s o (live_orders book))) where
    each : (r : ℕ) → held p' r ≡ with_entry s o (held p r)
    each r = ap (λ (x : pool.Queues). pool.entries_at x.queues r) set ∙ at-with_entry s o p.queues r

    levels : AllByRecursion (KeepsLevel s o) (live_orders book)
    levels = at-slot (λ (x : Order). level_of o ≡ level_of x) s (live_orders book) k.right.differ level

    front : AllByRecursion (KeepsLevel s o) book.resting
    front = all-front (KeepsLevel s o) book.resting book.waiting levels

    back : AllByRecursion (KeepsLevel s o) book.waiting
    back = all-back (KeepsLevel s o) book.resting book.waiting levels

    resting-is : resting_of T (held p') lv.rows ≡ with_order s o book.resting
    resting-is =
        let E : ℕ → List Entry = λ (r : ℕ). map (marked T) (held p r) in
        flat-rows (λ r. map (marked T) (held p' r)) (λ r. with_order s o (E r)) lv.rows
        (all-with (λ (r : LevelRow). AllByRecursion (KeepsLevel s o) (E r.queue)) (λ (r : LevelRow). map (marked T) (held p' r.queue) ≡ with_order s o (E r.queue))
        (λ r h. ap (λ (l : List Held). map (marked T) l) (each r.queue) ∙ marks-entry T s o (held p r.queue) h) lv.rows (flat-each (KeepsLevel s o) E lv.rows front))
        ∙ sym (flat-map (reordered s o) E (queues_of lv.rows))

    waiting-is : waiting_of (held p') c n ≡ with_order s o book.waiting
    waiting-is = same-queues (held p') (λ q. with_entry s o (held p q)) (range_with_len c n) each ∙ waiting-reordered s o (held p) c n back
      where
        same-queues : (Q R : ℕ → List Held) (qs : List ℕ) → ((q : ℕ) → Q q ≡ R q) → flat (λ q. map unmarked (Q q)) qs ≡ flat (λ q. map unmarked (R q)) qs
        same-queues Q R [] h = refl
        same-queues Q R (q ∷ qs) h = ap (λ (l : List Held). map unmarked l ++ flat (λ q. map unmarked (Q q)) qs) (h q) ∙ ap (λ (l : List Entry). map unmarked (R q) ++ l) (same-queues Q R qs h)

    view : book_of c n tops p'.queues lv.rows ≡ book_reordered s o book
    view =
        same-lists c n resting-is waiting-is

    live-is : live_orders (book_of c n tops p'.queues lv.rows) ≡ with_order s o (live_orders book)
    live-is = ap live_orders view ∙ live-reordered s o book

    same-length : length (live_orders (book_of c n tops p'.queues lv.rows)) ≡ length (live_orders book)
    same-length = ap (λ (l : List Entry). length l) live-is ∙ length-map (live_orders book) (reordered s o)

    linked : IsLinked c n p' ids' lv tops
    linked = record {
      slots = ap (λ (x : pool.Queues). x.capacity) set ∙ k.slots;
      many = ap (λ (x : pool.Queues). length x.queues) set ∙ length-map p.queues (with_entry s o) ∙ k.many;
      level_room = k.level_room;
      listed = k.listed;
      id_room = id_room ∙ k.id_room;
      sides = k.sides;
      fits = k.fits;
      right = subst IsRight (sym view) right;
      summed = all-with (λ (r : LevelRow). IsSummed (held p) r × AllByRecursion (Keeps s o) (map (marked T) (held p r.queue))) (IsSummed (held p'))
          (λ r h.
          let to : held p' r.queue ≡ with_entry s o (held p r.queue) = each r.queue in
          record {
            at = subst (AllByRecursion (λ (x : Held). level_of x.1 ≡ level_of_row r)) (sym to) (level-kept T s o (level_of_row r) (held p r.queue) h.1 h.0.at);
            count = h.0.count ∙ sym (ap (λ (l : List Held). length l) to ∙ length-map (held p r.queue) (λ (e : Held). let y : Held = (e.0, cond (e.0 == s) o e.1) in y));
            shown = h.0.shown ∙ sym (ap (λ (l : List Held). sum_by (λ (y : Held). y.1.shown) l) to ∙ sum-kept T s o (λ (x : Order). x.shown) (λ x a. a.shown) (held p r.queue) h.1);
            leaves = h.0.leaves ∙ sym (ap (λ (l : List Held). sum_by (λ (y : Held). y.1.leaves) l) to ∙ sum-kept T s o (λ (x : Order). x.leaves) (λ x a. a.leaves) (held p r.queue) h.1);
          })
          lv.rows (all-both (IsSummed (held p)) (λ (r : LevelRow). AllByRecursion (Keeps s o) (map (marked T) (held p r.queue))) lv.rows k.summed (flat-each (Keeps s o) (λ (q : ℕ). map (marked T) (held p q)) lv.rows alike));
      some = k.some;
      unused = λ r lt h. each r ∙ ap (λ (l : List Held). with_entry s o l) (k.unused r lt h);
      stops = λ i lt. subst (AllByRecursion (λ (h : Held). h.1.instrument ≡ i)) (sym (each (c + i)))
          (instrument-kept s o i (held p (c + i)) (range-each (KeepsLevel s o) (λ (q : ℕ). map unmarked (held p q)) (c + i) c n (omega arith) (omega arith) back) (k.stops i lt));
      top = λ i d. subst (λ (l : List Entry). IsTopOf (top_at tops i d) (side_of i d l)) (sym resting-is)
          (top-through (top_at tops i d) (side_of i d book.resting) (side_of i d (with_order s o book.resting)) (λ t h. side-reordered s o i d t book.resting front h) (k.top i d));
      live = live ∙ k.live ∙ sym same-length;
      count = id_count ∙ k.count ∙ sym same-length;
      named = λ f i. id_names f i ∙ sym (ap (slot_named f i) live-is);
    }

    pub is-reordered : IsReordered c n p p' ids' lv tops s o
    is-reordered = record { view = view; linked = linked }

none-keep : (s : ℕ) (o : Order) (es : List Entry) → (orders.HasSlot s es → ⊥) → AllByRecursion (Keeps s o) es
none-keep s o [] h = tt
none-keep s o (e ∷ es) h = ((λ is. absurd (h (inl is))), none-keep s o es (λ k. h (inr k)))

-- a stop that changes, and keeps its name
module _ (c n : ℕ) (p p' : pool.Queues) (ids : Ids) (lv : Rows) (tops : List SideTops) (k : IsLinked c n p ids lv tops) (s : ℕ) (o : Order) where
  abbrev stands : Book
  stands = book_of c n tops p.queues lv.rows

  pub stop-set : orders.HasSlot s stands.waiting → p' ≡ record p { queues = map (with_entry s o) p.queues } → pool.live_of p' ≡ pool.live_of p
      → level_of o ≡ level_of (orders.order_of s (live_orders stands)) → o.firm ≡ (orders.order_of s (live_orders stands)).firm → o.id ≡ (orders.order_of s (live_orders stands)).id → IsWaiting n o
      → IsReordered c n p p' ids lv tops s o
  stop-set has set live level firm id fit =
      let apart : orders.HasSlot s stands.resting → ⊥ = λ r. slots-apart s stands.resting stands.waiting k.right.differ r has in
      is-reordered c n p p' ids ids lv tops k s o set live level (none-keep s o stands.resting apart)
      (right-reordered stands s o k.right level (named-changed s o (live_orders stands) k.right.differ k.right.named firm id) (λ r. absurd (apart r)) (λ _. fit))
      refl refl
      (λ f i. k.named f i ∙ sym (names-reordered s o f i (live_orders stands) (at-slot (λ (x : Order). (o.firm ≡ x.firm) × (o.id ≡ x.id)) s (live_orders stands) k.right.differ (firm, id))))
