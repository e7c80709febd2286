-- An order that comes to rest.
use Rattle.std.proofs.Common.{◌≡◌, ◌≢◌, ℕ, ◌+◌, ◌<◌, ◌≤◌, Bool, true, false, cond, ◌&&◌, List, [], ◌∷◌, ◌++◌, map, length, refl, sym, ap, subst, ◌∙◌, arith, inl, inr, length-append}
use Rattle.std.proofs.lemmas.Bool.Decides.{eqb_tells, Decides-eqb}
use Rattle.std.proofs.lemmas.List.Sums.{sum_by_push}
use Rattle.std.specs.Prelude.{◌==◌, Option, None, Some, sum_by, not}
use Rattle.std.specs.List.{AllByRecursion}
use Rattle.gx_base.specs.declared.order.Order.{Order}
use Rattle.gx_base.specs.declared.order.Side.{Side}
use Rattle.plain_book.specs.declared.entry.Entry.{Entry}
use Rattle.plain_book.specs.Orders.{Level, level_of, is_on, is_side, is_named, is_live, is_slot_in, side_of, slot_named, HasSlot, placed, with_top, is_at_earlier_level, is_new_best}
use Rattle.plain_book.specs.Book.{Book, live_orders, IsRight, IsFitToRest, AreInBookOrder, EachPair, first_shown, makes_top, resting_placed, book_placed}
use Rattle.plain_book.proofs.Levels.{same, is_side-refl, is_side-same, and-left, and-right, HasSlot-left, HasSlot-filter}
use Rattle.plain_book.proofs.Pairs.{all-with, all-both, all-append, none-any}
use Rattle.plain_book.proofs.Sorted.{IsInserted, inserted-length, put-in, book-order}
use Rattle.std.proofs.lemmas.List.{length-set}
use Rattle.plain_book.proofs.Right.{resting_as, live-placed, ordered-marked, length-marked}
use Rattle.plain_book.proofs.Calls.{orders-marked}
use Rattle.plain_book.proofs.Live.{AllOrders}
use Rattle.plain_book.proofs.Named.{Unnamed}
use Rattle.plain_book.proofs.Calls.{right-book_placed}
use Rattle.order_pool.specs.Queues as pool
use Rattle.price_level.specs.declared.row.LevelRow.{LevelRow}
use Rattle.book_side.specs.declared.tops.SideTops.{SideTops}
use Rattle.id_table.specs.Ids.{Ids}
use Rattle.book_side.proofs.LevelOf.{held, same-lists, summed-as}
use Rattle.book_side.proofs.Ids.{looked_up, count_of}
use Rattle.book_side.proofs.Ids.{is_same_name}
use Rattle.price_level.specs.Rows.{Rows, AreRows, Pairs, AreRowsApart, level_of_row, HasQueue, row_of, without_row, with_sums, resummed}
use Rattle.book_side.specs.Inner.Flat.{flat, queues_of}
use Rattle.book_side.specs.Inner.Content.{Held, marked, resting_of, waiting_of, book_of, top_at}
use Rattle.book_side.specs.Inner.Linked.{IsSummed, IsLinked, IsTopOf}
use Rattle.book_side.specs.Inner.Steps.{IsEntered, IsTopSame, IsTopPlaced}
use Rattle.book_side.proofs.Flat.{flat-same, flat-without, flat-placed, only-row, at-row, row_of-queue, AreAt, IsLevelOf}
use Rattle.book_side.proofs.Looks.{summed-at}
use Rattle.book_side.proofs.Marks.{resting-set, top-none}
use Rattle.book_side.proofs.Pools.{at-appended, at-others, live-held, waiting-same}
use Rattle.book_side.proofs.Names.{inserted-named, marked-named, inserted-side, inserted-on, marked-side, top-through}

-- ---- levels

resummed-queue : (q a b d : ℕ) (r : LevelRow) → (resummed q a b d r).queue ≡ r.queue
resummed-queue q a b d r =
    let go : (c : Bool) → (cond c (record r { count = a; shown = b; leaves = d }) r).queue ≡ r.queue = elim [ true ↦ refl | false ↦ refl ] in go (r.queue == q)

pub queues-summed : (q a b d : ℕ) (rs : List LevelRow) → queues_of (with_sums q a b d rs) ≡ queues_of rs
queues-summed q a b d [] = refl
queues-summed q a b d (r ∷ rs) = ap (λ (p : ℕ). p ∷ queues_of (with_sums q a b d rs)) (resummed-queue q a b d r) ∙ ap (λ (l : List ℕ). r.queue ∷ l) (queues-summed q a b d rs)

pub has-summed : (q a b d p : ℕ) (rs : List LevelRow) → HasQueue p rs → HasQueue p (with_sums q a b d rs)
has-summed q a b d p [] h = h
has-summed q a b d p (r ∷ rs) h = elim h [ inl e ↦ inl (resummed-queue q a b d r ∙ e) | inr e ↦ inr (has-summed q a b d p rs e) ]

has-added : (q p : ℕ) (rs : List LevelRow) → HasQueue p (without_row q rs) → HasQueue p rs
has-added q p [] h = h
has-added q p (r ∷ rs) h =
    let go : (c : Bool) → HasQueue p (cond c (r ∷ without_row q rs) (without_row q rs)) → HasQueue p (r ∷ rs) = elim [
      | true ↦ λ k. elim k [ inl e ↦ inl e | inr e ↦ inr (has-added q p rs e) ]
      | false ↦ λ k. inr (has-added q p rs k)
    ] in go (not (r.queue == q)) h

-- what holds of each level but that of q
all-added : (A : LevelRow → Type 0) (q : ℕ) (rs : List LevelRow) → AllByRecursion A (without_row q rs) → AllByRecursion (λ (r : LevelRow). r.queue ≢ q → A r) rs
all-added A q [] h = tt
all-added A q (r ∷ rs) h = elim (eqb_tells r.queue q) [
  | inl t ↦ ((λ n. absurd (n t.1)), all-added A q rs (subst (λ (c : Bool). AllByRecursion A (cond (not c) (r ∷ without_row q rs) (without_row q rs))) t.0 h))
  | inr t ↦ let k : AllByRecursion A (r ∷ without_row q rs) = subst (λ (c : Bool). AllByRecursion A (cond (not c) (r ∷ without_row q rs) (without_row q rs))) t.0 h in ((λ _. k.0), all-added A q rs k.1)
]

-- each level gets new sums, or keeps its own
pub all-summed : (A B : LevelRow → Type 0) (q a b d : ℕ) → ((r : LevelRow) → A r → r.queue ≡ q → B (record r { count = a; shown = b; leaves = d })) → ((r : LevelRow) → A r → r.queue ≢ q → B r) → (rs : List LevelRow) → AllByRecursion A rs → AllByRecursion B (with_sums q a b d rs)
all-summed A B q a b d f g [] h = tt
all-summed A B q a b d f g (r ∷ rs) h = (
  elim (eqb_tells r.queue q) [
    | inl t ↦ subst (λ (c : Bool). B (cond c (record r { count = a; shown = b; leaves = d }) r)) (sym t.0) (f r h.0 t.1)
    | inr t ↦ subst (λ (c : Bool). B (cond c (record r { count = a; shown = b; leaves = d }) r)) (sym t.0) (g r h.0 t.1)
  ],
  all-summed A B q a b d f g rs h.1,
)

-- ---- a level is found or made

-- the levels with one for q, which may still be without orders
pub record IsReady (c : ℕ) (P : ℕ → List Held) (q : ℕ) (rs rs1 : List LevelRow) : Type 0 where
  pub summed : AllByRecursion (IsSummed P) rs1
  pub some : AllByRecursion (λ (r : LevelRow). r.queue ≢ q → 1 ≤ r.count) rs1
  pub unused : (p : ℕ) → p < c → (HasQueue p rs1 → ⊥) → P p ≡ []
  pub below : q < c
  pub same : (T : ℕ → Side → Option ℕ) → resting_of T P rs ≡ resting_of T P rs1

pub level-ready : (c : ℕ) (P : ℕ → List Held) (q : ℕ) (k : Level) (lv lv1 : Rows) → lv.capacity ≡ c → AllByRecursion (IsSummed P) lv.rows → AllByRecursion (λ (r : LevelRow). 1 ≤ r.count) lv.rows → ((p : ℕ) → p < c → (HasQueue p lv.rows → ⊥) → P p ≡ [])
    → AreRows lv1 → IsEntered k q lv lv1 → IsReady c P q lv.rows lv1.rows
level-ready c P q k lv lv1 room sums some unused rules en =
    let under : (row_of q lv1.rows).queue < lv1.capacity = (at-row (λ (r : LevelRow). (r.queue < lv1.capacity) × (r.instrument < lv1.instruments)) q lv1.rows en.has rules.below).0 in
    let below : q < c = subst (λ (m : ℕ). m < c) (row_of-queue q lv1.rows en.has) (omega (arith, under, en.capacity, room)) in
    elim en.rest [
      | inl e ↦ record {
        summed = subst (AllByRecursion (IsSummed P)) (sym e) sums;
        some = subst (AllByRecursion (λ (r : LevelRow). r.queue ≢ q → 1 ≤ r.count)) (sym e) (all-with (λ (r : LevelRow). 1 ≤ r.count) (λ (r : LevelRow). r.queue ≢ q → 1 ≤ r.count) (λ r h _. h) lv.rows some);
        unused = λ p lt h. unused p lt (λ g. h (subst (HasQueue p) (sym e) g));
        below = below;
        same = λ T. ap (resting_of T P) (sym e);
      }
      | inr w ↦
          let empty : P q ≡ [] = unused q below w.0 in
          let R = row_of q lv1.rows in
          let new : IsSummed P R =
          let none : P R.queue ≡ [] = ap P (row_of-queue q lv1.rows en.has) ∙ empty in
          record {
            at = subst (AllByRecursion (λ (h : Held). level_of h.1 ≡ level_of_row R)) (sym none) tt;
            count = w.3 ∙ sym (ap (λ (l : List Held). length l) none);
            shown = w.4 ∙ sym (ap (λ (l : List Held). sum_by (λ (h : Held). h.1.shown) l) none);
            leaves = w.5 ∙ sym (ap (λ (l : List Held). sum_by (λ (h : Held). h.1.leaves) l) none);
          } in
          record {
            summed = all-with (λ (r : LevelRow). (r.queue ≢ q → IsSummed P r) × (r.queue ≡ q → r ≡ R)) (IsSummed P)
                (λ r h. elim (eqb_tells r.queue q) [ inl t ↦ subst (IsSummed P) (sym (h.1 t.1)) new | inr t ↦ h.0 t.1 ]) lv1.rows
                (all-both (λ (r : LevelRow). r.queue ≢ q → IsSummed P r) (λ (r : LevelRow). r.queue ≡ q → r ≡ R) lv1.rows
                (all-added (IsSummed P) q lv1.rows (subst (AllByRecursion (IsSummed P)) (sym w.2) sums)) (only-row q lv1.rows rules.apart));
            some = all-added (λ (r : LevelRow). 1 ≤ r.count) q lv1.rows (subst (AllByRecursion (λ (r : LevelRow). 1 ≤ r.count)) (sym w.2) some);
            unused = λ p lt h. unused p lt (λ g. h (has-added q p lv1.rows (subst (HasQueue p) (sym w.2) g)));
            below = below;
            same = λ T. ap (resting_of T P) (sym w.2) ∙ flat-without (λ p. map (marked T) (P p)) q (ap (λ (l : List Held). map (marked T) l) empty) lv1.rows;
          }
    ]

-- ---- the order comes to the end of its queue

module _ (c : ℕ) (P P' : ℕ → List Held) (q s : ℕ) (o : Order) (here : P' q ≡ P q ++ (s, o) ∷ []) (there : (p : ℕ) → p ≢ q → P' p ≡ P p)
    (rs rs1 : List LevelRow) (ready : IsReady c P q rs rs1) (apart : Pairs AreRowsApart rs1) (has : HasQueue q rs1) (at : level_of_row (row_of q rs1) ≡ level_of o) where
  level-of : AllByRecursion (IsLevelOf q (level_of o)) rs1
  level-of = all-with (λ (r : LevelRow). r.queue ≡ q → r ≡ row_of q rs1) (IsLevelOf q (level_of o)) (λ r h e. ap level_of_row (h e) ∙ at) rs1 (only-row q rs1 apart)

  -- it is put in after those at its price and before it
  pub resting-pushed : (U : ℕ → Side → Option ℕ) → placed (marked U (s, o)) (resting_of U P rs) ≡ resting_of U P' rs1
  resting-pushed U =
      let E : ℕ → List Entry = λ p. map (marked U) (P p) in
      let E' : ℕ → List Entry = λ p. map (marked U) (P' p) in
      let push : (hs : List Held) → map (marked U) (hs ++ (s, o) ∷ []) ≡ map (marked U) hs ++ marked U (s, o) ∷ [] = push-marked U in
      ap (placed (marked U (s, o))) (ready.same U)
      ∙ flat-placed E E' (marked U (s, o)) q (ap (λ (l : List Held). map (marked U) l) here ∙ push (P q)) (λ p n. ap (λ (l : List Held). map (marked U) l) (there p n)) rs1 apart has level-of
      (all-with (IsSummed P) (AreAt E) (λ r h. summed-at U P r h) rs1 ready.summed)
    where
      push-marked : (U : ℕ → Side → Option ℕ) (hs : List Held) → map (marked U) (hs ++ (s, o) ∷ []) ≡ map (marked U) hs ++ marked U (s, o) ∷ []
      push-marked U [] = refl
      push-marked U (h ∷ hs) = ap (λ (l : List Entry). marked U h ∷ l) (push-marked U hs)

  -- its level has the new sums
  pub summed-pushed : (a b d : ℕ) → a ≡ (row_of q rs1).count + 1 → b ≡ (row_of q rs1).shown + o.shown → d ≡ (row_of q rs1).leaves + o.leaves → AllByRecursion (IsSummed P') (with_sums q a b d rs1)
  summed-pushed a b d ea eb ed =
      let A : LevelRow → Type 0 = λ (r : LevelRow). IsSummed P r × (r.queue ≡ q → r ≡ row_of q rs1) in
      all-summed A (IsSummed P') q a b d
      (λ r h e.
      let is : r ≡ row_of q rs1 = h.1 e in
      let to : P' r.queue ≡ P r.queue ++ (s, o) ∷ [] = ap P' e ∙ here ∙ ap (λ p. P p ++ (s, o) ∷ []) (sym e) in
      record {
        at = subst (AllByRecursion (λ (x : Held). level_of x.1 ≡ level_of_row r)) (sym to) (all-append (λ (x : Held). level_of x.1 ≡ level_of_row r) (P r.queue) ((s, o) ∷ []) h.0.at (sym (ap level_of_row is ∙ at), tt));
        count = let x : (row_of q rs1).count ≡ r.count = ap (λ (y : LevelRow). y.count) (sym is) in omega (arith, ea, x, h.0.count, ap (λ (l : List Held). length l) to, length-append (P r.queue) ((s, o) ∷ []));
        shown = let x : (row_of q rs1).shown ≡ r.shown = ap (λ (y : LevelRow). y.shown) (sym is) in eb ∙ ap (λ (m : ℕ). m + o.shown) (x ∙ h.0.shown) ∙ sym (ap (λ (l : List Held). sum_by (λ (y : Held). y.1.shown) l) to ∙ sum_by_push (λ (y : Held). y.1.shown) (P r.queue) (s, o));
        leaves = let x : (row_of q rs1).leaves ≡ r.leaves = ap (λ (y : LevelRow). y.leaves) (sym is) in ed ∙ ap (λ (m : ℕ). m + o.leaves) (x ∙ h.0.leaves) ∙ sym (ap (λ (l : List Held). sum_by (λ (y : Held). y.1.leaves) l) to ∙ sum_by_push (λ (y : Held). y.1.leaves) (P r.queue) (s, o));
      })
      (λ r h n. summed-as P P' r (there r.queue n) h.0)
      rs1 (all-both (IsSummed P) (λ (r : LevelRow). r.queue ≡ q → r ≡ row_of q rs1) rs1 ready.summed (only-row q rs1 apart))

  pub some-pushed : (a b d : ℕ) → 1 ≤ a → AllByRecursion (λ (r : LevelRow). 1 ≤ r.count) (with_sums q a b d rs1)
  some-pushed a b d l = all-summed (λ (r : LevelRow). r.queue ≢ q → 1 ≤ r.count) (λ (r : LevelRow). 1 ≤ r.count) q a b d (λ r h e. l) (λ r h n. h n) rs1 ready.some

-- ---- TOP

-- the marks of the old orders, and of the new one
module _ (old new : List SideTops) (P : ℕ → List Held) (rs : List LevelRow) (s : ℕ) (o : Order) (fresh : HasSlot s (resting_of (top_at old) P rs) → ⊥) (tops : (i : ℕ) (d : Side) → IsTopOf (top_at old i d) (side_of i d (resting_of (top_at old) P rs))) where
  abbrev es : List Entry
  es = resting_of (top_at old) P rs

  marks-same : IsTopSame old new → resting_of (top_at new) P rs ≡ es
  marks-same h =
      flat-same (λ q. map (marked (top_at new)) (P q)) (λ q. map (marked (top_at old)) (P q)) (queues_of rs) (λ q. each (P q))
    where
      each : (hs : List Held) → map (marked (top_at new)) hs ≡ map (marked (top_at old)) hs
      each [] = refl
      each (x ∷ hs) =
          ap (λ (t : Option ℕ). (let e : Entry = record { slot = x.0; order = x.1; is_top = is_slot_in t x.0 } in e) ∷ map (marked (top_at new)) hs) (h x.1.instrument x.1.side)
          ∙ ap (λ (l : List Entry). marked (top_at old) x ∷ l) (each hs)

  not-top : (i : ℕ) (d : Side) → is_slot_in (top_at old i d) s ≡ false
  not-top i d =
      let go : (t : Option ℕ) → IsTopOf t (side_of i d es) → is_slot_in t s ≡ false = elim [
        | None ↦ λ _. refl
        | Some x ↦ λ h. elim (eqb_tells s x) [ inl e ↦ absurd (fresh (HasSlot-filter (is_on i d) s es (subst (λ (y : ℕ). HasSlot y (side_of i d es)) (sym e.1) h))) | inr e ↦ e.0 ]
      ] in go (top_at old i d) (tops i d)

  module _ (best enough : Bool) (is : IsTopPlaced best enough s o old new) where
    here-on : (i : ℕ) (d : Side) → ((i == i) && is_side d d) ≡ true
    here-on i d = ap (λ (b : Bool). b && is_side d d) (same i) ∙ is_side-refl d

    pub marks-placed : resting_of (top_at new) P rs ≡ cond best (with_top o.instrument o.side None es) es
    marks-placed =
        let i = o.instrument in
        let d = o.side in
        let ends : (e : Bool) → with_top i d (cond e (Some s) None) es ≡ with_top i d None es = elim [ true ↦ top-none i d s es fresh | false ↦ refl ] in
        let go : (b : Bool) → IsTopPlaced b enough s o old new → resting_of (top_at new) P rs ≡ cond b (with_top i d None es) es = elim [
          | true ↦ λ h. resting-set (top_at old) (top_at new) i d (cond enough (Some s) None) h P rs ∙ ends enough
          | false ↦ λ h. marks-same h
        ] in go best is

    pub mark-placed : (o' : Order) → o'.instrument ≡ o.instrument → o'.side ≡ o.side → is_slot_in (top_at new o'.instrument o'.side) s ≡ (best && enough)
    mark-placed o' ei ed =
        let i = o.instrument in
        let d = o.side in
        let own : (e : Bool) → is_slot_in (cond e (Some s) None) s ≡ e = elim [ true ↦ same s | false ↦ refl ] in
        let go : (b : Bool) → IsTopPlaced b enough s o old new → is_slot_in (top_at new i d) s ≡ (b && enough) = elim [
          | true ↦ λ h. ap (λ (t : Option ℕ). is_slot_in t s) (h i d ∙ ap (λ (b : Bool). cond b (cond enough (Some s) None) (top_at old i d)) (here-on i d)) ∙ own enough
          | false ↦ λ h. ap (λ (t : Option ℕ). is_slot_in t s) (h i d) ∙ not-top i d
        ] in ap (λ (m : ℕ). is_slot_in (top_at new m o'.side) s) ei ∙ ap (λ (m : Side). is_slot_in (top_at new i m) s) ed ∙ go best is

    -- TOP stands on its side
    pub tops-placed : (n : Entry) → n.slot ≡ s → n.order.instrument ≡ o.instrument → n.order.side ≡ o.side → (fs : List Entry) → IsInserted n (cond best (with_top o.instrument o.side None es) es) fs
        → (i : ℕ) (d : Side) → IsTopOf (top_at new i d) (side_of i d fs)
    tops-placed n es' ei ed fs ins i d =
        let go : (b : Bool) → IsTopPlaced b enough s o old new → IsInserted n (cond b (with_top o.instrument o.side None es) es) fs → IsTopOf (top_at new i d) (side_of i d fs) = elim [
          | true ↦ λ h r.
              let through : IsTopOf (top_at old i d) (side_of i d fs) =
              top-through (top_at old i d) (side_of i d es) (side_of i d fs) (λ x k. inserted-side n (with_top o.instrument o.side None es) fs r i d x (marked-side o.instrument o.side None i d x es k)) (tops i d) in
              let mine : ((i == o.instrument) && is_side d o.side) ≡ true → IsTopOf (cond enough (Some s) None) (side_of i d fs) = λ on.
              let a : i ≡ o.instrument = (Decides-eqb i o.instrument).0 (and-left _ _ on) in
              let b : d ≡ o.side = is_side-same _ _ (and-right (i == o.instrument) _ on) in
              let at : is_on i d n ≡ true =
              ap (λ (m : ℕ). (n.order.instrument == m) && is_side n.order.side d) (a ∙ sym ei) ∙ ap (λ (m : Side). (n.order.instrument == n.order.instrument) && is_side n.order.side m) (b ∙ sym ed) ∙ here-on n.order.instrument n.order.side in
              let stands : HasSlot s (side_of i d fs) = subst (λ (m : ℕ). HasSlot m (side_of i d fs)) es' (inserted-on n (with_top o.instrument o.side None es) fs r i d at) in
              let pick : (e : Bool) → IsTopOf (cond e (Some s) None) (side_of i d fs) = elim [ true ↦ stands | false ↦ tt ] in pick enough in
              let choose : (c : Bool) → ((i == o.instrument) && is_side d o.side) ≡ c → IsTopOf (cond c (cond enough (Some s) None) (top_at old i d)) (side_of i d fs) = elim [ true ↦ λ on. mine on | false ↦ λ _. through ] in
              subst (λ (t : Option ℕ). IsTopOf t (side_of i d fs)) (sym (h i d)) (choose ((i == o.instrument) && is_side d o.side) refl)
          | false ↦ λ h r.
              subst (λ (t : Option ℕ). IsTopOf t (side_of i d fs)) (sym (h i d)) (top-through (top_at old i d) (side_of i d es) (side_of i d fs) (λ x k. inserted-side n es fs r i d x k) (tops i d))
        ] in go best is ins

-- ---- the whole call

module _ (c n : ℕ) (p p' : pool.Queues) (ids ids' : Ids) (lv lv1 lv2 : Rows) (tops tops' : List SideTops) (k : IsLinked c n p ids lv tops)
    (s q : ℕ) (o : Order) (least : Option ℕ) where
  abbrev book : Book
  book = book_of c n tops p.queues lv.rows

  abbrev rests : Order
  rests = record o { shown = first_shown o }

  module _ (en : IsEntered (level_of o) q lv lv1) (rules : AreRows lv1)
      (pushed : p' ≡ record p { queues = pool.appended q (s, rests) p.queues }) (dead : pool.IsLive p s → ⊥) (live : pool.live_of p' ≡ pool.live_of p + 1)
      (a b d : ℕ) (summed : lv2 ≡ record lv1 { rows = with_sums q a b d lv1.rows }) (ea : a ≡ (row_of q lv1.rows).count + 1) (eb : b ≡ (row_of q lv1.rows).shown + rests.shown) (ed : d ≡ (row_of q lv1.rows).leaves + o.leaves)
      (id_room : ids'.capacity ≡ ids.capacity) (id_count : count_of ids' ≡ count_of ids + 1) (id_names : (f : ℕ) → (i : List ℕ) → looked_up f i ids' ≡ cond (is_same_name o.firm o.id f i) (Some s) (looked_up f i ids))
      (long : length tops' ≡ length tops) (placed_top : IsTopPlaced (is_new_best o book.resting) (makes_top least o.leaves) s o tops tops')
      (fit : IsFitToRest n o) (unnamed : is_live o.firm o.id (live_orders book) ≡ false) (room : length (live_orders book) < c) where
    pub fresh-slot : HasSlot s (live_orders book) → ⊥
    fresh-slot h = dead (live-held p (top_at tops) lv.rows c n s h)

    ready : IsReady c (held p) q lv.rows lv1.rows
    ready = level-ready c (held p) q (level_of o) lv lv1 k.level_room k.summed k.some k.unused rules en

    here : held p' q ≡ held p q ++ (s, rests) ∷ []
    here = ap (λ (x : pool.Queues). pool.entries_at x.queues q) pushed ∙ at-appended q (s, rests) p.queues (omega (arith, ready.below, k.many))

    there : (r : ℕ) → r ≢ q → held p' r ≡ held p r
    there r ne = ap (λ (x : pool.Queues). pool.entries_at x.queues r) pushed ∙ at-others q r (s, rests) p.queues ne

    abbrev best : Bool
    best = is_new_best o book.resting

    abbrev one : List Entry
    one = cond best (with_top o.instrument o.side None book.resting) book.resting

    abbrev newcomer : Entry
    newcomer = record { slot = s; order = rests; is_top = best && makes_top least o.leaves }

    fresh-resting : HasSlot s book.resting → ⊥
    fresh-resting h = fresh-slot (HasSlot-left s book.resting book.waiting h)

    resting-is : resting_of (top_at tops') (held p') lv2.rows ≡ resting_placed s o least book.resting
    resting-is =
        let U = top_at tops' in
        let rows : resting_of U (held p') lv2.rows ≡ resting_of U (held p') lv1.rows =
        ap (λ (x : Rows). resting_of U (held p') x.rows) summed ∙ ap (flat (λ r. map (marked U) (held p' r))) (queues-summed q a b d lv1.rows) in
        rows
        ∙ sym (resting-pushed c (held p) (held p') q s rests here there lv.rows lv1.rows ready rules.apart en.has en.at U)
        ∙ ap (λ (t : Bool). placed (let e : Entry = record { slot = s; order = rests; is_top = t } in e) (resting_of U (held p) lv.rows))
        (mark-placed tops tops' (held p) lv.rows s o fresh-resting k.top best (makes_top least o.leaves) placed_top rests refl refl)
        ∙ ap (placed newcomer) (marks-placed tops tops' (held p) lv.rows s o fresh-resting k.top best (makes_top least o.leaves) placed_top)

    waiting-is : waiting_of (held p') c n ≡ waiting_of (held p) c n
    waiting-is = waiting-same (held p) (held p') c n (λ r le. there r (λ e. let lt : q < c = ready.below in absurd (omega arith)))

    -- the book is that of the contract
    pub placed-view : book_of c n tops' p'.queues lv2.rows ≡ book_placed s o least book
    placed-view =
        same-lists c n resting-is waiting-is

    ordered-one : EachPair AreInBookOrder one
    ordered-one =
        let go : (t : Bool) → EachPair AreInBookOrder (cond t (with_top o.instrument o.side None book.resting) book.resting) = elim [
          | true ↦ ordered-marked o.instrument o.side None book.resting k.right.ordered
          | false ↦ k.right.ordered
        ] in go best

    inserted : IsInserted newcomer (live_orders (resting_as book one)) (live_orders (book_placed s o least book))
    inserted = live-placed (resting_as book one) newcomer ordered-one

    length-one : length (live_orders (resting_as book one)) ≡ length (live_orders book)
    length-one =
        let go : (t : Bool) → length (cond t (with_top o.instrument o.side None book.resting) book.resting ++ book.waiting) ≡ length (live_orders book) = elim [
          | true ↦ length-marked o.instrument o.side None book.resting book.waiting
          | false ↦ refl
        ] in go best

    names-one : (f : ℕ) (i : List ℕ) → slot_named f i (live_orders (resting_as book one)) ≡ slot_named f i (live_orders book)
    names-one f i =
        let go : (t : Bool) → slot_named f i (cond t (with_top o.instrument o.side None book.resting) book.resting ++ book.waiting) ≡ slot_named f i (live_orders book) = elim [
          | true ↦ marked-named o.instrument o.side None f i book.resting book.waiting
          | false ↦ refl
        ] in go best

    unnamed-one : AllOrders (Unnamed rests) (live_orders (resting_as book one))
    unnamed-one =
        let u : AllOrders (Unnamed rests) (live_orders book) = none-any (is_named o.firm o.id) (live_orders book) unnamed in
        let go : (t : Bool) → AllOrders (Unnamed rests) (cond t (with_top o.instrument o.side None book.resting) book.resting ++ book.waiting) = elim [
          | true ↦ orders-marked (Unnamed rests) o.instrument o.side None book.resting book.waiting u
          | false ↦ u
        ] in go best

    one-more : length (live_orders (book_placed s o least book)) ≡ length (live_orders book) + 1
    one-more = omega (arith, inserted-length inserted, length-one)

    pub linked-placed : IsLinked c n p' ids' lv2 tops'
    linked-placed =
        let back = sym placed-view in
        let more : length (live_orders (book_of c n tops' p'.queues lv2.rows)) ≡ length (live_orders book) + 1 = ap (λ (x : Book). length (live_orders x)) placed-view ∙ one-more in
        record {
          slots = ap (λ (x : pool.Queues). x.capacity) pushed ∙ k.slots;
          many = ap (λ (x : pool.Queues). length x.queues) pushed ∙ length-appended ∙ k.many;
          level_room = ap (λ (x : Rows). x.capacity) summed ∙ en.capacity ∙ k.level_room;
          listed = ap (λ (x : Rows). x.instruments) summed ∙ en.instruments ∙ k.listed;
          id_room = id_room ∙ k.id_room;
          sides = long ∙ k.sides;
          fits = k.fits;
          right = subst IsRight back (right-book_placed book s k.right room fresh-slot o least fit unnamed);
          summed = subst (λ (x : Rows). AllByRecursion (IsSummed (held p')) x.rows) (sym summed) (summed-pushed c (held p) (held p') q s rests here there lv.rows lv1.rows ready rules.apart en.has en.at a b d ea eb ed);
          some = subst (λ (x : Rows). AllByRecursion (λ (r : LevelRow). 1 ≤ r.count) x.rows) (sym summed) (some-pushed c (held p) (held p') q s rests here there lv.rows lv1.rows ready rules.apart en.has en.at a b d (omega (arith, ea)));
          unused = λ r lt h.
              let not_here : HasQueue r lv1.rows → ⊥ = λ g. h (subst (λ (x : Rows). HasQueue r x.rows) (sym summed) (has-summed q a b d r lv1.rows g)) in
              there r (λ e. not_here (subst (λ (m : ℕ). HasQueue m lv1.rows) (sym e) en.has)) ∙ ready.unused r lt not_here;
          stops = λ i lt. subst (AllByRecursion (λ (h : Held). h.1.instrument ≡ i)) (sym (there (c + i) (λ e. let l : q < c = ready.below in absurd (omega arith)))) (k.stops i lt);
          top = λ i dd. subst (λ (l : List Entry). IsTopOf (top_at tops' i dd) (side_of i dd l)) (sym resting-is)
              (tops-placed tops tops' (held p) lv.rows s o fresh-resting k.top best (makes_top least o.leaves) placed_top newcomer refl refl refl (resting_placed s o least book.resting) resting-inserted i dd);
          live = omega (arith, live, k.live, more);
          count = omega (arith, id_count, k.count, more);
          named = λ f i.
              id_names f i ∙ ap (λ (t : Option ℕ). cond (is_same_name o.firm o.id f i) (Some s) t) (k.named f i ∙ sym (names-one f i))
              ∙ sym (inserted-named newcomer (live_orders (resting_as book one)) (live_orders (book_placed s o least book)) inserted unnamed-one f i)
              ∙ ap (λ (x : Book). slot_named f i (live_orders x)) back;
        }
      where
        length-appended : length (pool.appended q (s, rests) p.queues) ≡ length p.queues
        length-appended = length-set p.queues q (pool.entries_at p.queues q ++ (s, rests) ∷ [])

        resting-inserted : IsInserted newcomer one (resting_placed s o least book.resting)
        resting-inserted = let r = put-in is_at_earlier_level book-order newcomer one ordered-one in record { front = r.front; back = r.back; whole = r.whole; is = r.place }
