-- An order that is refreshed, and goes after the others of its level.
use Rattle.std.proofs.Common.{◌≡◌, ◌≢◌, ℕ, ◌+◌, ◌<◌, ◌≤◌, Bool, true, false, cond, not, ◌&&◌, List, [], ◌∷◌, ◌++◌, map, filter, length, refl, sym, ap, subst, ◌∙◌, arith, inl, inr, length-append}
use Rattle.std.proofs.lemmas.Bool.Decides.{eqb_tells, Decides-eqb}
use Rattle.std.proofs.lemmas.List.{length-map, length-set}
use Rattle.std.proofs.lemmas.List.Sums.{sum_by_push}
use Rattle.std.proofs.lemmas.Slice.Eq.{bytes_eq-Decides}
use Rattle.std.specs.Prelude.{◌==◌, bytes_eq, Option, None, Some, sum_by}
use Rattle.std.specs.List.{AllByRecursion}
use Rattle.gx_base.specs.declared.order.Order.{Order}
use Rattle.gx_base.specs.declared.order.Side.{Side}
use Rattle.plain_book.specs.declared.entry.Entry.{Entry}
use Rattle.plain_book.specs.Orders as orders
use Rattle.plain_book.specs.Orders.{Level, level_of, is_named, is_at_earlier_level, side_of, slot_of, slot_named, is_slot_in, without, placed}
use Rattle.plain_book.specs.Book.{Book, live_orders, IsRight, EachPair, AreInBookOrder}
use Rattle.plain_book.proofs.Levels.{AllDiffer-front, HasSlot-left, order_of-left, and-left, and-right, same}
use Rattle.plain_book.proofs.Pairs.{all-with, all-both, all-append, all-filter, pairs-filter}
use Rattle.plain_book.proofs.Named.{unnamed-without}
use Rattle.plain_book.proofs.Right.{other_slot, live-without, length-without, resting_as, live-placed}
use Rattle.plain_book.proofs.Sorted.{IsInserted, inserted-length, put-in, book-order}
use Rattle.plain_book.proofs.Calls as calls
use Rattle.plain_book.proofs.Tops.{at-slot}
use Rattle.order_pool.specs.Queues as pool
use Rattle.order_pool.specs.Queues.{HasSlot, IsIn, NoRepeat, SlotsDiffer, without_slot, with_entry}
use Rattle.price_level.specs.declared.row.LevelRow.{LevelRow}
use Rattle.book_side.specs.declared.tops.SideTops.{SideTops}
use Rattle.id_table.specs.Ids.{Ids}
use Rattle.book_side.proofs.LevelOf.{held, same-lists, summed-as, IsHere, is-here}
use Rattle.book_side.proofs.Ids.{is_same_name}
use Rattle.price_level.specs.Rows.{Rows, AreRows, level_of_row, HasQueue, row_of, with_sums}
use Rattle.book_side.specs.Inner.Flat.{flat, queues_of}
use Rattle.book_side.specs.Inner.Content.{Held, marked, resting_of, waiting_of, book_of, top_at}
use Rattle.book_side.specs.Inner.Linked.{IsSummed, IsLinked, IsTopOf}
use Rattle.book_side.specs.Inner.Steps.{IsTopDropped}
use Rattle.book_side.proofs.Flat.{flat-placed, only-row, at-row, AreAt, IsLevelOf}
use Rattle.book_side.proofs.Pools.{at-with_entry, at-appended, at-others, at-removed}
use Rattle.book_side.proofs.Pools as queues
use Rattle.book_side.proofs.Slots.{without_slot-none, sum-without_slot, length-without_slot, rests-alone}
use Rattle.book_side.proofs.Looks.{all-marked}
use Rattle.book_side.proofs.Setting.{level-held}
use Rattle.book_side.proofs.Placing.{queues-summed, has-summed, all-summed}
use Rattle.book_side.proofs.Names.{inserted-named, inserted-side, top-through}
use Rattle.book_side.proofs.Leaving.{drop-own, resting-without, tops-without, left-named}

-- the order that went to the end is another now
entry-pushed : (s : ℕ) (x o : Order) (hs : List Held) → with_entry s o (without_slot s hs ++ (s, x) ∷ []) ≡ without_slot s hs ++ (s, o) ∷ []
entry-pushed s x o [] = ap (λ (b : Bool). (let h : Held = (s, cond b o x) in h) ∷ []) (same s)
entry-pushed s x o (h ∷ hs) =
    let rest = without_slot s hs in
    elim (eqb_tells h.0 s) [
      | inl t ↦
          ap (λ (b : Bool). with_entry s o (cond (not b) (h ∷ rest) rest ++ (s, x) ∷ [])) t.0
          ∙ entry-pushed s x o hs
          ∙ sym (ap (λ (b : Bool). cond (not b) (h ∷ rest) rest ++ (s, o) ∷ []) t.0)
      | inr t ↦
          ap (λ (b : Bool). with_entry s o (cond (not b) (h ∷ rest) rest ++ (s, x) ∷ [])) t.0
          ∙ ap (λ (b : Bool). (let y : Held = (h.0, cond b o h.1) in y) ∷ with_entry s o (rest ++ (s, x) ∷ [])) t.0
          ∙ ap (λ (l : List Held). h ∷ l) (entry-pushed s x o hs)
          ∙ sym (ap (λ (b : Bool). cond (not b) (h ∷ rest) rest ++ (s, o) ∷ []) t.0)
    ]

entry-without : (s : ℕ) (o : Order) (hs : List Held) → with_entry s o (without_slot s hs) ≡ without_slot s hs
entry-without s o [] = refl
entry-without s o (h ∷ hs) =
    let rest = without_slot s hs in
    elim (eqb_tells h.0 s) [
      | inl t ↦
          ap (λ (b : Bool). with_entry s o (cond (not b) (h ∷ rest) rest)) t.0
          ∙ entry-without s o hs
          ∙ sym (ap (λ (b : Bool). cond (not b) (h ∷ rest) rest) t.0)
      | inr t ↦
          ap (λ (b : Bool). with_entry s o (cond (not b) (h ∷ rest) rest)) t.0
          ∙ ap (λ (b : Bool). (let y : Held = (h.0, cond b o h.1) in y) ∷ with_entry s o rest) t.0
          ∙ ap (λ (l : List Held). h ∷ l) (entry-without s o hs)
          ∙ sym (ap (λ (b : Bool). cond (not b) (h ∷ rest) rest) t.0)
    ]

push-marked : (U : ℕ → Side → Option ℕ) (h : Held) (hs : List Held) → map (marked U) (hs ++ h ∷ []) ≡ map (marked U) hs ++ marked U h ∷ []
push-marked U h [] = refl
push-marked U h (x ∷ hs) = ap (λ (l : List Entry). marked U x ∷ l) (push-marked U h hs)

-- the slot of its own name
pub own-slot : (s : ℕ) (es : List Entry) (o : Order) → orders.HasSlot s es → orders.order_of s es ≡ o → AllByRecursion (λ (e : Entry). is_named o.firm o.id e ≡ false) (without s es) → slot_named o.firm o.id es ≡ Some s
own-slot s [] o h is a = absurd h
own-slot s (e ∷ es) o h is a =
    let rest = filter (is_named o.firm o.id) es in
    elim (eqb_tells e.slot s) [
      | inl t ↦
          let eo : e.order ≡ o = sym (ap (λ (b : Bool). cond b e.order (orders.order_of s es)) t.0) ∙ is in
          let yes : is_named o.firm o.id e ≡ true =
          ap (λ (x : Order). is_named o.firm o.id (record e { order = x })) eo ∙ ap (λ (b : Bool). b && bytes_eq o.id o.id) (same o.firm) ∙ (bytes_eq-Decides o.id o.id).1 refl in
          ap (λ (b : Bool). slot_of (cond b (e ∷ rest) rest)) yes ∙ ap (λ (m : ℕ). Some m) t.1
      | inr t ↦
          let k : AllByRecursion (λ (x : Entry). is_named o.firm o.id x ≡ false) (e ∷ without s es) = subst (λ (b : Bool). AllByRecursion (λ (x : Entry). is_named o.firm o.id x ≡ false) (cond (not b) (e ∷ without s es) (without s es))) t.0 a in
          ap (λ (b : Bool). slot_of (cond b (e ∷ rest) rest)) k.0
          ∙ own-slot s es o (elim h [ inl x ↦ absurd (t.1 x) | inr x ↦ x ]) (sym (ap (λ (b : Bool). cond b e.order (orders.order_of s es)) t.0) ∙ is) k.1
    ]

module _ (c n : ℕ) (p p1 p' : pool.Queues) (ids : Ids) (lv lv2 : Rows) (tops tops' : List SideTops) (k : IsLinked c n p ids lv tops) (s q : ℕ) (old o : Order) where
  abbrev book : Book
  book = book_of c n tops p.queues lv.rows

  abbrev newcomer : Entry
  newcomer = record { slot = s; order = o; is_top = false }

  abbrev one : List Entry
  one = without s book.resting

  abbrev back_book : Book
  back_book = resting_as book (placed newcomer one)

  module _ (has : orders.HasSlot s book.resting) (is_order : old ≡ orders.order_of s book.resting) (differ : SlotsDiffer p) (at : IsIn p s q) (rules : AreRows lv)
      (back : p1 ≡ record p { queues = pool.appended q (s, pool.order_of s (held p q)) (pool.removed s p.queues) }) (back_live : pool.live_of p1 ≡ pool.live_of p)
      (set : p' ≡ record p1 { queues = map (with_entry s o) p1.queues }) (set_live : pool.live_of p' ≡ pool.live_of p1)
      (same_level : level_of o ≡ level_of old) (same_firm : o.firm ≡ old.firm) (same_id : o.id ≡ old.id)
      (a b d : ℕ) (summed : lv2 ≡ record lv { rows = with_sums q a b d lv.rows })
      (ea : a ≡ (row_of q lv.rows).count) (eb : b + old.shown ≡ (row_of q lv.rows).shown + o.shown) (ed : d + old.leaves ≡ (row_of q lv.rows).leaves + o.leaves)
      (long : length tops' ≡ length tops) (drop : IsTopDropped s old tops tops') (right : IsRight back_book) where
    abbrev R : LevelRow
    R = row_of q lv.rows

    many-removed : length (pool.removed s p.queues) ≡ length p.queues
    many-removed = length-map p.queues (without_slot s)

    here : held p' q ≡ without_slot s (held p q) ++ (s, o) ∷ []
    here =
        ap (λ (x : pool.Queues). pool.entries_at x.queues q) set ∙ at-with_entry s o p1.queues q
        ∙ ap (λ (x : pool.Queues). with_entry s o (pool.entries_at x.queues q)) back
        ∙ ap (with_entry s o) (at-appended q (s, pool.order_of s (held p q)) (pool.removed s p.queues) (omega (arith, many-removed, at.0)) ∙ ap (λ (l : List Held). l ++ (s, pool.order_of s (held p q)) ∷ []) (at-removed s p.queues q))
        ∙ entry-pushed s (pool.order_of s (held p q)) o (held p q)

    there : (r : ℕ) → r ≢ q → held p' r ≡ without_slot s (held p r)
    there r ne =
        ap (λ (x : pool.Queues). pool.entries_at x.queues r) set ∙ at-with_entry s o p1.queues r
        ∙ ap (λ (x : pool.Queues). with_entry s o (pool.entries_at x.queues r)) back
        ∙ ap (with_entry s o) (at-others q r (s, pool.order_of s (held p q)) (pool.removed s p.queues) ne ∙ at-removed s p.queues r)
        ∙ entry-without s o (held p r)

    it : IsHere c p lv tops s q
    it = is-here k s q has differ at rules

    others : (r : ℕ) → r ≢ q → held p' r ≡ held p r
    others r ne = there r ne ∙ without_slot-none s (held p r) (rests-alone p (top_at tops) lv.rows s differ q at r ne)

    order-is : pool.order_of s (held p q) ≡ old
    order-is = sym it.order ∙ sym is_order

    level-row : level_of o ≡ level_of_row R
    level-row =
        same_level ∙ ap level_of (sym order-is)
        ∙ level-held s (level_of_row R) (held p q) at.1 (subst (λ (l : List Held). AllByRecursion (λ (h : Held). level_of h.1 ≡ level_of_row R) l) it.queue it.summed.at)

    -- ---- the view

    resting-is : resting_of (top_at tops') (held p') lv2.rows ≡ placed newcomer one
    resting-is =
        let U = top_at tops' in
        let E1 : ℕ → List Entry = λ r. map (marked U) (without_slot s (held p r)) in
        let E' : ℕ → List Entry = λ r. map (marked U) (held p' r) in
        let top_is : is_slot_in (U o.instrument o.side) s ≡ false =
        ap (λ (l : Level). is_slot_in (U l.instrument l.side) s) same_level ∙ drop-own tops tops' s old drop in
        let mark : marked U (s, o) ≡ newcomer = ap (λ (t : Bool). let e : Entry = record { slot = s; order = o; is_top = t } in e) top_is in
        let at1 : (r : LevelRow) → IsSummed (held p) r → AreAt E1 r = λ r h.
        all-marked U (λ (x : Held). level_of x.1 ≡ level_of_row r) (λ (e : Entry). level_of e.order ≡ level_of_row r) (λ x l. l) (without_slot s (held p r.queue)) (all-filter (λ (x : Held). level_of x.1 ≡ level_of_row r) (λ x. not (x.0 == s)) (held p r.queue) h.at) in
        let levels : AllByRecursion (IsLevelOf q (level_of o)) lv.rows = all-with (λ (r : LevelRow). r.queue ≡ q → r ≡ R) (IsLevelOf q (level_of o)) (λ r h e. ap level_of_row (h e) ∙ sym level-row) lv.rows (only-row q lv.rows rules.apart) in
        ap (λ (x : Rows). resting_of U (held p') x.rows) summed ∙ ap (flat E') (queues-summed q a b d lv.rows)
        ∙ sym (flat-placed E1 E' (marked U (s, o)) q (ap (λ (l : List Held). map (marked U) l) here ∙ push-marked U (s, o) (without_slot s (held p q))) (λ r ne. ap (λ (l : List Held). map (marked U) l) (there r ne)) lv.rows rules.apart it.rests.is_row levels
        (all-with (IsSummed (held p)) (AreAt E1) at1 lv.rows k.summed))
        ∙ ap (λ (e : Entry). placed e (flat E1 (queues_of lv.rows))) mark
        ∙ ap (placed newcomer) (resting-without tops tops' s old drop (held p) lv.rows)

    waiting-is : waiting_of (held p') c n ≡ waiting_of (held p) c n
    waiting-is = queues.waiting-same (held p) (held p') c n (λ r le. others r (λ e. let lt : q < c = it.below in absurd (omega arith)))

    pub back-view : book_of c n tops' p'.queues lv2.rows ≡ back_book
    back-view =
        same-lists c n resting-is waiting-is

    -- ---- the lists

    ordered-one : EachPair AreInBookOrder one
    ordered-one = pairs-filter AreInBookOrder (other_slot s) book.resting k.right.ordered

    inserted : IsInserted newcomer (live_orders (resting_as book one)) (live_orders back_book)
    inserted = live-placed (resting_as book one) newcomer ordered-one

    has-live : orders.HasSlot s (live_orders book)
    has-live = HasSlot-left s book.resting book.waiting has

    live-one : live_orders (resting_as book one) ≡ without s (live_orders book)
    live-one = ap live_orders (sym (calls.rests-alone book k.right s has)) ∙ live-without s book

    same-length : length (live_orders (book_of c n tops' p'.queues lv2.rows)) ≡ length (live_orders book)
    same-length = omega (arith, ap (λ (x : Book). length (live_orders x)) back-view, inserted-length inserted, ap (λ (l : List Entry). length l) live-one, length-without s (live_orders book) k.right.differ has-live)

    old-live : orders.order_of s (live_orders book) ≡ old
    old-live = order_of-left s book.resting book.waiting has ∙ sym is_order

    none-named : AllByRecursion (λ (e : Entry). is_named old.firm old.id e ≡ false) (without s (live_orders book))
    none-named = subst (λ (x : Order). AllByRecursion (λ (e : Entry). is_named x.firm x.id e ≡ false) (without s (live_orders book))) old-live (unnamed-without s (live_orders book) k.right.named has-live)

    unnamed-one : AllByRecursion (λ (e : Entry). is_named o.firm o.id e ≡ false) (live_orders (resting_as book one))
    unnamed-one =
        subst (AllByRecursion (λ (e : Entry). is_named o.firm o.id e ≡ false)) (sym live-one)
        (subst (λ (x : ℕ). AllByRecursion (λ (e : Entry). is_named x o.id e ≡ false) (without s (live_orders book))) (sym same_firm) (subst (λ (x : List ℕ). AllByRecursion (λ (e : Entry). is_named old.firm x e ≡ false) (without s (live_orders book))) (sym same_id) none-named))

    names-same : (f : ℕ) (i : List ℕ) → slot_named f i (live_orders back_book) ≡ slot_named f i (live_orders book)
    names-same f i =
        let es = live_orders book in
        let L = slot_named f i es in
        let now : slot_named f i (live_orders back_book) ≡ cond (is_same_name old.firm old.id f i) (Some s) (slot_named f i (without s es)) =
        inserted-named newcomer (live_orders (resting_as book one)) (live_orders back_book) inserted unnamed-one f i
        ∙ ap (λ (l : List Entry). cond (is_named f i newcomer) (Some s) (slot_named f i l)) live-one
        ∙ ap (λ (x : ℕ). cond (is_same_name x o.id f i) (Some s) (slot_named f i (without s es))) same_firm
        ∙ ap (λ (x : List ℕ). cond (is_same_name old.firm x f i) (Some s) (slot_named f i (without s es))) same_id in
        let gone : slot_named f i (without s es) ≡ cond (is_same_name old.firm old.id f i) None L =
        left-named s book k.right has-live f i ∙ ap (λ (x : Order). cond (is_same_name x.firm x.id f i) None L) old-live in
        let go : (t : Bool) → is_same_name old.firm old.id f i ≡ t → cond t (Some s) (cond t None L) ≡ L = elim [
          | true ↦ λ t.
              let ef : old.firm ≡ f = (Decides-eqb old.firm f).0 (and-left _ _ t) in
              let ei : old.id ≡ i = (bytes_eq-Decides old.id i).0 (and-right (old.firm == f) _ t) in
              sym (ap (λ (x : ℕ). slot_named x i es) (sym ef) ∙ ap (λ (x : List ℕ). slot_named old.firm x es) (sym ei) ∙ own-slot s es old has-live old-live none-named)
          | false ↦ λ _. refl
        ] in
        now ∙ ap (λ (m : Option ℕ). cond (is_same_name old.firm old.id f i) (Some s) m) gone ∙ go (is_same_name old.firm old.id f i) refl

    pub back-linked : IsLinked c n p' ids lv2 tops'
    back-linked =
        let A : LevelRow → Type 0 = λ (r : LevelRow). IsSummed (held p) r × (r.queue ≡ q → r ≡ R) in
        let norep : NoRepeat (held p q) = differ.within q at.0 in
        record {
          slots = ap (λ (x : pool.Queues). x.capacity) set ∙ ap (λ (x : pool.Queues). x.capacity) back ∙ k.slots;
          many = ap (λ (x : pool.Queues). length x.queues) set ∙ length-map p1.queues (with_entry s o) ∙ ap (λ (x : pool.Queues). length x.queues) back
              ∙ length-set (pool.removed s p.queues) q (pool.entries_at (pool.removed s p.queues) q ++ (s, pool.order_of s (held p q)) ∷ []) ∙ many-removed ∙ k.many;
          level_room = ap (λ (x : Rows). x.capacity) summed ∙ k.level_room;
          listed = ap (λ (x : Rows). x.instruments) summed ∙ k.listed;
          id_room = k.id_room;
          sides = long ∙ k.sides;
          fits = k.fits;
          right = subst IsRight (sym back-view) right;
          summed = subst (λ (x : Rows). AllByRecursion (IsSummed (held p')) x.rows) (sym summed) (all-summed A (IsSummed (held p')) q a b d
              (λ r h e.
              let is : r ≡ R = h.1 e in
              let to : held p' r.queue ≡ without_slot s (held p q) ++ (s, o) ∷ [] = ap (held p') e ∙ here in
              let lv_is : level_of_row R ≡ level_of_row r = ap level_of_row (sym is) in
              let old_at : AllByRecursion (λ (h : Held). level_of h.1 ≡ level_of_row r) (held p q) = subst (λ (x : ℕ). AllByRecursion (λ (h : Held). level_of h.1 ≡ level_of_row r) (held p x)) e h.0.at in
              record {
                at = subst (AllByRecursion (λ (x : Held). level_of x.1 ≡ level_of_row r)) (sym to)
                    (all-append (λ (x : Held). level_of x.1 ≡ level_of_row r) (without_slot s (held p q)) ((s, o) ∷ []) (all-filter (λ (x : Held). level_of x.1 ≡ level_of_row r) (λ x. not (x.0 == s)) (held p q) old_at) (level-row ∙ lv_is, tt));
                count = omega (arith, ea, it.summed.count, ap (λ (l : List Held). length l) it.queue, ap (λ (l : List Held). length l) to, length-append (without_slot s (held p q)) ((s, o) ∷ []), length-without_slot s (held p q) at.1 norep);
                shown = omega (arith, eb, it.summed.shown, ap (λ (l : List Held). sum_by (λ (y : Held). y.1.shown) l) it.queue, ap (λ (l : List Held). sum_by (λ (y : Held). y.1.shown) l) to, sum_by_push (λ (y : Held). y.1.shown) (without_slot s (held p q)) (s, o), sum-without_slot (λ (y : Order). y.shown) s (held p q) at.1 norep, ap (λ (x : Order). x.shown) order-is);
                leaves = omega (arith, ed, it.summed.leaves, ap (λ (l : List Held). sum_by (λ (y : Held). y.1.leaves) l) it.queue, ap (λ (l : List Held). sum_by (λ (y : Held). y.1.leaves) l) to, sum_by_push (λ (y : Held). y.1.leaves) (without_slot s (held p q)) (s, o), sum-without_slot (λ (y : Order). y.leaves) s (held p q) at.1 norep, ap (λ (x : Order). x.leaves) order-is);
              })
              (λ r h ne. summed-as (held p) (held p') r (others r.queue ne) h.0)
              lv.rows (all-both (IsSummed (held p)) (λ (r : LevelRow). r.queue ≡ q → r ≡ R) lv.rows k.summed (only-row q lv.rows rules.apart)));
          some = subst (λ (x : Rows). AllByRecursion (λ (r : LevelRow). 1 ≤ r.count) x.rows) (sym summed)
              (all-summed (λ (r : LevelRow). 1 ≤ r.count) (λ (r : LevelRow). 1 ≤ r.count) q a b d (λ r h e. let first : 1 ≤ R.count = at-row (λ (x : LevelRow). 1 ≤ x.count) q lv.rows it.rests.is_row k.some in let l : 1 ≤ a = omega (arith, first, ea) in l) (λ r h ne. h) lv.rows k.some);
          unused = λ r lt h.
              let none : HasQueue r lv.rows → ⊥ = λ g. h (subst (λ (x : Rows). HasQueue r x.rows) (sym summed) (has-summed q a b d r lv.rows g)) in
              others r (λ e. none (subst (λ (m : ℕ). HasQueue m lv.rows) (sym e) it.rests.is_row)) ∙ k.unused r lt none;
          stops = λ i lt. subst (AllByRecursion (λ (h : Held). h.1.instrument ≡ i)) (sym (others (c + i) (λ e. let l : q < c = it.below in absurd (omega arith)))) (k.stops i lt);
          top = λ i dd. subst (λ (l : List Entry). IsTopOf (top_at tops' i dd) (side_of i dd l)) (sym resting-is)
              (top-through (top_at tops' i dd) (side_of i dd one) (side_of i dd (placed newcomer one)) (λ t h. inserted-side newcomer one (placed newcomer one) resting-inserted i dd t h)
              (tops-without tops tops' s old drop book.resting (at-slot (λ (x : Order). level_of old ≡ level_of x) s book.resting (AllDiffer-front book.resting book.waiting k.right.differ) (ap level_of is_order)) k.top i dd));
          live = set_live ∙ back_live ∙ k.live ∙ sym same-length;
          count = k.count ∙ sym same-length;
          named = λ f i. k.named f i ∙ sym (ap (λ (x : Book). slot_named f i (live_orders x)) back-view ∙ names-same f i);
        }
      where
        resting-inserted : IsInserted newcomer one (placed newcomer one)
        resting-inserted = let r = put-in is_at_earlier_level book-order newcomer one ordered-one in record { front = r.front; back = r.back; whole = r.whole; is = r.place }
