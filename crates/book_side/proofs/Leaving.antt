-- An order that leaves its level, and one that goes after the others of its level.
use Rattle.std.proofs.Common.{◌≡◌, ◌≢◌, ℕ, ◌+◌, ◌-◌, ◌<◌, ◌≤◌, Bool, true, false, cond, not, ◌&&◌, List, [], ◌∷◌, map, filter, length, refl, sym, ap, subst, ◌∙◌, arith, inl, inr, ◌⊎◌}
use Rattle.std.proofs.lemmas.Bool.Decides.{eqb_tells, Decides-eqb}
use Rattle.std.proofs.lemmas.List.{length-map}
use Rattle.std.proofs.lemmas.Slice.Eq.{bytes_eq-Decides}
use Rattle.std.specs.Prelude.{◌==◌, bytes_eq, Option, None, Some, sum_by}
use Rattle.std.specs.List.{AllByRecursion}
use Rattle.gx_base.specs.declared.order.Order.{Order}
use Rattle.gx_base.specs.declared.order.Side.{Side}
use Rattle.plain_book.specs.declared.entry.Entry.{Entry}
use Rattle.plain_book.specs.Orders as orders
use Rattle.plain_book.specs.Orders.{Level, level_of, is_on, is_side, is_named, side_of, slot_of, slot_named, is_slot_in, without}
use Rattle.plain_book.specs.Book.{Book, live_orders, IsRight, book_without}
use Rattle.plain_book.proofs.Levels.{AllDiffer-front, HasSlot-left, order_of-left, and-left, and-right, is_side-same, same, is_side-refl}
use Rattle.plain_book.proofs.Pairs.{all-both, all-filter, none-any}
use Rattle.plain_book.proofs.Live.{orders-at, unnamed-none}
use Rattle.plain_book.proofs.Named.{unnamed-without}
use Rattle.plain_book.proofs.Right.{other_slot, live-without, length-without, right-without}
use Rattle.plain_book.proofs.Calls as calls
use Rattle.plain_book.proofs.Tops.{at-slot}
use Rattle.order_pool.specs.Queues as pool
use Rattle.order_pool.specs.Queues.{HasSlot, IsIn, NoRepeat, SlotsDiffer, without_slot}
use Rattle.price_level.specs.declared.row.LevelRow.{LevelRow}
use Rattle.book_side.specs.declared.tops.SideTops.{SideTops}
use Rattle.id_table.specs.Ids.{Ids}
use Rattle.book_side.proofs.LevelOf.{held, same-lists, summed-as, IsHere, is-here}
use Rattle.book_side.proofs.Ids.{looked_up, count_of}
use Rattle.book_side.proofs.Ids.{is_same_name}
use Rattle.price_level.specs.Rows.{Rows, AreRows, level_of_row, HasQueue, row_of, without_row}
use Rattle.book_side.specs.Inner.Flat.{flat, queues_of}
use Rattle.book_side.specs.Inner.Content.{Held, marked, resting_of, waiting_of, book_of, top_at}
use Rattle.book_side.specs.Inner.Linked.{IsSummed, IsLinked, IsTopOf}
use Rattle.book_side.specs.Inner.Steps.{dropped, IsTopDropped, lowered, rows_left}
use Rattle.book_side.proofs.Flat.{flat-filter, flat-same, flat-without, only-row, at-row}
use Rattle.book_side.proofs.Pools.{at-removed}
use Rattle.book_side.proofs.Pools as queues
use Rattle.book_side.proofs.Slots.{without_slot-none, sum-without_slot, length-without_slot, rests-alone}
use Rattle.book_side.proofs.Placing.{queues-summed, has-summed, all-summed}
use Rattle.book_side.proofs.Names.{names-none}

-- ---- TOP

dropped-other : (s x : ℕ) → x ≢ s → (t : Option ℕ) → is_slot_in (dropped s t) x ≡ is_slot_in t x
dropped-other s x n None = refl
dropped-other s x n (Some t) = elim (eqb_tells t s) [
  | inl e ↦
      ap (λ (b : Bool). is_slot_in (cond b None (Some t)) x) e.0
      ∙ sym (elim (eqb_tells x t) [ inl y ↦ absurd (n (y.1 ∙ e.1)) | inr y ↦ y.0 ])
  | inr e ↦ ap (λ (b : Bool). is_slot_in (cond b None (Some t)) x) e.0
]

pub dropped-own : (s : ℕ) (t : Option ℕ) → is_slot_in (dropped s t) s ≡ false
dropped-own s None = refl
dropped-own s (Some t) = elim (eqb_tells t s) [
  | inl e ↦ ap (λ (b : Bool). is_slot_in (cond b None (Some t)) s) e.0
  | inr e ↦
      ap (λ (b : Bool). is_slot_in (cond b None (Some t)) s) e.0
      ∙ elim (eqb_tells s t) [ inl y ↦ absurd (e.1 (sym y.1)) | inr y ↦ y.0 ]
]

module _ (old new : List SideTops) (s : ℕ) (o : Order) (drop : IsTopDropped s o old new) where
  pub drop-other : (i : ℕ) (d : Side) (x : ℕ) → x ≢ s → is_slot_in (top_at new i d) x ≡ is_slot_in (top_at old i d) x
  drop-other i d x n =
      let a : (i == o.instrument) ≡ true → i ≡ o.instrument = (Decides-eqb i o.instrument).0 in
      let go : (b : Bool) → ((i == o.instrument) && is_side d o.side) ≡ b → is_slot_in (cond b (dropped s (top_at old o.instrument o.side)) (top_at old i d)) x ≡ is_slot_in (top_at old i d) x = elim [
        | true ↦ λ on.
            dropped-other s x n (top_at old o.instrument o.side)
            ∙ ap (λ (j : ℕ). is_slot_in (top_at old j o.side) x) (sym (a (and-left _ _ on)))
            ∙ ap (λ (e : Side). is_slot_in (top_at old i e) x) (sym (is_side-same _ _ (and-right (i == o.instrument) _ on)))
        | false ↦ λ _. refl
      ] in ap (λ (t : Option ℕ). is_slot_in t x) (drop i d) ∙ go ((i == o.instrument) && is_side d o.side) refl

  pub drop-own : is_slot_in (top_at new o.instrument o.side) s ≡ false
  drop-own =
      let on : ((o.instrument == o.instrument) && is_side o.side o.side) ≡ true = ap (λ (b : Bool). b && is_side o.side o.side) (same o.instrument) ∙ is_side-refl o.side in
      ap (λ (t : Option ℕ). is_slot_in t s) (drop o.instrument o.side ∙ ap (λ (b : Bool). cond b (dropped s (top_at old o.instrument o.side)) (top_at old o.instrument o.side)) on)
      ∙ dropped-own s (top_at old o.instrument o.side)

  marks-other : (h : Held) → h.0 ≢ s → marked (top_at new) h ≡ marked (top_at old) h
  marks-other h n = ap (λ (b : Bool). let e : Entry = record { slot = h.0; order = h.1; is_top = b } in e) (drop-other h.1.instrument h.1.side h.0 n)

  pub marks-without : (hs : List Held) → map (marked (top_at new)) (without_slot s hs) ≡ without s (map (marked (top_at old)) hs)
  marks-without [] = refl
  marks-without (h ∷ hs) =
      let rest = without s (map (marked (top_at old)) hs) in
      elim (eqb_tells h.0 s) [
        | inl t ↦
            ap (λ (b : Bool). map (marked (top_at new)) (cond (not b) (h ∷ without_slot s hs) (without_slot s hs))) t.0
            ∙ marks-without hs
            ∙ sym (ap (λ (b : Bool). cond (not b) (marked (top_at old) h ∷ rest) rest) t.0)
        | inr t ↦
            ap (λ (b : Bool). map (marked (top_at new)) (cond (not b) (h ∷ without_slot s hs) (without_slot s hs))) t.0
            ∙ ap (λ (e : Entry). e ∷ map (marked (top_at new)) (without_slot s hs)) (marks-other h t.1)
            ∙ ap (λ (l : List Entry). marked (top_at old) h ∷ l) (marks-without hs)
            ∙ sym (ap (λ (b : Bool). cond (not b) (marked (top_at old) h ∷ rest) rest) t.0)
      ]

  pub resting-without : (P : ℕ → List Held) (rs : List LevelRow) → flat (λ r. map (marked (top_at new)) (without_slot s (P r))) (queues_of rs) ≡ without s (resting_of (top_at old) P rs)
  resting-without P rs =
      flat-same (λ r. map (marked (top_at new)) (without_slot s (P r))) (λ r. without s (map (marked (top_at old)) (P r))) (queues_of rs) (λ r. marks-without (P r))
      ∙ sym (flat-filter (other_slot s) (λ r. map (marked (top_at old)) (P r)) (queues_of rs))

side-without : (i : ℕ) (d : Side) (s t : ℕ) (es : List Entry) → t ≢ s → orders.HasSlot t (side_of i d es) → orders.HasSlot t (side_of i d (without s es))
side-without i d s t [] n h = h
side-without i d s t (e ∷ es) n h =
    let go : (a b : Bool) → is_on i d e ≡ a → (e.slot == s) ≡ b → orders.HasSlot t (cond a (e ∷ side_of i d es) (side_of i d es)) → orders.HasSlot t (side_of i d (cond (not b) (e ∷ without s es) (without s es))) = elim [
      | true ↦ elim [
        | true ↦ λ on is k. elim k [ inl x ↦ absurd (n (sym x ∙ (Decides-eqb e.slot s).0 is)) | inr x ↦ side-without i d s t es n x ]
        | false ↦ λ on is k.
            subst (λ (b : Bool). orders.HasSlot t (cond b (e ∷ side_of i d (without s es)) (side_of i d (without s es)))) (sym on)
            (elim (let q : (e.slot ≡ t) ⊎ orders.HasSlot t (side_of i d es) = k in q) [ inl x ↦ inl x | inr x ↦ inr (side-without i d s t es n x) ])
      ]
      | false ↦ elim [
        | true ↦ λ on is k. side-without i d s t es n k
        | false ↦ λ on is k.
            subst (λ (b : Bool). orders.HasSlot t (cond b (e ∷ side_of i d (without s es)) (side_of i d (without s es)))) (sym on) (side-without i d s t es n k)
      ]
    ] in go (is_on i d e) (e.slot == s) refl refl h

-- an order of a side is on it
side-level : (i : ℕ) (d : Side) (s : ℕ) (o : Order) (es : List Entry) → AllByRecursion (λ (e : Entry). e.slot ≡ s → level_of o ≡ level_of e.order) es → orders.HasSlot s (side_of i d es) → ((o.instrument == i) && is_side o.side d) ≡ true
side-level i d s o [] a h = absurd h
side-level i d s o (e ∷ es) a h =
    let go : (b : Bool) → is_on i d e ≡ b → orders.HasSlot s (cond b (e ∷ side_of i d es) (side_of i d es)) → ((o.instrument == i) && is_side o.side d) ≡ true = elim [
      | true ↦ λ on k. elim k [ inl x ↦ ap (λ (l : Level). (l.instrument == i) && is_side l.side d) (a.0 x) ∙ on | inr x ↦ side-level i d s o es a.1 x ]
      | false ↦ λ on k. side-level i d s o es a.1 k
    ] in go (is_on i d e) refl h

flip-on : (i j : ℕ) (d e : Side) → ((j == i) && is_side e d) ≡ true → ((i == j) && is_side d e) ≡ true
flip-on i j d e h =
    let x : j ≡ i = (Decides-eqb j i).0 (and-left _ _ h) in
    let y : e ≡ d = is_side-same _ _ (and-right (j == i) _ h) in
    let on : ((i == i) && is_side d d) ≡ true = ap (λ (b : Bool). b && is_side d d) (same i) ∙ is_side-refl d in
    ap (λ (z : ℕ). (i == z) && is_side d e) x ∙ ap (λ (z : Side). (i == i) && is_side d z) y ∙ on

pub tops-without : (old new : List SideTops) (s : ℕ) (o : Order) → IsTopDropped s o old new → (es : List Entry) → AllByRecursion (λ (e : Entry). e.slot ≡ s → level_of o ≡ level_of e.order) es → ((i : ℕ) (d : Side) → IsTopOf (top_at old i d) (side_of i d es))
    → (i : ℕ) (d : Side) → IsTopOf (top_at new i d) (side_of i d (without s es))
tops-without old new s o drop es lv tops i d =
    let keep : (t : Option ℕ) → IsTopOf t (side_of i d es) → IsTopOf (dropped s t) (side_of i d (without s es)) = elim [
      | None ↦ λ _. tt
      | Some x ↦ λ h.
          elim (eqb_tells x s) [
            | inl e ↦ subst (λ (b : Bool). IsTopOf (cond b None (Some x)) (side_of i d (without s es))) (sym e.0) tt
            | inr e ↦ subst (λ (b : Bool). IsTopOf (cond b None (Some x)) (side_of i d (without s es))) (sym e.0) (side-without i d s x es e.1 h)
          ]
    ] in
    let off : ((i == o.instrument) && is_side d o.side) ≡ false → (t : Option ℕ) → IsTopOf t (side_of i d es) → IsTopOf t (side_of i d (without s es)) = λ f. elim [
      | None ↦ λ _. tt
      | Some x ↦ λ h. side-without i d s x es (λ e. absurd (let z : true ≡ false = sym (flip-on i o.instrument d o.side (side-level i d s o es lv (subst (λ (y : ℕ). orders.HasSlot y (side_of i d es)) e h))) ∙ f in cc)) h
    ] in
    let go : (b : Bool) → ((i == o.instrument) && is_side d o.side) ≡ b → IsTopOf (cond b (dropped s (top_at old o.instrument o.side)) (top_at old i d)) (side_of i d (without s es)) = elim [
      | true ↦ λ on.
          let a : i ≡ o.instrument = (Decides-eqb i o.instrument).0 (and-left _ _ on) in
          let b : d ≡ o.side = is_side-same _ _ (and-right (i == o.instrument) _ on) in
          subst (λ (j : ℕ). IsTopOf (dropped s (top_at old j o.side)) (side_of i d (without s es))) a (subst (λ (e : Side). IsTopOf (dropped s (top_at old i e)) (side_of i d (without s es))) b (keep (top_at old i d) (tops i d)))
      | false ↦ λ f. off f (top_at old i d) (tops i d)
    ] in subst (λ (t : Option ℕ). IsTopOf t (side_of i d (without s es))) (sym (drop i d)) (go ((i == o.instrument) && is_side d o.side) refl)

-- ---- names

names-without : (s f : ℕ) (i : List ℕ) (es : List Entry) → AllByRecursion (λ (e : Entry). e.slot ≡ s → is_named f i e ≡ false) es → filter (is_named f i) (without s es) ≡ filter (is_named f i) es
names-without s f i [] a = refl
names-without s f i (e ∷ es) a =
    let rest = filter (is_named f i) es in
    elim (eqb_tells e.slot s) [
      | inl t ↦
          ap (λ (b : Bool). filter (is_named f i) (cond (not b) (e ∷ without s es) (without s es))) t.0
          ∙ names-without s f i es a.1
          ∙ sym (ap (λ (b : Bool). cond b (e ∷ rest) rest) (a.0 t.1))
      | inr t ↦
          ap (λ (b : Bool). filter (is_named f i) (cond (not b) (e ∷ without s es) (without s es))) t.0
          ∙ ap (λ (l : List Entry). cond (is_named f i e) (e ∷ l) l) (names-without s f i es a.1)
    ]

pub left-named : (s : ℕ) (b : Book) → IsRight b → orders.HasSlot s (live_orders b) → (f : ℕ) (i : List ℕ)
    → slot_named f i (without s (live_orders b)) ≡ cond (is_same_name (orders.order_of s (live_orders b)).firm (orders.order_of s (live_orders b)).id f i) None (slot_named f i (live_orders b))
left-named s b r h f i =
    let o = orders.order_of s (live_orders b) in
    let es = live_orders b in
    let go : (c : Bool) → is_same_name o.firm o.id f i ≡ c → slot_named f i (without s es) ≡ cond c None (slot_named f i es) = elim [
      | true ↦ λ t.
          let ef : o.firm ≡ f = (Decides-eqb o.firm f).0 (and-left _ _ t) in
          let ei : o.id ≡ i = (bytes_eq-Decides o.id i).0 (and-right (o.firm == f) _ t) in
          ap slot_of (names-none f i (without s es)
          (subst (λ (g : ℕ). AllByRecursion (λ (e : Entry). is_named g i e ≡ false) (without s es)) ef (subst (λ (j : List ℕ). AllByRecursion (λ (e : Entry). is_named o.firm j e ≡ false) (without s es)) ei (unnamed-without s es r.named h))))
      | false ↦ λ t. ap slot_of (names-without s f i es (at-slot (λ (x : Order). is_same_name x.firm x.id f i ≡ false) s es r.differ t))
    ] in go (is_same_name o.firm o.id f i) refl

pub own-name : (s : ℕ) (es : List Entry) → orders.HasSlot s es → slot_named (orders.order_of s es).firm (orders.order_of s es).id es ≡ None → ⊥
own-name s es h e =
    let o = orders.order_of s es in
    let no : is_same_name o.firm o.id o.firm o.id ≡ false = orders-at (λ (x : Order). is_same_name x.firm x.id o.firm o.id ≡ false) s es (none-any (is_named o.firm o.id) es (unnamed-none o.firm o.id es e)) h in
    let yes : is_same_name o.firm o.id o.firm o.id ≡ true = ap (λ (b : Bool). b && bytes_eq o.id o.id) (same o.firm) ∙ (bytes_eq-Decides o.id o.id).1 refl in
    let z : true ≡ false = sym yes ∙ no in absurd (let w : ⊥ = cc in w)

-- ---- levels

has-other : (q p : ℕ) (rs : List LevelRow) → p ≢ q → HasQueue p rs → HasQueue p (without_row q rs)
has-other q p [] n h = h
has-other q p (r ∷ rs) n h = elim (eqb_tells r.queue q) [
  | inl t ↦ subst (λ (b : Bool). HasQueue p (cond (not b) (r ∷ without_row q rs) (without_row q rs))) (sym t.0) (has-other q p rs n (elim h [ inl e ↦ absurd (n (sym e ∙ t.1)) | inr e ↦ e ]))
  | inr t ↦ subst (λ (b : Bool). HasQueue p (cond (not b) (r ∷ without_row q rs) (without_row q rs))) (sym t.0) (elim h [ inl e ↦ inl e | inr e ↦ inr (has-other q p rs n e) ])
]

all-without : (A : LevelRow → Type 0) (q : ℕ) (rs : List LevelRow) → AllByRecursion (λ (r : LevelRow). r.queue ≢ q → A r) rs → AllByRecursion A (without_row q rs)
all-without A q [] h = tt
all-without A q (r ∷ rs) h = elim (eqb_tells r.queue q) [
  | inl t ↦ subst (λ (b : Bool). AllByRecursion A (cond (not b) (r ∷ without_row q rs) (without_row q rs))) (sym t.0) (all-without A q rs h.1)
  | inr t ↦ subst (λ (b : Bool). AllByRecursion A (cond (not b) (r ∷ without_row q rs) (without_row q rs))) (sym t.0) (h.0 t.1, all-without A q rs h.1)
]

level-without : (s : ℕ) (k : Level) (hs : List Held) → AllByRecursion (λ (h : Held). level_of h.1 ≡ k) hs → AllByRecursion (λ (h : Held). level_of h.1 ≡ k) (without_slot s hs)
level-without s k hs a = all-filter (λ (h : Held). level_of h.1 ≡ k) (λ h. not (h.0 == s)) hs a

-- ---- the whole call

module _ (c n : ℕ) (p p' : pool.Queues) (ids ids' : Ids) (lv lv2 : Rows) (tops tops' : List SideTops) (k : IsLinked c n p ids lv tops) (s q : ℕ) (o : Order) where
  abbrev book : Book
  book = book_of c n tops p.queues lv.rows

  module _ (has : orders.HasSlot s book.resting) (is_order : o ≡ orders.order_of s book.resting) (differ : SlotsDiffer p) (at : IsIn p s q) (rules : AreRows lv)
      (left : p' ≡ record p { queues = pool.removed s p.queues }) (live : pool.live_of p' + 1 ≡ pool.live_of p)
      (summed : lv2 ≡ record lv { rows = rows_left q o lv.rows })
      (id_room : ids'.capacity ≡ ids.capacity) (id_count : count_of ids' + 1 ≡ count_of ids) (id_names : (f : ℕ) → (i : List ℕ) → looked_up f i ids' ≡ cond (is_same_name o.firm o.id f i) None (looked_up f i ids))
      (long : length tops' ≡ length tops) (drop : IsTopDropped s o tops tops') where
    abbrev S : List LevelRow
    S = lowered q o lv.rows

    abbrev R : LevelRow
    R = row_of q lv.rows

    each : (r : ℕ) → held p' r ≡ without_slot s (held p r)
    each r = ap (λ (x : pool.Queues). pool.entries_at x.queues r) left ∙ at-removed s p.queues r

    it : IsHere c p lv tops s q
    it = is-here k s q has differ at rules

    others : (r : ℕ) → r ≢ q → held p' r ≡ held p r
    others r ne = each r ∙ without_slot-none s (held p r) (rests-alone p (top_at tops) lv.rows s differ q at r ne)

    order-is : pool.order_of s (held p q) ≡ o
    order-is = sym it.order ∙ sym is_order

    fewer : length (held p' q) + 1 ≡ R.count
    fewer = omega (arith, ap (λ (l : List Held). length l) (each q), length-without_slot s (held p q) at.1 (differ.within q at.0), it.summed.count, ap (λ (l : List Held). length l) it.queue)

    S-summed : AllByRecursion (IsSummed (held p')) S
    S-summed =
        let A : LevelRow → Type 0 = λ (r : LevelRow). IsSummed (held p) r × (r.queue ≡ q → r ≡ R) in
        let norep : NoRepeat (held p q) = differ.within q at.0 in
        all-summed A (IsSummed (held p')) q (R.count - 1) (R.shown - o.shown) (R.leaves - o.leaves)
        (λ r h e.
        let to : held p' r.queue ≡ without_slot s (held p q) = each r.queue ∙ ap (λ (x : ℕ). without_slot s (held p x)) e in
        let from : held p R.queue ≡ held p q = it.queue in
        record {
          at = subst (AllByRecursion (λ (x : Held). level_of x.1 ≡ level_of_row r)) (sym to) (level-without s (level_of_row r) (held p q) (subst (λ (x : ℕ). AllByRecursion (λ (h : Held). level_of h.1 ≡ level_of_row r) (held p x)) e h.0.at));
          count = omega (arith, fewer, ap (λ (x : ℕ). length (held p' x)) e);
          shown = omega (arith, it.summed.shown, ap (λ (l : List Held). sum_by (λ (y : Held). y.1.shown) l) from, ap (λ (l : List Held). sum_by (λ (y : Held). y.1.shown) l) to, sum-without_slot (λ (y : Order). y.shown) s (held p q) at.1 norep, ap (λ (x : Order). x.shown) order-is);
          leaves = omega (arith, it.summed.leaves, ap (λ (l : List Held). sum_by (λ (y : Held). y.1.leaves) l) from, ap (λ (l : List Held). sum_by (λ (y : Held). y.1.leaves) l) to, sum-without_slot (λ (y : Order). y.leaves) s (held p q) at.1 norep, ap (λ (x : Order). x.leaves) order-is);
        })
        (λ r h ne. summed-as (held p) (held p') r (others r.queue ne) h.0)
        lv.rows (all-both (IsSummed (held p)) (λ (r : LevelRow). r.queue ≡ q → r ≡ R) lv.rows k.summed (only-row q lv.rows rules.apart))

    empty : R.count ≡ 1 → held p' q ≡ []
    empty e = none (held p' q) (let z : length (held p' q) ≡ 0 = omega (arith, fewer) in z)
      where
        none : (hs : List Held) → length hs ≡ 0 → hs ≡ []
        none [] z = refl
        none (h ∷ hs) z = absurd (omega arith)

    -- what holds of the levels that are left
    left-by : (A : List LevelRow → Type 0) → (R.count ≡ 1 → A (without_row q S)) → (R.count ≢ 1 → A S) → A lv2.rows
    left-by A f g =
        subst (λ (x : Rows). A x.rows) (sym summed)
        (elim (eqb_tells R.count 1) [
          | inl t ↦ subst (λ (b : Bool). A (cond b (without_row q S) S)) (sym t.0) (f t.1)
          | inr t ↦ subst (λ (b : Bool). A (cond b (without_row q S) S)) (sym t.0) (g t.1)
        ])

    resting-is : resting_of (top_at tops') (held p') lv2.rows ≡ without s book.resting
    resting-is =
        let U = top_at tops' in
        let all : resting_of U (held p') S ≡ without s book.resting =
        ap (flat (λ r. map (marked U) (held p' r))) (queues-summed q (R.count - 1) (R.shown - o.shown) (R.leaves - o.leaves) lv.rows)
        ∙ flat-same (λ r. map (marked U) (held p' r)) (λ r. map (marked U) (without_slot s (held p r))) (queues_of lv.rows) (λ r. ap (λ (l : List Held). map (marked U) l) (each r))
        ∙ resting-without tops tops' s o drop (held p) lv.rows in
        left-by (λ (l : List LevelRow). resting_of U (held p') l ≡ without s book.resting)
        (λ e. flat-without (λ r. map (marked U) (held p' r)) q (ap (λ (l : List Held). map (marked U) l) (empty e)) S ∙ all)
        (λ _. all)

    waiting-is : waiting_of (held p') c n ≡ waiting_of (held p) c n
    waiting-is = queues.waiting-same (held p) (held p') c n (λ r le. others r (λ e. let lt : q < c = it.below in absurd (omega arith)))

    pub left-view : book_of c n tops' p'.queues lv2.rows ≡ book_without s book
    left-view =
        same-lists c n resting-is waiting-is
        ∙ sym (calls.rests-alone book k.right s has)

    has-live : orders.HasSlot s (live_orders book)
    has-live = HasSlot-left s book.resting book.waiting has

    live-is : live_orders (book_of c n tops' p'.queues lv2.rows) ≡ without s (live_orders book)
    live-is = ap live_orders left-view ∙ live-without s book

    one-less : length (live_orders (book_of c n tops' p'.queues lv2.rows)) + 1 ≡ length (live_orders book)
    one-less = omega (arith, ap (λ (l : List Entry). length l) live-is, length-without s (live_orders book) k.right.differ has-live)

    pub left-linked : IsLinked c n p' ids' lv2 tops'
    left-linked =
        let o-live : o ≡ orders.order_of s (live_orders book) = is_order ∙ sym (order_of-left s book.resting book.waiting has) in
        let loose : AllByRecursion (λ (r : LevelRow). r.queue ≢ q → 1 ≤ r.count) S = all-summed (λ (r : LevelRow). 1 ≤ r.count) (λ (r : LevelRow). r.queue ≢ q → 1 ≤ r.count) q (R.count - 1) (R.shown - o.shown) (R.leaves - o.leaves) (λ r h e ne. absurd (ne e)) (λ r h _ _. h) lv.rows k.some in
        record {
          slots = ap (λ (x : pool.Queues). x.capacity) left ∙ k.slots;
          many = ap (λ (x : pool.Queues). length x.queues) left ∙ length-map p.queues (without_slot s) ∙ k.many;
          level_room = ap (λ (x : Rows). x.capacity) summed ∙ k.level_room;
          listed = ap (λ (x : Rows). x.instruments) summed ∙ k.listed;
          id_room = id_room ∙ k.id_room;
          sides = long ∙ k.sides;
          fits = k.fits;
          right = subst IsRight (sym left-view) (right-without book s k.right has-live);
          summed = left-by (AllByRecursion (IsSummed (held p'))) (λ _. all-filter (IsSummed (held p')) (λ r. not (r.queue == q)) S S-summed) (λ _. S-summed);
          some = left-by (AllByRecursion (λ (r : LevelRow). 1 ≤ r.count)) (λ _. all-without (λ (r : LevelRow). 1 ≤ r.count) q S loose)
              (λ many. all-summed (λ (r : LevelRow). 1 ≤ r.count) (λ (r : LevelRow). 1 ≤ r.count) q (R.count - 1) (R.shown - o.shown) (R.leaves - o.leaves) (λ r h e. let one : 1 ≤ R.count = at-row (λ (x : LevelRow). 1 ≤ x.count) q lv.rows it.rests.is_row k.some in let l : 1 ≤ R.count - 1 = omega (arith, one, many) in l) (λ r h _. h) lv.rows k.some);
          unused = λ r lt h. elim (eqb_tells r q) [
            | inl t ↦ left-by (λ (l : List LevelRow). (HasQueue r l → ⊥) → held p' r ≡ []) (λ e _. ap (held p') t.1 ∙ empty e) (λ _ no. absurd (no (has-summed q (R.count - 1) (R.shown - o.shown) (R.leaves - o.leaves) r lv.rows (subst (λ (x : ℕ). HasQueue x lv.rows) (sym t.1) it.rests.is_row)))) h
            | inr t ↦ others r t.1 ∙ k.unused r lt (λ g. let in_S = has-summed q (R.count - 1) (R.shown - o.shown) (R.leaves - o.leaves) r lv.rows g in h (left-by (HasQueue r) (λ _. has-other q r S t.1 in_S) (λ _. in_S)))
          ];
          stops = λ i lt. subst (AllByRecursion (λ (h : Held). h.1.instrument ≡ i)) (sym (others (c + i) (λ e. let l : q < c = it.below in absurd (omega arith)))) (k.stops i lt);
          top = λ i dd. subst (λ (l : List Entry). IsTopOf (top_at tops' i dd) (side_of i dd l)) (sym resting-is)
              (tops-without tops tops' s o drop book.resting (at-slot (λ (x : Order). level_of o ≡ level_of x) s book.resting (AllDiffer-front book.resting book.waiting k.right.differ) (ap level_of is_order)) k.top i dd);
          live = omega (arith, live, k.live, one-less);
          count = omega (arith, id_count, k.count, one-less);
          named = λ f i.
              id_names f i ∙ ap (λ (t : Option ℕ). cond (is_same_name o.firm o.id f i) None t) (k.named f i)
              ∙ ap (λ (x : Order). cond (is_same_name x.firm x.id f i) None (slot_named f i (live_orders book))) o-live
              ∙ sym (left-named s book k.right has-live f i)
              ∙ sym (ap (slot_named f i) live-is);
        }
