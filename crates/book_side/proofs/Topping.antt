-- TOP is read, and set.
use Rattle.std.proofs.Common.{◌≡◌, ℕ, Bool, true, false, cond, ◌&&◌, List, [], ◌∷◌, map, filter, length, refl, sym, ap, subst, ◌∙◌, inl, inr}
use Rattle.std.proofs.lemmas.Bool.Decides.{eqb_tells, Decides-eqb}
use Rattle.std.specs.Prelude.{◌==◌, Option, None, Some}
use Rattle.std.specs.List.{AllByRecursion}
use Rattle.gx_base.specs.declared.order.Side.{Side}
use Rattle.plain_book.specs.declared.entry.Entry.{Entry}
use Rattle.plain_book.specs.Orders.{is_on, is_side, is_slot_in, side_of, slot_of, slot_named, top_of, with_top, HasSlot}
use Rattle.plain_book.specs.Book.{Book, live_orders, IsRight, CanBeTop, book_with_top}
use Rattle.plain_book.proofs.Levels.{and-left, and-right, is_side-same}
use Rattle.plain_book.proofs.Pairs.{all-from}
use Rattle.plain_book.proofs.Right.{right-marked, length-marked}
use Rattle.order_pool.specs.Queues as pool
use Rattle.price_level.specs.declared.row.LevelRow.{LevelRow}
use Rattle.book_side.specs.declared.tops.SideTops.{SideTops}
use Rattle.id_table.specs.Ids.{Ids}
use Rattle.price_level.specs.Rows.{Rows}
use Rattle.book_side.specs.Inner.Content.{Held, marked, resting_of, book_of, top_at}
use Rattle.book_side.specs.Inner.Linked.{IsLinked, IsTopOf}
use Rattle.book_side.specs.Inner.Steps.{IsTopSet}
use Rattle.book_side.proofs.Flat.{flat-all}
use Rattle.book_side.proofs.Marks.{IsMarked, resting-set}
use Rattle.book_side.proofs.Names.{marked-named, marked-side, top-through}

-- ---- it is read

rows-marked : (T : ℕ → Side → Option ℕ) (P : ℕ → List Held) (rs : List LevelRow) → AllByRecursion (IsMarked T) (resting_of T P rs)
rows-marked T P rs = flat-all (IsMarked T) (λ q. map (marked T) (P q)) rs (all-from (λ (r : LevelRow). AllByRecursion (IsMarked T) (map (marked T) (P r.queue))) (λ r. each (P r.queue)) rs)
  where
    each : (hs : List Held) → AllByRecursion (IsMarked T) (map (marked T) hs)
    each [] = tt
    each (h ∷ hs) = (refl, each hs)

module _ (T : ℕ → Side → Option ℕ) (i : ℕ) (d : Side) where
  side-marks : (es : List Entry) → AllByRecursion (IsMarked T) es → AllByRecursion (λ (e : Entry). e.is_top ≡ is_slot_in (T i d) e.slot) (side_of i d es)
  side-marks [] a = tt
  side-marks (e ∷ es) a =
      let go : (b : Bool) → is_on i d e ≡ b → AllByRecursion (λ (x : Entry). x.is_top ≡ is_slot_in (T i d) x.slot) (cond b (e ∷ side_of i d es) (side_of i d es)) = elim [
        | true ↦ λ on.
            let x : e.order.instrument ≡ i = (Decides-eqb e.order.instrument i).0 (and-left _ _ on) in
            let y : e.order.side ≡ d = is_side-same _ _ (and-right (e.order.instrument == i) _ on) in
            (a.0 ∙ ap (λ (j : ℕ). is_slot_in (T j e.order.side) e.slot) x ∙ ap (λ (s : Side). is_slot_in (T i s) e.slot) y, side-marks es a.1)
        | false ↦ λ _. side-marks es a.1
      ] in go (is_on i d e) refl

marks-none : (es : List Entry) → AllByRecursion (λ (e : Entry). e.is_top ≡ false) es → filter (λ (e : Entry). e.is_top) es ≡ []
marks-none [] a = refl
marks-none (e ∷ es) a = ap (λ (b : Bool). cond b (e ∷ filter (λ (x : Entry). x.is_top) es) (filter (λ (x : Entry). x.is_top) es)) a.0 ∙ marks-none es a.1

marks-one : (t : ℕ) (es : List Entry) → AllByRecursion (λ (e : Entry). e.is_top ≡ (e.slot == t)) es → HasSlot t es → slot_of (filter (λ (e : Entry). e.is_top) es) ≡ Some t
marks-one t [] a h = absurd h
marks-one t (e ∷ es) a h =
    let rest = filter (λ (x : Entry). x.is_top) es in
    elim (eqb_tells e.slot t) [
      | inl x ↦ ap (λ (b : Bool). slot_of (cond b (e ∷ rest) rest)) (a.0 ∙ x.0) ∙ ap (λ (m : ℕ). Some m) x.1
      | inr x ↦ ap (λ (b : Bool). slot_of (cond b (e ∷ rest) rest)) (a.0 ∙ x.0) ∙ marks-one t es a.1 (elim h [ inl y ↦ absurd (x.1 y) | inr y ↦ y ])
    ]

-- TOP by the marks is TOP
pub top-looked : (T : ℕ → Side → Option ℕ) (P : ℕ → List Held) (rs : List LevelRow) (i : ℕ) (d : Side) → IsTopOf (T i d) (side_of i d (resting_of T P rs)) → top_of i d (resting_of T P rs) ≡ T i d
top-looked T P rs i d is =
    let es = side_of i d (resting_of T P rs) in
    let go : (t : Option ℕ) → IsTopOf t es → AllByRecursion (λ (e : Entry). e.is_top ≡ is_slot_in t e.slot) es → slot_of (filter (λ (e : Entry). e.is_top) es) ≡ t = elim [
      | None ↦ λ _ a. ap slot_of (marks-none es a)
      | Some t ↦ λ h a. marks-one t es a h
    ] in go (T i d) is (side-marks T i d (resting_of T P rs) (rows-marked T P rs))

-- ---- it is set

module _ (c n : ℕ) (p : pool.Queues) (ids : Ids) (lv : Rows) (tops tops' : List SideTops) (k : IsLinked c n p ids lv tops) (i : ℕ) (d : Side) (t : Option ℕ) where
  abbrev P : ℕ → List Held
  P = pool.entries_at p.queues

  abbrev book : Book
  book = book_of c n tops p.queues lv.rows

  module _ (long : length tops' ≡ length tops) (set : IsTopSet tops tops' i d t) (can : CanBeTop i d t book.resting) where
    resting-is : resting_of (top_at tops') P lv.rows ≡ with_top i d t book.resting
    resting-is = resting-set (top_at tops) (top_at tops') i d t set P lv.rows

    pub topped-view : book_of c n tops' p.queues lv.rows ≡ book_with_top i d t book
    topped-view = ap (λ (l : List Entry). (let x : Book = record { capacity = c; instruments = n; resting = l; waiting = book.waiting } in x)) resting-is

    same-length : length (live_orders (book_of c n tops' p.queues lv.rows)) ≡ length (live_orders book)
    same-length = ap (λ (x : Book). length (live_orders x)) topped-view ∙ length-marked i d t book.resting book.waiting

    tops-set : (j : ℕ) (e : Side) → IsTopOf (top_at tops' j e) (side_of j e (with_top i d t book.resting))
    tops-set j e =
        let keep : (o : Option ℕ) → IsTopOf o (side_of j e book.resting) → IsTopOf o (side_of j e (with_top i d t book.resting)) = λ o h. top-through o (side_of j e book.resting) (side_of j e (with_top i d t book.resting)) (λ s g. marked-side i d t j e s book.resting g) h in
        let stands : (o : Option ℕ) → CanBeTop i d o book.resting → IsTopOf o (side_of i d book.resting) = elim [ None ↦ λ _. tt | Some s ↦ λ h. h.0 ] in
        let go : (b : Bool) → ((j == i) && is_side e d) ≡ b → IsTopOf (cond b t (top_at tops j e)) (side_of j e (with_top i d t book.resting)) = elim [
          | true ↦ λ on.
              let x : j ≡ i = (Decides-eqb j i).0 (and-left _ _ on) in
              let y : e ≡ d = is_side-same _ _ (and-right (j == i) _ on) in
              keep t (subst (λ (m : ℕ). IsTopOf t (side_of m e book.resting)) (sym x) (subst (λ (m : Side). IsTopOf t (side_of i m book.resting)) (sym y) (stands t can)))
          | false ↦ λ _. keep (top_at tops j e) (k.top j e)
        ] in subst (λ (o : Option ℕ). IsTopOf o (side_of j e (with_top i d t book.resting))) (sym (set j e)) (go ((j == i) && is_side e d) refl)

    pub topped-linked : IsLinked c n p ids lv tops'
    topped-linked = record {
      slots = k.slots;
      many = k.many;
      level_room = k.level_room;
      listed = k.listed;
      id_room = k.id_room;
      sides = long ∙ k.sides;
      fits = k.fits;
      right = subst IsRight (sym topped-view) (right-marked book i d t k.right can);
      summed = k.summed;
      some = k.some;
      unused = k.unused;
      stops = k.stops;
      top = λ j e. subst (λ (l : List Entry). IsTopOf (top_at tops' j e) (side_of j e l)) (sym resting-is) (tops-set j e);
      live = k.live ∙ sym same-length;
      count = k.count ∙ sym same-length;
      named = λ f x. k.named f x ∙ sym (ap (λ (y : Book). slot_named f x (live_orders y)) topped-view ∙ marked-named i d t f x book.resting book.waiting);
    }
