-- Who is marked as TOP: a sweep marks nobody, and neither does an order that leaves.
use Rattle.std.proofs.Common.{◌≡◌, ◌≢◌, ℕ, Bool, true, false, cond, not, ◌&&◌, List, [], ◌∷◌, filter, refl, sym, ap, subst, ◌∙◌, inl, inr, Option, Some, None}
use Rattle.std.specs.Prelude.{◌==◌}
use Rattle.std.specs.List.{AllByRecursion}
use Rattle.std.proofs.lemmas.Bool.Decides.{eqb_tells, Decides-eqb}
use Rattle.gx_base.specs.declared.price.Price.{Price}
use Rattle.gx_base.specs.declared.order.Order.{Order}
use Rattle.gx_base.specs.declared.order.Side.{Side}
use Rattle.gx_base.proofs.Tests.{not-both}
use Rattle.step_config.specs.declared.step.Step.{Step}
use Rattle.plain_book.specs.declared.entry.Entry.{Entry}
use Rattle.plain_book.specs.Orders.{order_of, is_on, is_side, side_of, slot_of, top_of, without}
use Rattle.plain_book.specs.Book.{Book, AllDiffer, EachPair, MayPrecedeTop, IsRight}
use Rattle.plain_book.specs.Match.{MatchState}
use Rattle.plain_book.proofs.Levels.{same, is_side-same, is_side-refl, and-left, and-right, AllDiffer-front}
use Rattle.plain_book.proofs.Pairs.{all-filter, all-with, all-both, differ-pairs}
use Rattle.level_sweep.specs.Sweep.{sweep}
use Rattle.level_sweep.proofs.EachTrade.{each-sweep}
use Rattle.level_sweep.proofs.EachOrder.{StaysTrue, AllStay, all-kept}
use Rattle.order_kinds.specs.TradingSessions.{stays, book_closed}

-- two orders of one side
on-both : (i : ℕ) (d : Side) (x y : Entry) → is_on i d x ≡ true → is_on i d y ≡ true → is_on x.order.instrument x.order.side y ≡ true
on-both i d x y h k =
    let at : (z : Entry) → is_on i d z ≡ true → z.order.instrument ≡ i = λ z o. (Decides-eqb z.order.instrument i).0 (and-left _ _ o) in
    let side : (z : Entry) → is_on i d z ≡ true → z.order.side ≡ d = λ z o. is_side-same _ _ (and-right (z.order.instrument == i) _ o) in
    ap (λ (n : ℕ). (y.order.instrument == n) && is_side y.order.side x.order.side) (at x h ∙ sym (at y k))
    ∙ ap (λ (b : Bool). b && is_side y.order.side x.order.side) (same y.order.instrument)
    ∙ ap (is_side y.order.side) (side x h ∙ sym (side y k))
    ∙ is_side-refl y.order.side

-- ---- the order of an entry's slot

other-slot : (s : ℕ) (e : Entry) (es : List Entry) → s ≢ e.slot → order_of s (e ∷ es) ≡ order_of s es
other-slot s e es n = elim (eqb_tells e.slot s) [ inl t ↦ absurd (n (sym t.1)) | inr t ↦ ap (λ (b : Bool). cond b e.order (order_of s es)) t.0 ]

own-slot : (e : Entry) (es : List Entry) → order_of e.slot (e ∷ es) ≡ e.order
own-slot e es = elim (eqb_tells e.slot e.slot) [ inl t ↦ ap (λ (b : Bool). cond b e.order (order_of e.slot es)) t.0 | inr t ↦ absurd (t.1 refl) ]

-- where slots differ, each order is that of its slot
pub own-orders : (es : List Entry) → AllDiffer es → AllByRecursion (λ (e : Entry). order_of e.slot es ≡ e.order) es
own-orders [] d = tt
own-orders (e ∷ es) d =
    let P = λ (x : Entry). x.slot ≢ e.slot in
    let Q = λ (x : Entry). order_of x.slot es ≡ x.order in (
      own-slot e es,
      all-with (λ x. P x × Q x) (λ x. order_of x.slot (e ∷ es) ≡ x.order) (λ x h. other-slot x.slot e es h.0 ∙ h.1) es
          (all-both P Q es (differ-pairs (e ∷ es) d).0 (own-orders es d.1)),
    )

module _ (i : ℕ) (d : Side) where
  -- P holds of the slot of each order of the side that is marked
  abbrev pub Marked : (ℕ → Type 0) → Entry → Type 0
  Marked P e = e.is_top ≡ true → is_on i d e ≡ true → P e.slot

  abbrev first_of : List Entry → Option ℕ
  first_of es = slot_of (filter (λ (e : Entry). e.is_top) es)

  -- what holds of all that are marked holds of TOP
  pub top-holds : (P : ℕ → Type 0) (s : ℕ) (es : List Entry) → AllByRecursion (Marked P) es → top_of i d es ≡ Some s → P s
  top-holds P s [] a h = absurd (let k : None ≡ Some s = h in cc)
  top-holds P s (e ∷ es) a h =
      let S = side_of i d es in
      let F = filter (λ (x : Entry). x.is_top) S in
      let later = top-holds P s es a.1 in
      let first : is_on i d e ≡ true → (c : Bool) → e.is_top ≡ c → slot_of (cond c (e ∷ F) F) ≡ Some s → P s = λ on. elim [
        | true ↦ λ top k.
            let j : Some e.slot ≡ Some s = k in
            let r : e.slot ≡ s = cc in
            subst P r (a.0 top on)
        | false ↦ λ top k. later k
      ] in
      let go : (c : Bool) → is_on i d e ≡ c → first_of (cond c (e ∷ S) S) ≡ Some s → P s = elim [
        | true ↦ λ on k. first on e.is_top refl k
        | false ↦ λ off k. later k
      ] in go (is_on i d e) refl h

  -- each order of the side that is marked is its TOP
  pub marked-top : (es : List Entry) → EachPair MayPrecedeTop es → AllByRecursion (Marked (λ s. top_of i d es ≡ Some s)) es
  marked-top [] t = tt
  marked-top (e ∷ es) t =
      let S = side_of i d es in
      let F = filter (λ (x : Entry). x.is_top) S in
      let rest = marked-top es t.1 in
      let All = λ (o : Option ℕ). AllByRecursion (Marked (λ s. o ≡ Some s)) (e ∷ es) in
      let first : is_on i d e ≡ true → (c : Bool) → e.is_top ≡ c → All (slot_of (cond c (e ∷ F) F)) = λ on. elim [
        | true ↦ λ top. (
          (λ _ _. refl),
          all-with (MayPrecedeTop e) (Marked (λ s. Some e.slot ≡ Some s)) (λ x r m o. not-both e.is_top top (r m (on-both i d x e o on)).0) es t.0,
        )
        | false ↦ λ top. ((λ m _. not-both e.is_top m top), rest)
      ] in
      let go : (c : Bool) → is_on i d e ≡ c → All (first_of (cond c (e ∷ S) S)) = elim [
        | true ↦ λ on. first on e.is_top refl
        | false ↦ λ off. ((λ _ on. not-both (is_on i d e) on off), rest)
      ] in go (is_on i d e) refl

-- where some orders have left, TOP was TOP before
top-among : (p : Entry → Bool) (b : Book) (i : ℕ) (d : Side) (s : ℕ) → IsRight b → top_of i d (filter p b.resting) ≡ Some s → top_of i d b.resting ≡ Some s
top-among p b i d s r h =
    let P = λ (n : ℕ). top_of i d b.resting ≡ Some n in
    top-holds i d P s (filter p b.resting) (all-filter (Marked i d P) p b.resting (marked-top i d b.resting r.tops)) h

-- where one has left
pub top-left : (b : Book) (gone : ℕ) (i : ℕ) (d : Side) (s : ℕ) → IsRight b → top_of i d (without gone b.resting) ≡ Some s → top_of i d b.resting ≡ Some s
top-left b gone i d s r h = top-among (λ e. not (e.slot == gone)) b i d s r h

-- where the market has closed
pub top-closed : (b : Book) (i : ℕ) (d : Side) (s : ℕ) → IsRight b → top_of i d (book_closed b).resting ≡ Some s → top_of i d b.resting ≡ Some s
top-closed b i d s r h = top-among stays b i d s r h

-- ---- what a trade keeps

abbrev on_side : ℕ → Side → Order → Bool
on_side i d o = (o.instrument == i) && is_side o.side d

-- who stands on the side is known by the slot, and P holds of the slot of each order that is marked
module _ (i : ℕ) (d : Side) (on : ℕ → Bool) (P : ℕ → Type 0) where
  abbrev KnownBySlot : Entry → Type 0
  KnownBySlot e = (on_side i d e.order ≡ on e.slot) × (e.is_top ≡ true → P e.slot)

  known : StaysTrue KnownBySlot
  known = record {
    fills = λ n e x p q is some. (p.0 ∙ ap on (sym is), q.1);
    refreshes = λ n e p some none. (p.0, λ h. not-both false h refl);
    marks = λ n e x p q is. (p.0 ∙ ap on (sym is), q.1);
  }

  known-sweep : (steps : List Step) (limit : Price) (m : MatchState) → AllByRecursion KnownBySlot m.book.resting → AllByRecursion KnownBySlot (sweep steps limit m).book.resting
  known-sweep steps limit m a = each-sweep (AllStay KnownBySlot known) (all-kept KnownBySlot known) steps limit m a

-- who is TOP after a sweep was TOP before it
pub top-swept : (steps : List Step) (limit : Price) (m : MatchState) (i : ℕ) (d : Side) (s : ℕ) → IsRight m.book → top_of i d (sweep steps limit m).book.resting ≡ Some s → top_of i d m.book.resting ≡ Some s
top-swept steps limit m i d s r h =
    let es = m.book.resting in
    let es' = (sweep steps limit m).book.resting in
    let on = λ (n : ℕ). on_side i d (order_of n es) in
    let Was = λ (n : ℕ). top_of i d es ≡ Some n in
    let P = λ (n : ℕ). on n ≡ true → Was n in
    let A = Marked i d Was in
    let B = λ (e : Entry). order_of e.slot es ≡ e.order in
    let before : AllByRecursion (KnownBySlot i d on P) es =
    all-with (λ e. A e × B e) (KnownBySlot i d on P) (λ e k. let is = ap (on_side i d) (sym k.1) in (is, (λ top o. k.0 top (is ∙ o)))) es
    (all-both A B es (marked-top i d es r.tops) (own-orders es (AllDiffer-front es m.book.waiting r.differ))) in
    top-holds i d Was s es' (all-with (KnownBySlot i d on P) A (λ e k top o. k.1 top (sym k.0 ∙ o)) es' (known-sweep i d on P steps limit m before)) h
