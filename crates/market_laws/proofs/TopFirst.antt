-- The TOP order of a side is the first in line there.
use Rattle.std.proofs.Common.{◌≡◌, ℕ, Bool, true, false, cond, not, ◌&&◌, List, [], ◌∷◌, ◌++◌, filter, Option, Some, None, refl, sym, ap, subst, ◌∙◌, inl, inr}
use Rattle.std.specs.Prelude.{◌==◌}
use Rattle.std.specs.List.{AllByRecursion}
use Rattle.std.proofs.lemmas.Bool.Decides.{eqb_tells, Decides-eqb}
use Rattle.gx_base.specs.declared.order.Side.{Side}
use Rattle.gx_base.specs.declared.order.Order.{Order}
use Rattle.plain_book.specs.declared.entry.Entry.{Entry}
use Rattle.plain_book.specs.Orders.{Level, level_of, is_before, is_on, is_side, is_better, is_best_price, is_new_best, side_of, price_of, slot_of, top_of, is_at_earlier_level, HasSlot, order_of, without, with_order, reordered, placed, settled, refreshed, filled_by, with_top, topped}
use Rattle.plain_book.specs.Book.{AllDiffer, EachPair, AreInBookOrder, first_shown, makes_top}
use Rattle.plain_book.specs.Match.{MatchState}
use Rattle.plain_book.proofs.Levels.{same, is_side-same, is_side-refl, and-left, and-right, renewed, AllDiffer-front, is_before-irrefl}
use Rattle.plain_book.proofs.Pairs.{all-from, all-with, all-both, all-map, all-filter, pairs-filter, pairs-map}
use Rattle.plain_book.proofs.Live.{orders-at}
use Rattle.plain_book.proofs.Sorted.{book-order, put-in, IsInserted, inserted-pairs}
use Rattle.plain_book.proofs.Tops.{at-slot, behind-on, on-sym, new-best-all}
use Rattle.plain_book.proofs.Right.{ordered-marked}
use Rattle.order_kinds.specs.Entering.{as_limit, top_min_of}
use Rattle.market_laws.specs.Acts.{Act, after, after_acts, EachAct}
use Rattle.market_laws.specs.Acts.Act.{trades, notes, rests, cancels, waits, triggers}
use Rattle.market_laws.proofs.Sound.{IsSound}

-- b stands after a, of its side, and is not TOP
abbrev pub NoTopAfter : Entry → Entry → Type 0
NoTopAfter a b = is_on b.order.instrument b.order.side a ≡ true → b.is_top ≡ false

abbrev pub TopsFirst : List Entry → Type 0
TopsFirst es = EachPair NoTopAfter es

never : {A : Type 0} (b : Bool) → b ≡ true → b ≡ false → A
never b h k = absurd (let e : true ≡ false = sym h ∙ k in cc)

-- the instrument and side of an order on a side
on-side : (i : ℕ) (d : Side) (x : Entry) → is_on i d x ≡ true → (x.order.instrument ≡ i) × (x.order.side ≡ d)
on-side i d x h = ((Decides-eqb x.order.instrument i).0 (and-left _ _ h), is_side-same _ _ (and-right (x.order.instrument == i) _ h))

on-of : (i j : ℕ) (c d : Side) → i ≡ j → c ≡ d → ((i == j) && is_side c d) ≡ true
on-of i j c d e f = ap (λ (n : ℕ). (n == j) && is_side c d) e ∙ ap (λ (t : Side). (j == j) && is_side t d) f ∙ ap (λ (b : Bool). b && is_side d d) (same j) ∙ is_side-refl d

on-both : (e n b : Entry) → is_on n.order.instrument n.order.side e ≡ true → is_on b.order.instrument b.order.side n ≡ true → is_on b.order.instrument b.order.side e ≡ true
on-both e n b h k =
    let l = on-side n.order.instrument n.order.side e h in
    let m = on-side b.order.instrument b.order.side n k in
    on-of e.order.instrument b.order.instrument e.order.side b.order.side (l.0 ∙ m.0) (l.1 ∙ m.1)

-- ---- an order changes, and keeps its level

abbrev pub KeepsLevel : ℕ → Order → Entry → Type 0
KeepsLevel s o e = e.slot ≡ s → level_of e.order ≡ level_of o

keeps-level : (s : ℕ) (o : Order) (e : Entry) → KeepsLevel s o e → level_of (reordered s o e).order ≡ level_of e.order
keeps-level s o e h = elim (eqb_tells e.slot s) [
  | inl t ↦ ap (λ (b : Bool). level_of (cond b (renewed e o) e).order) t.0 ∙ sym (h t.1)
  | inr t ↦ ap (λ (b : Bool). level_of (cond b (renewed e o) e).order) t.0
]

keeps-top : (s : ℕ) (o : Order) (e : Entry) → (reordered s o e).is_top ≡ e.is_top
keeps-top s o e = let go : (b : Bool) → (cond b (renewed e o) e).is_top ≡ e.is_top = elim [ true ↦ refl | false ↦ refl ] in go (e.slot == s)

pub first-with : (s : ℕ) (o : Order) (es : List Entry) → AllByRecursion (KeepsLevel s o) es → TopsFirst es → TopsFirst (with_order s o es)
first-with s o es levels h =
    pairs-map NoTopAfter NoTopAfter (KeepsLevel s o) (reordered s o) (λ a b la lb r on.
    let back : is_on b.order.instrument b.order.side a ≡ true =
    ap (λ (k : Level). (a.order.instrument == k.instrument) && is_side a.order.side k.side) (sym (keeps-level s o b lb))
    ∙ ap (λ (k : Level). (k.instrument == (reordered s o b).order.instrument) && is_side k.side (reordered s o b).order.side) (sym (keeps-level s o a la)) ∙ on in
    keeps-top s o b ∙ r back) es levels h

-- ---- an order is put in that is not TOP

-- no order after it, of its side, is TOP
abbrev HasNoTopAfter : Entry → Entry → Type 0
HasNoTopAfter n b = is_at_earlier_level n b ≡ true → is_on b.order.instrument b.order.side n ≡ true → b.is_top ≡ false

back-of : (P : Entry → Type 0) (xs ys : List Entry) → AllByRecursion P (xs ++ ys) → AllByRecursion P ys
back-of P [] ys h = h
back-of P (x ∷ xs) ys h = back-of P xs ys h.1

front-of : (P : Entry → Type 0) (xs ys : List Entry) → AllByRecursion P (xs ++ ys) → AllByRecursion P xs
front-of P [] ys h = tt
front-of P (x ∷ xs) ys h = (h.0, front-of P xs ys h.1)

first-placed : (n : Entry) (es : List Entry) → EachPair AreInBookOrder es → AllByRecursion (HasNoTopAfter n) es → AllByRecursion (λ (a : Entry). is_at_earlier_level n a ≡ false → NoTopAfter a n) es → TopsFirst es → TopsFirst (placed n es)
first-placed n es ordered none ahead h =
    let p = put-in is_at_earlier_level book-order n es ordered in
    let ins : IsInserted n es (placed n es) = record { front = p.front; back = p.back; whole = p.whole; is = p.place } in
    let Ahead = λ (a : Entry). is_at_earlier_level n a ≡ false → NoTopAfter a n in
    let Before = λ (a : Entry). is_at_earlier_level n a ≡ false in
    let Behind = λ (b : Entry). is_at_earlier_level n b ≡ true in
    inserted-pairs ins NoTopAfter h
    (all-with (λ (a : Entry). Ahead a × Before a) (λ (a : Entry). NoTopAfter a n) (λ a k. k.0 k.1) p.front (all-both Ahead Before p.front (front-of Ahead p.front p.back (subst (AllByRecursion Ahead) p.whole ahead)) p.ahead))
    (all-with (λ (b : Entry). HasNoTopAfter n b × Behind b) (λ (b : Entry). NoTopAfter n b) (λ b k. k.0 k.1) p.back (all-both (HasNoTopAfter n) Behind p.back (back-of (HasNoTopAfter n) p.front p.back (subst (AllByRecursion (HasNoTopAfter n)) p.whole none)) p.behind))

-- what stands after the order of a slot is not TOP
none-behind : (s : ℕ) (k : Level) (n : Entry) (es : List Entry) → level_of n.order ≡ k → HasSlot s es → level_of (order_of s es) ≡ k → EachPair AreInBookOrder es → TopsFirst es → AllByRecursion (HasNoTopAfter n) es
none-behind s k n [] nk has is ordered h = tt
none-behind s k n (e ∷ es) nk has is ordered h = elim (eqb_tells e.slot s) [
  | inl t ↦
      let ek : level_of e.order ≡ level_of n.order = sym (ap (λ (b : Bool). level_of (cond b e.order (order_of s es))) t.0) ∙ is ∙ sym nk in (
        (λ early on. never (is_at_earlier_level n e) early (ap (is_before (level_of n.order)) ek ∙ is_before-irrefl (level_of n.order))),
        all-with (NoTopAfter e) (HasNoTopAfter n) (λ b r early on.
            r (ap (λ (l : Level). (l.instrument == b.order.instrument) && is_side l.side b.order.side) ek ∙ on)) es h.0,
      )
  | inr t ↦
      let more : HasSlot s es = elim has [ inl a ↦ absurd (t.1 a) | inr a ↦ a ] in
      let here : level_of (order_of s es) ≡ k = sym (ap (λ (b : Bool). level_of (cond b e.order (order_of s es))) t.0) ∙ is in
      let late : is_before (level_of (order_of s es)) (level_of e.order) ≡ false = orders-at (λ (o : Order). is_before (level_of o) (level_of e.order) ≡ false) s es ordered.0 more in (
        (λ early on. never (is_at_earlier_level n e) early (ap (λ (l : Level). is_before l (level_of e.order)) (nk ∙ sym here) ∙ late)),
        none-behind s k n es nk more here ordered.1 h.1,
      )
]

pub first-settled : (s : ℕ) (o : Order) (es : List Entry) → AllDiffer es → HasSlot s es → level_of o ≡ level_of (order_of s es) → EachPair AreInBookOrder es → TopsFirst es → TopsFirst (settled s o es)
first-settled s o es differ has level ordered h =
    let n : Entry = record { slot = s; order = refreshed o; is_top = false } in
    let other = λ (e : Entry). not (e.slot == s) in
    let left = without s es in
    let gone : TopsFirst left = pairs-filter NoTopAfter other es h in
    let behind = all-filter (HasNoTopAfter n) other es (none-behind s (level_of o) n es refl has (sym level) ordered h) in
    let any = all-from (λ (a : Entry). is_at_earlier_level n a ≡ false → NoTopAfter a n) (λ a late on. refl) in
    let back = first-placed n left (pairs-filter AreInBookOrder other es ordered) behind (any left) gone in
    let stays = first-with s o es (at-slot (λ (q : Order). level_of q ≡ level_of o) s es differ (sym level)) h in
    let go : (x y : Bool) → TopsFirst (cond x left (cond y (placed n left) (with_order s o es))) = elim [
      | true ↦ λ y. gone
      | false ↦ elim [ true ↦ back | false ↦ stays ]
    ] in go (o.leaves == 0) (o.shown == 0)

-- ---- an order comes to rest

topped-none : (i : ℕ) (d : Side) (e : Entry) → e.is_top ≡ false → (topped i d None e).is_top ≡ false
topped-none i d e h = let go : (b : Bool) → cond b false e.is_top ≡ false = elim [ true ↦ refl | false ↦ h ] in go (is_on i d e)

first-topped : (i : ℕ) (d : Side) (es : List Entry) → TopsFirst es → TopsFirst (with_top i d None es)
first-topped i d es h =
    let any = all-from (λ (e : Entry). Unit {0}) (λ e. tt) in
    pairs-map NoTopAfter NoTopAfter (λ (e : Entry). Unit {0}) (topped i d None) (λ a b _ _ r on. topped-none i d b (r on)) es (any es) h

none-on : (n : Entry) (es : List Entry) → AllByRecursion (HasNoTopAfter n) (with_top n.order.instrument n.order.side None es)
none-on n [] = tt
none-on n (e ∷ es) = (
  (λ early on. ap (λ (b : Bool). cond b false e.is_top) (on-sym e n on)),
  none-on n es,
)

-- where it is not better than all of its side, no TOP stands after it
not-best : (n : Entry) (es : List Entry) → is_new_best n.order es ≡ false → TopsFirst es → AllByRecursion (HasNoTopAfter n) es
not-best n [] h tops = tt
not-best n (e ∷ es) h tops =
    let i = n.order.instrument in
    let d = n.order.side in
    let test = λ (c : Bool). is_best_price d n.order.price.0 (price_of (cond c (e ∷ side_of i d es) (side_of i d es))) in
    let go : (c : Bool) → is_on i d e ≡ c → AllByRecursion (HasNoTopAfter n) (e ∷ es) = elim [
      | true ↦ λ on.
          let worse : is_better d n.order.price.0 e.order.price.0 ≡ false = sym (ap test on) ∙ h in (
            (λ early _. never (is_at_earlier_level n e) early (behind-on n e on ∙ worse)),
            all-with (NoTopAfter e) (HasNoTopAfter n) (λ b r early with_n. r (on-both e n b on with_n)) es tops.0,
          )
      | false ↦ λ on. (
        (λ early with_n. never (is_on i d e) (on-sym e n with_n) on),
        not-best n es (sym (ap test on) ∙ h) tops.1,
      )
    ] in go (is_on i d e) refl

pub first-rested : (slot : ℕ) (o : Order) (least : Option ℕ) (es : List Entry) → EachPair AreInBookOrder es → TopsFirst es → let best = is_new_best o es in
    TopsFirst (placed (record { slot = slot; order = record o { shown = first_shown o }; is_top = best && makes_top least o.leaves }) (cond best (with_top o.instrument o.side None es) es))
first-rested slot o least es ordered h =
    let N = λ (top : Bool). let x : Entry = record { slot = slot; order = record o { shown = first_shown o }; is_top = top } in x in
    let marked = with_top o.instrument o.side None es in
    let go : (best : Bool) → is_new_best o es ≡ best → TopsFirst (placed (N (best && makes_top least o.leaves)) (cond best marked es)) = elim [
      | true ↦ λ is.
          let n = N (makes_top least o.leaves) in
          let P = λ (x : Entry). is_on o.instrument o.side x ≡ true → is_at_earlier_level n x ≡ true in
          let all : AllByRecursion P marked = all-map P P (topped o.instrument o.side None) (λ x k on. k on) es (new-best-all n es ordered is) in
          first-placed n marked (ordered-marked o.instrument o.side None es ordered) (none-on n es)
          (all-with P (λ (a : Entry). is_at_earlier_level n a ≡ false → NoTopAfter a n) (λ a k late on. never (is_at_earlier_level n a) (k on) late) marked all) (first-topped o.instrument o.side es h)
      | false ↦ λ is.
          let n = N false in
          let any = all-from (λ (a : Entry). is_at_earlier_level n a ≡ false → NoTopAfter a n) (λ a late on. refl) in
          first-placed n es ordered (not-best n es is h) (any es) h
    ] in go (is_new_best o es) refl

-- ---- acts

act-first : (act : Act) (m : MatchState) → IsSound act m → TopsFirst m.book.resting → TopsFirst (after act m).book.resting
act-first (trades step s lots) m sound h =
    let b = m.book in
    first-settled s (filled_by lots (order_of s b.resting)) b.resting (AllDiffer-front b.resting b.waiting sound.book.right.differ) sound.is.fit.rests refl sound.book.right.ordered h
act-first (notes s lots) m sound h =
    let b = m.book in
    let now : Order = record (order_of s b.resting) { prorated = lots } in
    first-with s now b.resting (at-slot (λ (q : Order). level_of q ≡ level_of now) s b.resting (AllDiffer-front b.resting b.waiting sound.book.right.differ) refl) h
act-first (rests steps) m sound h = first-rested m.taker.order.number (as_limit m.taker.order) (top_min_of steps) m.book.resting sound.book.right.ordered h
act-first (cancels why) m sound h = h
act-first waits m sound h = h
act-first (triggers stop) m sound h = pairs-filter NoTopAfter (λ e. not (e.slot == stop.slot)) m.book.resting h

pub acts-first : (acts : List Act) (m : MatchState) → EachAct IsSound acts m → TopsFirst m.book.resting → TopsFirst (after_acts acts m).book.resting
acts-first [] m each h = h
acts-first (act ∷ acts) m each h = acts-first acts (after act m) each.1 (act-first act m each.0 h)

-- ---- the first in line

none-top : (i : ℕ) (d : Side) (e : Entry) (es : List Entry) → is_on i d e ≡ true → AllByRecursion (NoTopAfter e) es → filter (λ (x : Entry). x.is_top) (side_of i d es) ≡ []
none-top i d e [] on h = refl
none-top i d e (b ∷ es) on h =
    let S = side_of i d es in
    let F = filter (λ (x : Entry). x.is_top) S in
    let l = on-side i d e on in
    let go : (c : Bool) → is_on i d b ≡ c → filter (λ (x : Entry). x.is_top) (cond c (b ∷ S) S) ≡ [] = elim [
      | true ↦ λ on_b.
          let m = on-side i d b on_b in
          let off : b.is_top ≡ false = h.0 (on-of e.order.instrument b.order.instrument e.order.side b.order.side (l.0 ∙ sym m.0) (l.1 ∙ sym m.1)) in
          ap (λ (c : Bool). cond c (b ∷ F) F) off ∙ none-top i d e es on h.1
      | false ↦ λ off. none-top i d e es on h.1
    ] in go (is_on i d b) refl

pub top-first : (i : ℕ) (d : Side) (s : ℕ) (es : List Entry) → TopsFirst es → top_of i d es ≡ Some s → slot_of (side_of i d es) ≡ Some s
top-first i d s [] h is = is
top-first i d s (e ∷ es) h is =
    let S = side_of i d es in
    let F = filter (λ (x : Entry). x.is_top) S in
    let go : (c : Bool) → is_on i d e ≡ c → slot_of (filter (λ (x : Entry). x.is_top) (cond c (e ∷ S) S)) ≡ Some s → slot_of (cond c (e ∷ S) S) ≡ Some s = elim [
      | true ↦ λ on.
          let by : (t : Bool) → slot_of (cond t (e ∷ F) F) ≡ Some s → Some e.slot ≡ Some s = elim [
            | true ↦ λ k. k
            | false ↦ λ k. absurd (let f : None ≡ Some s = sym (ap slot_of (none-top i d e es on h.0)) ∙ k in cc)
          ] in by e.is_top
      | false ↦ λ off. top-first i d s es h.1
    ] in go (is_on i d e) refl is
