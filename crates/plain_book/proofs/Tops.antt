-- TOP stands at the best price of its side: what keeps it so.
use Rattle.std.proofs.Common.{◌≡◌, ◌≢◌, ℕ, Bool, true, false, cond, ◌&&◌, ◌||◌, List, [], ◌∷◌, map, Option, Some, None, refl, sym, ap, subst, ◌∙◌, arith, inl, inr}
use Rattle.std.proofs.lemmas.Bool.Decides.{eqb_tells, Decides-eqb}
use Rattle.std.specs.Prelude.{ℤ, ◌==◌}
use Rattle.std.specs.List.{AllByRecursion}
use Rattle.gx_base.specs.declared.price.Price.{Price}
use Rattle.gx_base.specs.declared.order.Order.{Order}
use Rattle.gx_base.specs.declared.order.Side.{Side}
use Rattle.gx_base.specs.declared.order.Side.TheVariants.{Buy, Sell}
use Rattle.gx_base.proofs.Tests.{int-same, not-both}
use Rattle.plain_book.specs.declared.entry.Entry.{Entry}
use Rattle.plain_book.specs.Orders.{Level, level_of, is_on, is_side, side_of, is_before, is_at_earlier_level, is_better, is_best_price, is_new_best, best_of, price_of, HasSlot, order_of, placed, with_top, topped, is_slot_in}
use Rattle.plain_book.specs.Book.{EachPair, AllDiffer, AreInBookOrder, MayPrecedeTop, CanBeTop}
use Rattle.plain_book.proofs.Levels.{same, is_side-same, is_side-refl, and-left, and-right, nat_lt-irrefl, side_before-irrefl, is_better-irrefl, is_before-irrefl, level_at}
use Rattle.plain_book.proofs.Pairs.{all-with, all-both, all-front, all-back, all-from, pairs-map, pairs-both, differ-pairs}
use Rattle.plain_book.proofs.Sorted.{book-order, put-in, IsInserted, inserted-pairs}
use Rattle.plain_book.proofs.Live.{orders-at}

-- ---- one side

-- the instrument and side of an order that stands on a side
abbrev OnSide : ℕ → Side → Entry → Type 0
OnSide i s x = (x.order.instrument ≡ i) × (x.order.side ≡ s)

on-level : (i : ℕ) (s : Side) (x : Entry) → is_on i s x ≡ true → OnSide i s x
on-level i s x h = ((Decides-eqb x.order.instrument i).0 (and-left _ _ h), is_side-same _ _ (and-right (x.order.instrument == i) _ h))

on-of : (i j : ℕ) (s t : Side) → i ≡ j → s ≡ t → ((i == j) && is_side s t) ≡ true
on-of i j s t e f =
    ap (λ (n : ℕ). (i == n) && is_side s t) (sym e) ∙ ap (λ (d : Side). (i == i) && is_side s d) (sym f) ∙ ap (λ (b : Bool). b && is_side s s) (same i) ∙ is_side-refl s

pub on-sym : (n x : Entry) → is_on n.order.instrument n.order.side x ≡ true → is_on x.order.instrument x.order.side n ≡ true
on-sym n x h = let l = on-level n.order.instrument n.order.side x h in on-of _ _ _ _ (sym l.0) (sym l.1)

on-both : (i : ℕ) (s : Side) (x y : Entry) → is_on i s x ≡ true → is_on i s y ≡ true → is_on x.order.instrument x.order.side y ≡ true
on-both i s x y h k =
    let l = on-level i s x h in
    let m = on-level i s y k in
    on-of _ _ _ _ (m.0 ∙ sym l.0) (m.1 ∙ sym l.1)

before_is : (a b c d e : Bool) → a ≡ false → b ≡ true → c ≡ false → d ≡ true → (a || (b && (c || (d && e)))) ≡ e
before_is a b c d e p q r t = grind arith

before-same : (i : ℕ) (s : Side) (p q : ℤ) → is_before (level_at i s p) (level_at i s q) ≡ is_better s p q
before-same i s p q = before_is _ (i == i) _ (is_side s s) (is_better s p q) (nat_lt-irrefl i) (same i) (side_before-irrefl s) (is_side-refl s)

-- on one side the better price stands before
pub behind-on : (n x : Entry) → is_on n.order.instrument n.order.side x ≡ true → is_at_earlier_level n x ≡ is_better n.order.side n.order.price.0 x.order.price.0
behind-on n x h =
    let l = on-level n.order.instrument n.order.side x h in
    ap (λ (i : ℕ). is_before (level_of n.order) (level_at i x.order.side x.order.price.0)) l.0
    ∙ ap (λ (s : Side). is_before (level_of n.order) (level_at n.order.instrument s x.order.price.0)) l.1
    ∙ before-same n.order.instrument n.order.side n.order.price.0 x.order.price.0

-- ---- prices

better-same : (s : Side) (a b : ℤ) → is_better s a b ≡ false → is_better s b a ≡ false → a ≡ b
better-same Buy a b h k = int-same a b k h
better-same Sell a b h k = int-same a b h k

price-same : (p q : Price) → p.0 ≡ q.0 → p ≡ q
price-same p q h = let mk : ℤ → Price = λ z. record { 0 = z } in ap mk h

-- ---- the best price

-- an order that is better than the best of its side stands before the whole side
pub new-best-all : (n : Entry) (es : List Entry) → EachPair AreInBookOrder es → is_new_best n.order es ≡ true
    → AllByRecursion (λ (x : Entry). is_on n.order.instrument n.order.side x ≡ true → is_at_earlier_level n x ≡ true) es
new-best-all n [] o h = tt
new-best-all n (e ∷ es) o h =
    let i = n.order.instrument in
    let s = n.order.side in
    let test = λ (c : Bool). is_best_price s n.order.price.0 (price_of (cond c (e ∷ side_of i s es) (side_of i s es))) in
    let P = λ (x : Entry). is_on i s x ≡ true → is_at_earlier_level n x ≡ true in
    let go : (c : Bool) → is_on i s e ≡ c → AllByRecursion P (e ∷ es) = elim [
      | true ↦ λ on.
          let b : is_at_earlier_level n e ≡ true = behind-on n e on ∙ ap test (sym on) ∙ h in
          ((λ _. b), all-with (λ (x : Entry). AreInBookOrder e x) P (λ x f _. book-order.past n e x b f) es o.0)
      | false ↦ λ off. ((λ on. not-both (is_on i s e) on off), new-best-all n es o.1 (ap test (sym off) ∙ h))
    ] in go (is_on i s e) refl

-- after an order that is not better than the best of its side, no order of the side is TOP
abbrev pub NoTopBehind : Entry → Entry → Type 0
NoTopBehind n x = is_at_earlier_level n x ≡ true → x.is_top ≡ true → is_on x.order.instrument x.order.side n ≡ true → ⊥

pub not-best-none : (n : Entry) (es : List Entry) → EachPair MayPrecedeTop es → is_new_best n.order es ≡ false → AllByRecursion (NoTopBehind n) es
not-best-none n [] t h = tt
not-best-none n (e ∷ es) t h =
    let i = n.order.instrument in
    let s = n.order.side in
    let test = λ (c : Bool). is_best_price s n.order.price.0 (price_of (cond c (e ∷ side_of i s es) (side_of i s es))) in
    let go : (c : Bool) → is_on i s e ≡ c → AllByRecursion (NoTopBehind n) (e ∷ es) = elim [
      | true ↦ λ on.
          let b : is_better s n.order.price.0 e.order.price.0 ≡ false = ap test (sym on) ∙ h in (
            (λ behind top on'. not-both (is_at_earlier_level n e) behind (behind-on n e on ∙ b)),
            all-with (MayPrecedeTop e) (NoTopBehind n) (λ x r behind top on'.
                let onx : is_on i s x ≡ true = on-sym x n on' in
                let price = (r top (on-both i s x e onx on)).1 in
                not-both (is_at_earlier_level n x) behind (behind-on n x onx ∙ ap (λ (p : Price). is_better s n.order.price.0 p.0) (sym price) ∙ b)) es t.0,
          )
      | false ↦ λ off. ((λ behind top on'. not-both (is_on i s e) (on-sym e n on') off), not-best-none n es t.1 (ap test (sym off) ∙ h))
    ] in go (is_on i s e) refl

-- an order that stands in the list is not better than the best of its side
pub standing-not-best : (n : Entry) (s : ℕ) (es : List Entry) → EachPair AreInBookOrder es → HasSlot s es → level_of (order_of s es) ≡ level_of n.order → is_new_best n.order es ≡ false
standing-not-best n s es o has l =
    let P = λ (q : Order). ((q.instrument == n.order.instrument) && is_side q.side n.order.side) ≡ true → is_before (level_of n.order) (level_of q) ≡ true in
    let q = order_of s es in
    let on : ((q.instrument == n.order.instrument) && is_side q.side n.order.side) ≡ true = on-of _ _ _ _ (ap (λ (k : Level). k.instrument) l) (ap (λ (k : Level). k.side) l) in
    let go : (c : Bool) → is_new_best n.order es ≡ c → c ≡ false = elim [
      | true ↦ λ h.
          let b : is_before (level_of n.order) (level_of q) ≡ true = orders-at P s es (new-best-all n es o h) has on in
          not-both (is_before (level_of n.order) (level_of n.order)) (ap (is_before (level_of n.order)) (sym l) ∙ b) (is_before-irrefl (level_of n.order))
      | false ↦ λ h. refl
    ] in go (is_new_best n.order es) refl

-- no order of a side is better than the best
pub best-is-best : (i : ℕ) (s : Side) (p : Price) (es : List Entry) → EachPair AreInBookOrder es → best_of i s es ≡ Some p → AllByRecursion (λ (x : Entry). is_on i s x ≡ true → is_better s x.order.price.0 p.0 ≡ false) es
best-is-best i s p [] o h = tt
best-is-best i s p (e ∷ es) o h =
    let P = λ (x : Entry). is_on i s x ≡ true → is_better s x.order.price.0 p.0 ≡ false in
    let first = λ (c : Bool). price_of (cond c (e ∷ side_of i s es) (side_of i s es)) in
    let go : (c : Bool) → is_on i s e ≡ c → AllByRecursion P (e ∷ es) = elim [
      | true ↦ λ on.
          let is : Some e.order.price ≡ Some p = ap first (sym on) ∙ h in
          let price : e.order.price ≡ p = cc in (
            (λ _. ap (λ (q : Price). is_better s q.0 p.0) price ∙ is_better-irrefl s p.0),
            all-with (λ (x : Entry). AreInBookOrder e x) P (λ x f onx.
                ap (λ (q : Price). is_better s x.order.price.0 q.0) (sym price)
                ∙ ap (λ (d : Side). is_better d x.order.price.0 e.order.price.0) (sym (on-level i s x onx).1)
                ∙ sym (behind-on x e (on-both i s x e onx on)) ∙ f) es o.0,
          )
      | false ↦ λ off. ((λ on. not-both (is_on i s e) on off), best-is-best i s p es o.1 (ap first (sym off) ∙ h))
    ] in go (is_on i s e) refl

-- ---- an order is put in

pub tops-put : (n : Entry) (es : List Entry) → EachPair AreInBookOrder es → EachPair MayPrecedeTop es
    → AllByRecursion (λ (x : Entry). n.is_top ≡ true → is_on n.order.instrument n.order.side x ≡ true → is_at_earlier_level n x ≡ true) es
    → AllByRecursion (NoTopBehind n) es
    → EachPair MayPrecedeTop (placed n es)
tops-put n es o t first none =
    let r = put-in is_at_earlier_level book-order n es o in
    let F = λ (x : Entry). n.is_top ≡ true → is_on n.order.instrument n.order.side x ≡ true → is_at_earlier_level n x ≡ true in
    let A = λ (x : Entry). is_at_earlier_level n x ≡ false in
    let B = λ (x : Entry). is_at_earlier_level n x ≡ true in
    let ins : IsInserted n es (placed n es) = record { front = r.front; back = r.back; whole = r.whole; is = r.place } in
    inserted-pairs ins MayPrecedeTop t
    (all-with (λ x. F x × A x) (λ x. MayPrecedeTop x n) (λ x h top on. not-both (is_at_earlier_level n x) (h.0 top on) h.1) r.front (all-both F A r.front (all-front F r.front r.back (subst (AllByRecursion F) r.whole first)) r.ahead))
    (all-with (λ x. NoTopBehind n x × B x) (λ x. MayPrecedeTop n x) (λ x h top on. absurd (h.0 h.1 top on)) r.back (all-both (NoTopBehind n) B r.back (all-back (NoTopBehind n) r.front r.back (subst (AllByRecursion (NoTopBehind n)) r.whole none)) r.behind))

-- ---- an order changes, and keeps its level

pub tops-mapped : (f : Entry → Entry) → ((e : Entry) → (f e).is_top ≡ e.is_top) → (es : List Entry) → AllByRecursion (λ (e : Entry). level_of (f e).order ≡ level_of e.order) es → EachPair MayPrecedeTop es → EachPair MayPrecedeTop (map f es)
tops-mapped f mark es levels t =
    let on = λ (k l : Level). (l.instrument == k.instrument) && is_side l.side k.side in
    pairs-map MayPrecedeTop MayPrecedeTop (λ (e : Entry). level_of (f e).order ≡ level_of e.order) f (λ a b la lb r top h.
    let q = r (sym (mark b) ∙ top) (ap (λ (k : Level). on k (level_of a.order)) (sym lb) ∙ ap (on (level_of (f b).order)) (sym la) ∙ h) in (
      mark a ∙ q.0,
      price-same _ _ (ap (λ (k : Level). k.price) la ∙ ap (λ (p : Price). p.0) q.1 ∙ sym (ap (λ (k : Level). k.price) lb)),
    )) es levels t

-- ---- TOP is set

module _ (i : ℕ) (s : Side) (top : Option ℕ) where
  -- of two orders of the side only the one after can be the new TOP, and then they have one price
  abbrev CanBeBehind : Entry → Entry → Type 0
  CanBeBehind a b = is_on i s a ≡ true → is_on i s b ≡ true → is_slot_in top b.slot ≡ true → (is_slot_in top a.slot ≡ false) × (a.order.price ≡ b.order.price)

  marks : (b : Bool) (e : Entry) → is_on i s e ≡ b → (topped i s top e).is_top ≡ cond b (is_slot_in top e.slot) e.is_top
  marks b e h = ap (λ (c : Bool). cond c (is_slot_in top e.slot) e.is_top) h

  tops-topped : (es : List Entry) → EachPair CanBeBehind es → EachPair MayPrecedeTop es → EachPair MayPrecedeTop (with_top i s top es)
  tops-topped es c t =
      pairs-map (λ a b. CanBeBehind a b × MayPrecedeTop a b) MayPrecedeTop (λ (e : Entry). Unit {0}) (topped i s top) (λ a b _ _ r mark on.
      let go : (c : Bool) → is_on i s b ≡ c → ((topped i s top a).is_top ≡ false) × (a.order.price ≡ b.order.price) = elim [
        | true ↦ λ h.
            let l = on-level i s b h in
            let m = on-level b.order.instrument b.order.side a on in
            let ona : is_on i s a ≡ true = on-of _ _ _ _ (m.0 ∙ l.0) (m.1 ∙ l.1) in
            let q = r.0 ona h (sym (marks true b h) ∙ mark) in
            (marks true a ona ∙ q.0, q.1)
        | false ↦ λ h.
            let off : (d : Bool) → is_on i s a ≡ d → d ≡ false = elim [
              | true ↦ λ k.
                  let l = on-level i s a k in
                  let m = on-level b.order.instrument b.order.side a on in
                  not-both (is_on i s b) (on-of _ _ _ _ (sym m.0 ∙ l.0) (sym m.1 ∙ l.1)) h
              | false ↦ λ k. refl
            ] in
            let q = r.1 (sym (marks false b h) ∙ mark) on in
            (marks false a (off (is_on i s a) refl) ∙ q.0, q.1)
      ] in go (is_on i s b) refl) es (all-from (λ (e : Entry). Unit {0}) (λ x. tt) es) (pairs-both CanBeBehind MayPrecedeTop es c t)

-- none of a side is TOP
pub tops-none : (i : ℕ) (s : Side) (es : List Entry) → EachPair MayPrecedeTop es → EachPair MayPrecedeTop (with_top i s None es)
tops-none i s es t = tops-topped i s None es (no-behind es) t
  where
    no-behind : (es : List Entry) → EachPair (CanBeBehind i s None) es
    no-behind [] = tt
    no-behind (e ∷ es) = (all-from (CanBeBehind i s None e) (λ x _ _ h. not-both false h refl) es, no-behind es)

-- what holds of the order of a slot holds of each order that has it
pub at-slot : (P : Order → Type 0) (s : ℕ) (es : List Entry) → AllDiffer es → P (order_of s es) → AllByRecursion (λ (e : Entry). e.slot ≡ s → P e.order) es
at-slot P s [] d h = tt
at-slot P s (e ∷ es) d h = elim (eqb_tells e.slot s) [
  | inl t ↦ (
    (λ a. subst (λ (b : Bool). P (cond b e.order (order_of s es))) t.0 h),
    none-at P s es (λ k. d.0 (subst (λ (n : ℕ). HasSlot n es) (sym t.1) k)),
  )
  | inr t ↦ ((λ a. absurd (t.1 a)), at-slot P s es d.1 (subst (λ (b : Bool). P (cond b e.order (order_of s es))) t.0 h))
]
  where
    none-at : (P : Order → Type 0) (s : ℕ) (es : List Entry) → (HasSlot s es → ⊥) → AllByRecursion (λ (e : Entry). e.slot ≡ s → P e.order) es
    none-at P s [] h = tt
    none-at P s (e ∷ es) h = ((λ a. absurd (h (inl a))), none-at P s es (λ k. h (inr k)))

slot-off : (t a b : ℕ) → b ≡ t → b ≢ a → (a == t) ≡ false
slot-off t a b e n = elim (eqb_tells a t) [ inl h ↦ absurd (n (e ∙ sym h.1)) | inr h ↦ h.0 ]

pub tops-set : (i : ℕ) (s : Side) (top : Option ℕ) (es : List Entry) → AllDiffer es → EachPair AreInBookOrder es → EachPair MayPrecedeTop es → CanBeTop i s top es → EachPair MayPrecedeTop (with_top i s top es)
tops-set i s None es d o t can = tops-none i s es t
tops-set i s (Some top) es d o t can =
    let p = (order_of top es).price in
    let A = λ (x : Entry). is_on i s x ≡ true → is_better s x.order.price.0 p.0 ≡ false in
    let B = λ (x : Entry). x.slot ≡ top → x.order.price ≡ p in
    let D = λ (a b : Entry). b.slot ≢ a.slot in
    tops-topped i s (Some top) es
    (pairs-with (λ a b. D a b × AreInBookOrder a b) (CanBeBehind i s (Some top)) (λ x. A x × B x) (λ a b ha hb r ona onb is.
    let slot : b.slot ≡ top = (Decides-eqb b.slot top).0 is in
    let price : b.order.price ≡ p = hb.1 slot in
    let l = on-level i s b onb in
    let back : is_better s p.0 a.order.price.0 ≡ false =
    ap (λ (q : Price). is_better s q.0 a.order.price.0) (sym price) ∙ ap (λ (x : Side). is_better x b.order.price.0 a.order.price.0) (sym l.1) ∙ sym (behind-on b a (on-both i s b a onb ona)) ∙ r.1 in
    (slot-off top a.slot b.slot slot r.0, price-same _ _ (better-same s _ _ (ha.0 ona) back) ∙ sym price)) es
    (all-both A B es (best-is-best i s p es o can.1) (at-slot (λ (q : Order). q.price ≡ p) top es d refl))
    (pairs-both D AreInBookOrder es (differ-pairs es d) o)) t
  where
    all-pair-with : (R S : Entry → Entry → Type 0) (H : Entry → Type 0) (e : Entry) → H e → ((a b : Entry) → H a → H b → R a b → S a b) → (es : List Entry) → AllByRecursion H es → AllByRecursion (R e) es → AllByRecursion (S e) es
    all-pair-with R S H e h k [] a r = tt
    all-pair-with R S H e h k (x ∷ es) a r = (k e x h a.0 r.0, all-pair-with R S H e h k es a.1 r.1)

    pairs-with : (R S : Entry → Entry → Type 0) (H : Entry → Type 0) → ((a b : Entry) → H a → H b → R a b → S a b) → (es : List Entry) → AllByRecursion H es → EachPair R es → EachPair S es
    pairs-with R S H k [] a r = tt
    pairs-with R S H k (e ∷ es) a r = (all-pair-with R S H e a.0 k es a.1 r.0, pairs-with R S H k es a.1 r.1)
