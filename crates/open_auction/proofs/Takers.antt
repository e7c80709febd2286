-- The orders of a side that would trade at a price, one after the other.
use Rattle.std.proofs.Common.{◌≡◌, ℕ, Bool, true, false, cond, not, List, [], ◌∷◌, ◌++◌, filter, Option, Some, None, option_map, refl, sym, ap, subst, ◌∙◌, inl, inr, append_assoc, ◌-◌, ◌<◌, arith}
use Rattle.std.specs.Prelude.{ℤ, ◌==◌}
use Rattle.std.specs.List.{AllByRecursion}
use Rattle.std.proofs.lemmas.Bool.Decides.{Decides-int_eq, Decides-eqb, eqb_tells}
use Rattle.std.proofs.lemmas.List.Elements.{filter-append}
use Rattle.gx_base.specs.declared.price.Price.{Price}
use Rattle.gx_base.specs.declared.order.Side.{Side}
use Rattle.gx_base.specs.declared.order.Order.{Order}
use Rattle.gx_base.specs.declared.order.Slot.{Slot}
use Rattle.plain_book.specs.declared.entry.Entry.{Entry}
use Rattle.plain_book.specs.Orders.{level, level_of, is_on, is_better, is_within, side_of, orders_at, price_of, best_of, worse_of, slot_of, slot_after, order_of, HasSlot}
use Rattle.plain_book.specs.Book.{Book, IsRight, AllDiffer, EachPair, AreInBookOrder, live_orders, slot_number}
use Rattle.plain_book.proofs.Levels.{AllDiffer-filter, AllDiffer-front, slot_after-middle, HasSlot-filter, HasSlot-left, order_of-left, order_of-filter}
use Rattle.book_order.proofs.Levels.{same as same_number, is_better-irrefl}
use Rattle.plain_book.proofs.Pairs.{all-with, all-append, all-back, pairs-back}
use Rattle.plain_book.proofs.Walks.{Stands, stands-has, stands-order, stands-after}
use Rattle.book_order.proofs.Before.{better-past}
use Rattle.gx_base.proofs.Tests.{not-both}
use Rattle.book_walks.proofs.SideLevels.{either, at_price, is_worse, InPriceOrder, side-in-order, level-of-side, int_eq-not, better-then, better-same, behind-worse, worse-not-at}
use Rattle.open_auction.specs.Pairs.{takers}
use Rattle.open_auction.specs.Inner.SideWalk.{first_within, from_slot, orders_from, with_left, HasOne, open_at_slot, first_left, first_gives}
use Rattle.open_auction.specs.declared.side_walk.Left.{Left}
use Rattle.open_auction.proofs.Prices.{keeps, drops, keeps-all, drops-all}

module _ (i : ℕ) (s : Side) (limit : Price) (es : List Entry) where
  abbrev W : Entry → Bool
  W e = is_within s limit.0 e.order.price.0

  abbrev S : List Entry
  S = side_of i s es

  abbrev T : List Entry
  T = takers i s limit es

  -- after an order that is beyond the limit, all are
  all-beyond : (y : Entry) (ys : List Entry) → is_better s limit.0 y.order.price.0 ≡ true → AllByRecursion (InPriceOrder s y) ys → AllByRecursion (λ (x : Entry). W x ≡ false) ys
  all-beyond y ys h k = all-with (InPriceOrder s y) (λ (x : Entry). W x ≡ false) (λ x g. ap not (better-past s limit.0 y.order.price.0 x.order.price.0 h g)) ys k

  -- the first of the orders that are after all better ones
  pub first-within : (A B : List Entry) → S ≡ A ++ B → EachPair (InPriceOrder s) B → ((y : Entry) (ys : List Entry) → B ≡ y ∷ ys → AllByRecursion (λ (x : Entry). at_price y.order.price.0 x ≡ false) A)
      → (o : Option Price) → o ≡ price_of B → first_within i s limit es o ≡ slot_of (filter W B)
  first-within A [] is o ahead at h = ap (first_within i s limit es) h
  first-within A (y ∷ ys) is o ahead at h =
      let p = y.order.price in
      let level-is : orders_at (level i s p) es ≡ filter (at_price p.0) A ++ filter (at_price p.0) (y ∷ ys) =
      level-of-side i s p es ∙ ap (λ (l : List Entry). filter (at_price p.0) l) is ∙ filter-append (at_price p.0) A (y ∷ ys) in
      let none : filter (at_price p.0) A ≡ [] = drops-all (at_price p.0) A (ahead y ys refl) in
      let here : slot_of (orders_at (level i s p) es) ≡ Some y.slot =
      ap slot_of (level-is ∙ ap (λ (l : List Entry). l ++ filter (at_price p.0) (y ∷ ys)) none ∙ keeps (at_price p.0) y ys ((Decides-int_eq p.0 p.0).1 refl)) in
      ap (first_within i s limit es) h
      ∙ elim (either (is_better s limit.0 p.0)) [
        | inl beyond ↦
            ap (λ (b : Bool). cond b None (slot_of (orders_at (level i s p) es))) beyond
            ∙ sym (ap slot_of (drops W y ys (ap not beyond) ∙ drops-all W ys (all-beyond y ys beyond o.0)))
        | inr fits ↦
            ap (λ (b : Bool). cond b None (slot_of (orders_at (level i s p) es))) fits
            ∙ here
            ∙ sym (ap slot_of (keeps W y ys (ap not fits)))
      ]

  -- an order of those that would trade, among these
  pub record SplitAt (xs : List Entry) (slot : ℕ) : Type 0 where
    pub before : List Entry
    pub e : Entry
    pub behind : List Entry
    pub is : xs ≡ before ++ e ∷ behind
    pub within : W e ≡ true
    pub named : e.slot ≡ slot

  pub split-at : (xs : List Entry) (slot : ℕ) → HasSlot slot (filter W xs) → SplitAt xs slot
  split-at [] slot h = absurd h
  split-at (x ∷ xs) slot h =
      let later : HasSlot slot (filter W xs) → SplitAt (x ∷ xs) slot = λ k.
      let t : SplitAt xs slot = split-at xs slot k in
      record { before = x ∷ t.before; e = t.e; behind = t.behind; is = ap (λ (l : List Entry). x ∷ l) t.is; within = t.within; named = t.named } in
      elim (either (W x)) [
        | inl pass ↦
            let k : HasSlot slot (x ∷ filter W xs) = subst (HasSlot slot) (keeps W x xs pass) h in
            elim k [
              | inl here ↦ record { before = []; e = x; behind = xs; is = refl; within = pass; named = here }
              | inr more ↦ later more
            ]
        | inr stop ↦ later (subst (HasSlot slot) (drops W x xs stop) h)
      ]

-- ---- what a book tells of such an order, and of the one after it

slot-some : (o : Option ℕ) (l : List Entry) → o ≡ slot_of l → (n : ℕ) → o ≡ Some n → (z : Entry) × (zs : List Entry) × (l ≡ z ∷ zs)
slot-some o [] h n k = absurd (let e : None ≡ Some n = sym h ∙ k in cc)
slot-some o (z ∷ zs) h n k = (z, zs, refl)

-- each before one of some that stand in order is no worse than it, and each after it no better
in-front : (s : Side) (A B : List Entry) (e : Entry) → EachPair (InPriceOrder s) (A ++ e ∷ B) → AllByRecursion (λ (a : Entry). InPriceOrder s a e) A
in-front s [] B e o = tt
in-front s (a ∷ A) B e o = ((all-back (InPriceOrder s a) A (e ∷ B) o.0).0, in-front s A B e o.1)

module _ (i : ℕ) (s : Side) (limit : Price) (es A B : List Entry) (e : Entry) (is : side_of i s es ≡ A ++ e ∷ B) (fits : is_within s limit.0 e.order.price.0 ≡ true) (ordered : EachPair AreInBookOrder es) where
  abbrev within : Entry → Bool
  within x = is_within s limit.0 x.order.price.0

  abbrev p : ℤ
  p = e.order.price.0

  abbrev same : Entry → Bool
  same x = at_price p x

  order : EachPair (InPriceOrder s) (A ++ e ∷ B)
  order = subst (EachPair (InPriceOrder s)) is (side-in-order i s es ordered)

  ends : EachPair (InPriceOrder s) (e ∷ B)
  ends = pairs-back (InPriceOrder s) A (e ∷ B) order

  pub level-split : orders_at (level i s e.order.price) es ≡ filter same A ++ e ∷ filter same B
  level-split =
      level-of-side i s e.order.price es
      ∙ ap (λ (l : List Entry). filter same l) is
      ∙ filter-append same A (e ∷ B)
      ∙ ap (λ (l : List Entry). filter same A ++ l) (keeps same e B ((Decides-int_eq p p).1 refl))

  pub takers-split : takers i s limit es ≡ filter within A ++ e ∷ filter within B
  takers-split =
      ap (λ (l : List Entry). filter within l) is
      ∙ filter-append within A (e ∷ B)
      ∙ ap (λ (l : List Entry). filter within A ++ l) (keeps within e B fits)

  -- one after it that is not at its price is worse
  worse-of : (x : Entry) → InPriceOrder s e x → same x ≡ false → is_better s p x.order.price.0 ≡ true
  worse-of x h not_at = elim (either (is_better s p x.order.price.0)) [
    | inl t ↦ t
    | inr f ↦ not-both (same x) ((Decides-int_eq x.order.price.0 p).1 (better-same s x.order.price.0 p h f)) not_at
  ]

  -- what is at the price and what is worse, after it
  next-same : (xs zs : List Entry) (z : Entry) → AllByRecursion (InPriceOrder s e) xs → EachPair (InPriceOrder s) xs → filter same xs ≡ z ∷ zs → slot_of (filter within xs) ≡ Some z.slot
  next-same [] zs z h o k = absurd (let c : [] ≡ z ∷ zs = k in cc)
  next-same (x ∷ xs) zs z h o k = elim (either (same x)) [
    | inl at ↦
        let eq : x.order.price.0 ≡ p = (Decides-int_eq x.order.price.0 p).0 at in
        let first : x ∷ filter same xs ≡ z ∷ zs = sym (keeps same x xs at) ∙ k in
        let it : x ≡ z = cc in
        ap slot_of (keeps within x xs (ap (λ (q : ℤ). is_within s limit.0 q) eq ∙ fits)) ∙ ap (λ (y : Entry). Some y.slot) it
    | inr not_at ↦
        let none : filter same xs ≡ [] = drops-all same xs (worse-not-at s p xs (behind-worse s p x xs (worse-of x h.0 not_at) o.0)) in
        absurd (let c : [] ≡ z ∷ zs = sym none ∙ sym (drops same x xs not_at) ∙ k in cc)
  ]

  all-worse : (xs : List Entry) → AllByRecursion (InPriceOrder s e) xs → filter same xs ≡ [] → AllByRecursion (λ (x : Entry). is_worse s p x ≡ true) xs
  all-worse [] h k = tt
  all-worse (x ∷ xs) h k = elim (either (same x)) [
    | inl at ↦ absurd (let c : x ∷ filter same xs ≡ [] = sym (keeps same x xs at) ∙ k in cc)
    | inr not_at ↦ (worse-of x h.0 not_at, all-worse xs h.1 (sym (drops same x xs not_at) ∙ k))
  ]

  -- where another one stands at its price, it is the next
  pub behind-same : (n : ℕ) → slot_of (filter same B) ≡ Some n → slot_of (filter within B) ≡ Some n
  behind-same n h =
      let f = slot-some (Some n) (filter same B) (sym h) n refl in
      next-same B f.1 f.0 ends.0 ends.1 f.2 ∙ sym (ap slot_of f.2) ∙ h

  -- where none does, it is the first at the next price
  pub behind-worst : slot_of (filter same B) ≡ None → (o : Option Price) → o ≡ worse_of i s p es → first_within i s limit es o ≡ slot_of (filter within B)
  behind-worst h o k =
      let none : filter same B ≡ [] = slot-none (filter same B) h in
      let worse = all-worse B ends.0 none in
      let all : filter (is_worse s p) (A ++ e ∷ B) ≡ B =
      filter-append (is_worse s p) A (e ∷ B)
      ∙ ap (λ (l : List Entry). l ++ filter (is_worse s p) (e ∷ B)) (drops-all (is_worse s p) A (in-front s A B e order))
      ∙ drops (is_worse s p) e B (is_better-irrefl s p)
      ∙ keeps-all (is_worse s p) B worse in
      first-within i s limit es (A ++ e ∷ []) B (is ∙ sym (append_assoc A (e ∷ []) B)) ends.1
      (λ y ys eq. front-apart y (subst (AllByRecursion (λ (x : Entry). is_worse s p x ≡ true)) eq worse).0)
      o (k ∙ ap (λ (l : List Entry). price_of (filter (is_worse s p) l)) is ∙ ap price_of all)
    where
      slot-none : (l : List Entry) → slot_of l ≡ None → l ≡ []
      slot-none [] h = refl
      slot-none (z ∷ zs) h = absurd (let c : Some z.slot ≡ None = h in cc)

      front-apart : (y : Entry) → is_better s p y.order.price.0 ≡ true → AllByRecursion (λ (x : Entry). at_price y.order.price.0 x ≡ false) (A ++ e ∷ [])
      front-apart y better =
          let apart = λ (x : Entry) (h : is_better s x.order.price.0 y.order.price.0 ≡ true). int_eq-not x.order.price.0 y.order.price.0 (λ eq. not-both (is_better s x.order.price.0 y.order.price.0) h (ap (λ (q : ℤ). is_better s q y.order.price.0) eq ∙ is_better-irrefl s y.order.price.0)) in
          all-append (λ (x : Entry). at_price y.order.price.0 x ≡ false) A (e ∷ [])
          (all-with (λ (a : Entry). InPriceOrder s a e) (λ (x : Entry). at_price y.order.price.0 x ≡ false) (λ a h. apart a (better-then s p y.order.price.0 a.order.price.0 better h)) A (in-front s A B e order))
          (apart e better, tt)

-- ---- the calls

pub first-is-taken : (b : Book) → IsRight b → (i : ℕ) (s : Side) (limit : Price) (o : Option Price) → o ≡ best_of i s b.resting → first_within i s limit b.resting o ≡ slot_of (takers i s limit b.resting)
first-is-taken b right i s limit o h = first-within i s limit b.resting [] (side_of i s b.resting) refl (side-in-order i s b.resting right.ordered) (λ y ys eq. tt) o h

module _ (i : ℕ) (s : Side) (limit : Price) (b : Book) (right : IsRight b) (slot : ℕ) (has : HasSlot slot (takers i s limit b.resting)) where
  pub split : SplitAt i s limit b.resting (side_of i s b.resting) slot
  split = split-at i s limit b.resting (side_of i s b.resting) slot has

  differ : AllDiffer b.resting
  differ = AllDiffer-front b.resting b.waiting right.differ

  stands : Stands (level i s split.e.order.price) b.resting (filter (at_price split.e.order.price.0) split.before) split.e (filter (at_price split.e.order.price.0) split.behind)
  stands = record { differ = differ; is = level-split i s limit b.resting split.before split.behind split.e split.is split.within right.ordered }

  pub taker-has : HasSlot slot b.resting
  taker-has = subst (λ (k : ℕ). HasSlot k b.resting) split.named (stands-has stands)

  pub taker-live : HasSlot slot (live_orders b)
  taker-live = HasSlot-left slot b.resting b.waiting taker-has

  pub taker-order : order_of slot (live_orders b) ≡ split.e.order
  taker-order = order_of-left slot b.resting b.waiting taker-has ∙ ap (λ (k : ℕ). order_of k b.resting) (sym split.named) ∙ stands-order stands

  same-next : slot_after slot (orders_at (level_of (order_of slot b.resting)) b.resting) ≡ slot_of (filter (at_price split.e.order.price.0) split.behind)
  same-next = ap (λ (k : ℕ). slot_after k (orders_at (level_of (order_of k b.resting)) b.resting)) (sym split.named) ∙ stands-after stands

  all-next : slot_after slot (takers i s limit b.resting) ≡ slot_of (filter (λ (x : Entry). is_within s limit.0 x.order.price.0) split.behind)
  all-next =
      let parts = takers-split i s limit b.resting split.before split.behind split.e split.is split.within right.ordered in
      let d = AllDiffer-filter (λ (x : Entry). is_within s limit.0 x.order.price.0) (side_of i s b.resting) (AllDiffer-filter (is_on i s) b.resting differ) in
      ap (λ (k : ℕ). slot_after k (takers i s limit b.resting)) (sym split.named)
      ∙ ap (slot_after split.e.slot) parts
      ∙ slot_after-middle (filter (λ (x : Entry). is_within s limit.0 x.order.price.0) split.before) (filter (λ (x : Entry). is_within s limit.0 x.order.price.0) split.behind) split.e (subst AllDiffer parts d)

  -- the next at its price is the next
  pub next-at-price : (n : Option ℕ) (m : ℕ) → n ≡ slot_after slot (orders_at (level_of (order_of slot b.resting)) b.resting) → n ≡ Some m → n ≡ slot_after slot (takers i s limit b.resting)
  next-at-price n m h k = k ∙ sym (behind-same i s limit b.resting split.before split.behind split.e split.is split.within right.ordered m (sym same-next ∙ sym h ∙ k)) ∙ sym all-next

  -- the next at the next price is
  pub next-at-worse : (n : Option ℕ) (o : Option Price) (p : Price) → n ≡ slot_after slot (orders_at (level_of (order_of slot b.resting)) b.resting) → n ≡ None → p ≡ (order_of slot (live_orders b)).price → o ≡ worse_of i s p.0 b.resting
      → first_within i s limit b.resting o ≡ slot_after slot (takers i s limit b.resting)
  next-at-worse n o p h k at g =
      behind-worst i s limit b.resting split.before split.behind split.e split.is split.within right.ordered (sym same-next ∙ sym h ∙ k) o
      (g ∙ ap (λ (q : Price). worse_of i s q.0 b.resting) (at ∙ ap (λ (x : Order). x.price) taker-order))
      ∙ sym all-next

-- ---- a walk over them

-- the orders from that of a slot on: it, and those after it
pub record FromSlot (es : List Entry) (slot : ℕ) : Type 0 where
  pub e : Entry
  pub behind : List Entry
  pub is : from_slot slot es ≡ e ∷ behind
  pub named : e.slot ≡ slot
  pub order : order_of slot es ≡ e.order
  pub next : orders_from (slot_after slot es) es ≡ behind
  pub has_next : HasOne (slot_after slot es) es

other-slot : (a b : ℕ) → (a ≡ b → ⊥) → (a == b) ≡ false
other-slot a b h = elim (eqb_tells a b) [ inl t ↦ absurd (h t.1) | inr t ↦ t.0 ]

-- the orders from one on that stands after e
skip-first : (e : Entry) (es : List Entry) (n : Option ℕ) → (HasSlot e.slot es → ⊥) → HasOne n es → orders_from n (e ∷ es) ≡ orders_from n es
skip-first e es None d h = refl
skip-first e es (Some k) d h = ap (λ (b : Bool). cond b (e ∷ es) (from_slot k es)) (other-slot e.slot k (λ x. d (subst (λ (m : ℕ). HasSlot m es) (sym x) h)))

first-one : (es : List Entry) → HasOne (slot_of es) es
first-one [] = tt
first-one (e ∷ es) = inl refl

one-more : (e : Entry) (es : List Entry) (n : Option ℕ) → HasOne n es → HasOne n (e ∷ es)
one-more e es None h = tt
one-more e es (Some k) h = inr h

all-from-first : (es : List Entry) → orders_from (slot_of es) es ≡ es
all-from-first [] = refl
all-from-first (e ∷ es) = ap (λ (b : Bool). cond b (e ∷ es) (from_slot e.slot es)) (same_number e.slot)

pub from-slot : (es : List Entry) (slot : ℕ) → AllDiffer es → HasSlot slot es → FromSlot es slot
from-slot [] slot d h = absurd h
from-slot (e ∷ es) slot d h = elim (eqb_tells e.slot slot) [
  | inl t ↦
      let after : slot_after slot (e ∷ es) ≡ slot_of es = ap (λ (b : Bool). cond b (slot_of es) (slot_after slot es)) t.0 in
      record {
        e = e;
        behind = es;
        is = ap (λ (b : Bool). cond b (e ∷ es) (from_slot slot es)) t.0;
        named = t.1;
        order = ap (λ (b : Bool). cond b e.order (order_of slot es)) t.0;
        next = ap (λ (n : Option ℕ). orders_from n (e ∷ es)) after ∙ skip-first e es (slot_of es) d.0 (first-one es) ∙ all-from-first es;
        has_next = subst (λ (n : Option ℕ). HasOne n (e ∷ es)) (sym after) (one-more e es (slot_of es) (first-one es));
      }
  | inr t ↦
      let k : HasSlot slot es = elim h [ inl x ↦ absurd (t.1 x) | inr x ↦ x ] in
      let rest : FromSlot es slot = from-slot es slot d.1 k in
      let after : slot_after slot (e ∷ es) ≡ slot_after slot es = ap (λ (b : Bool). cond b (slot_of es) (slot_after slot es)) t.0 in
      record {
        e = rest.e;
        behind = rest.behind;
        is = ap (λ (b : Bool). cond b (e ∷ es) (from_slot slot es)) t.0 ∙ rest.is;
        named = rest.named;
        order = ap (λ (b : Bool). cond b e.order (order_of slot es)) t.0 ∙ rest.order;
        next = ap (λ (n : Option ℕ). orders_from n (e ∷ es)) after ∙ skip-first e es (slot_after slot es) d.0 rest.has_next ∙ rest.next;
        has_next = subst (λ (n : Option ℕ). HasOne n (e ∷ es)) (sym after) (one-more e es (slot_after slot es) rest.has_next);
      }
]

-- what is open of an order is what it has left before it gives anything
pub untouched : (n : Option ℕ) (es : List Entry) → AllDiffer es → HasOne n es → with_left (open_at_slot n es) (orders_from n es) ≡ orders_from n es
untouched None es d h = refl
untouched (Some slot) es d h =
    let f = from-slot es slot d h in
    ap (with_left (order_of slot es).leaves) f.is
    ∙ ap (λ (o : Order). with_left o.leaves (f.e ∷ f.behind)) f.order
    ∙ sym f.is

-- the order that a walk stands at
pub at-one : (at : Option Slot) (slot : Slot) (es : List Entry) → HasOne (option_map slot_number at) es → at ≡ Some slot → HasSlot slot.0 es
at-one at slot es h is = subst (λ (o : Option Slot). HasOne (option_map slot_number o) es) is h

module _ (b : Book) (right : IsRight b) (i : ℕ) (s : Side) (p : Price) where
  abbrev pub T2 : List Entry
  T2 = takers i s p b.resting

  pub takers-differ : AllDiffer T2
  takers-differ = AllDiffer-filter (λ (x : Entry). is_within s p.0 x.order.price.0) (side_of i s b.resting) (AllDiffer-filter (is_on i s) b.resting (AllDiffer-front b.resting b.waiting right.differ))

  pub taker-lives : (n : Option ℕ) → HasOne n T2 → HasOne n (live_orders b)
  taker-lives None h = tt
  taker-lives (Some slot) h = taker-live i s p b right slot h

  -- what is open of it is known among the live orders
  taker-open : (n : Option ℕ) → HasOne n T2 → open_at_slot n (live_orders b) ≡ open_at_slot n T2
  taker-open None h = refl
  taker-open (Some slot) h =
      ap (λ (o : Order). o.leaves)
      (order_of-left slot b.resting b.waiting (taker-has i s p b right slot h)
      ∙ sym (order_of-filter (λ (x : Entry). is_on i s x) slot b.resting (AllDiffer-front b.resting b.waiting right.differ) on)
      ∙ sym (order_of-filter (λ (x : Entry). is_within s p.0 x.order.price.0) slot (side_of i s b.resting) (AllDiffer-filter (is_on i s) b.resting (AllDiffer-front b.resting b.waiting right.differ)) h))
    where
      on : HasSlot slot (side_of i s b.resting)
      on = HasSlot-filter (λ (x : Entry). is_within s p.0 x.order.price.0) slot (side_of i s b.resting) h

  -- a walk that comes to an order has all of it to give
  pub comes-to : (n : Option ℕ) (left : ℕ) → HasOne n T2 → left ≡ open_at_slot n (live_orders b) → with_left left (orders_from n T2) ≡ orders_from n T2
  comes-to n left h k = ap (λ (m : ℕ). with_left m (orders_from n T2)) (k ∙ taker-open n h) ∙ untouched n T2 takers-differ h

  pub starts : (n : Option ℕ) → n ≡ slot_of T2 → HasOne n T2 × (orders_from n T2 ≡ T2)
  starts n h = (subst (λ (m : Option ℕ). HasOne m T2) (sym h) (first-one T2), ap (λ (m : Option ℕ). orders_from m T2) h ∙ all-from-first T2)

  module _ (slot : ℕ) (has : HasSlot slot T2) where
    abbrev f : FromSlot T2 slot
    f = from-slot T2 slot takers-differ has

    pub taker-number : order_of slot (live_orders b) ≡ f.e.order
    taker-number =
        order_of-left slot b.resting b.waiting (taker-has i s p b right slot has)
        ∙ sym (order_of-filter (is_on i s) slot b.resting (AllDiffer-front b.resting b.waiting right.differ) (HasSlot-filter (λ (x : Entry). is_within s p.0 x.order.price.0) slot (side_of i s b.resting) has))
        ∙ sym (order_of-filter (λ (x : Entry). is_within s p.0 x.order.price.0) slot (side_of i s b.resting) (AllDiffer-filter (is_on i s) b.resting (AllDiffer-front b.resting b.waiting right.differ)) has)
        ∙ f.order

    -- the first of those to give, by what the book tells of it
    pub first-is : (left : ℕ) (o : Order) → o ≡ order_of slot (live_orders b) → first_left (with_left left (from_slot slot T2)) ≡ Some (record { number = o.number; lots = left })
    first-is left o h =
        ap (λ (l : List Entry). first_left (with_left left l)) f.is
        ∙ ap (λ (x : Order). let l : Left = record { number = x.number; lots = left } in Some l) (sym (h ∙ taker-number))

    -- it gives some of what it has
    pub gives-some : (left lots : ℕ) → lots < left → with_left (left - lots) (from_slot slot T2) ≡ first_gives lots (with_left left (from_slot slot T2))
    gives-some left lots h =
        let other : (left == lots) ≡ false = other-slot left lots (λ e. absurd (omega (arith, h, e))) in
        ap (with_left (left - lots)) f.is
        ∙ sym (ap (λ (l : List Entry). first_gives lots (with_left left l)) f.is ∙ ap (λ (b : Bool). cond b f.behind (record f.e { order = record f.e.order { leaves = left - lots } } ∷ f.behind)) other)

    pub next-one : (n : Option ℕ) → n ≡ slot_after slot T2 → HasOne n T2
    next-one n is = subst (λ (m : Option ℕ). HasOne m T2) (sym is) f.has_next

    -- it gives all that it has, and the walk comes to the next
    pub gives-all : (left lots : ℕ) (n : Option ℕ) (next_left : ℕ) → left ≡ lots → n ≡ slot_after slot T2 → next_left ≡ open_at_slot n (live_orders b) → with_left next_left (orders_from n T2) ≡ first_gives lots (with_left left (from_slot slot T2))
    gives-all left lots n next_left all is opened =
        comes-to n next_left (next-one n is) opened
        ∙ ap (λ (m : Option ℕ). orders_from m T2) is
        ∙ f.next
        ∙ sym (ap (λ (l : List Entry). first_gives lots (with_left left l)) f.is ∙ ap (λ (b : Bool). cond b f.behind (record f.e { order = record f.e.order { leaves = left - lots } } ∷ f.behind)) ((Decides-eqb left lots).1 all))
