-- The orders of an instrument in book order: its buys and then its sells, and each side level by level.
use Rattle.std.proofs.Common.{◌≡◌, ℕ, ◌<◌, Bool, true, false, cond, not, ◌&&◌, ◌||◌, List, [], ◌∷◌, ◌++◌, filter, length, Option, Some, None, refl, sym, ap, ◌∙◌, arith, inl, inr, ◌⊎◌, length-append}
use Rattle.std.specs.Prelude.{ℤ, ◌==◌}
use Rattle.std.specs.Ordering.{int_eq}
use Rattle.std.specs.List.{AllByRecursion}
use Rattle.std.proofs.lemmas.Bool.Decides.{Decides-eqb, Decides-int_eq}
use Rattle.gx_base.specs.declared.price.Price.{Price}
use Rattle.gx_base.specs.declared.order.Side.{Side}
use Rattle.gx_base.specs.declared.order.Side.TheVariants.{Buy, Sell}
use Rattle.gx_base.proofs.Tests.{not-both, int-same}
use Rattle.book_order.proofs.Before.{int-past, int-back, better-past, better-apart}
use Rattle.plain_book.specs.declared.entry.Entry.{Entry}
use Rattle.plain_book.specs.Orders.{Level, level, level_of, is_of, is_on, is_side, is_before, is_better, is_at_earlier_level, side_of, orders_at, price_of, best_of, worse_of}
use Rattle.plain_book.specs.Book.{EachPair, AreInBookOrder}
use Rattle.plain_book.proofs.Levels.{same, and-left, and-right, is_side-same, is_side-refl, nat_lt-irrefl, side_before-irrefl, is_better-irrefl, level_at}
use Rattle.plain_book.proofs.Pairs.{all-with, all-passing, pairs-filter}

pub either : (b : Bool) → (b ≡ true) ⊎ (b ≡ false)
either true = inl refl
either false = inr refl

-- ---- prices in their order

pub better-same : (s : Side) (a b : ℤ) → is_better s a b ≡ false → is_better s b a ≡ false → a ≡ b
better-same Buy a b h k = int-same a b k h
better-same Sell a b h k = int-same a b h k

-- what a betters is bettered by what is not worse than a
pub better-then : (s : Side) (a b c : ℤ) → is_better s a b ≡ true → is_better s a c ≡ false → is_better s c b ≡ true
better-then Buy a b c h k = int-past b a c h k
better-then Sell a b c h k = int-back b a c h k

-- ---- one side

-- b, which stands after a, is not better
abbrev pub InPriceOrder : Side → Entry → Entry → Type 0
InPriceOrder s a b = is_better s b.order.price.0 a.order.price.0 ≡ false

abbrev pub OnSide : ℕ → Side → Entry → Type 0
OnSide i s x = (x.order.instrument ≡ i) × (x.order.side ≡ s)

pub on-side : (i : ℕ) (s : Side) (x : Entry) → is_on i s x ≡ true → OnSide i s x
on-side i s x h = ((Decides-eqb x.order.instrument i).0 (and-left _ _ h), is_side-same _ _ (and-right (x.order.instrument == i) _ h))

pub on-of : (i : ℕ) (s : Side) (x : Entry) → OnSide i s x → is_on i s x ≡ true
on-of i s x on =
    ap (λ (n : ℕ). (n == i) && is_side x.order.side s) on.0
    ∙ ap (λ (d : Side). (i == i) && is_side d s) on.1
    ∙ ap (λ (b : Bool). b && is_side s s) (same i)
    ∙ is_side-refl s

before-parts : (a b c d e : Bool) → a ≡ false → b ≡ true → c ≡ false → d ≡ true → (a || (b && (c || (d && e)))) ≡ e
before-parts a b c d e p q r t = grind arith

before-same : (i : ℕ) (s : Side) (p q : ℤ) → is_before (level_at i s p) (level_at i s q) ≡ is_better s p q
before-same i s p q = before-parts _ (i == i) _ (is_side s s) (is_better s p q) (nat_lt-irrefl i) (same i) (side_before-irrefl s) (is_side-refl s)

level-on : (i : ℕ) (s : Side) (x : Entry) → OnSide i s x → level_of x.order ≡ level_at i s x.order.price.0
level-on i s x on = ap (λ (n : ℕ). level_at n x.order.side x.order.price.0) on.0 ∙ ap (λ (d : Side). level_at i d x.order.price.0) on.1

in-price-order : (i : ℕ) (s : Side) (a b : Entry) → OnSide i s a → OnSide i s b → AreInBookOrder a b → InPriceOrder s a b
in-price-order i s a b l m h =
    sym (before-same i s b.order.price.0 a.order.price.0)
    ∙ ap (λ (k : Level). is_before k (level_at i s a.order.price.0)) (sym (level-on i s b m))
    ∙ ap (λ (k : Level). is_before (level_of b.order) k) (sym (level-on i s a l))
    ∙ h

all-in-order : (i : ℕ) (s : Side) (a : Entry) (es : List Entry) → OnSide i s a → AllByRecursion (OnSide i s) es → AllByRecursion (AreInBookOrder a) es → AllByRecursion (InPriceOrder s a) es
all-in-order i s a [] l h k = tt
all-in-order i s a (e ∷ es) l h k = (in-price-order i s a e l h.0 k.0, all-in-order i s a es l h.1 k.1)

pairs-in-order : (i : ℕ) (s : Side) (es : List Entry) → AllByRecursion (OnSide i s) es → EachPair AreInBookOrder es → EachPair (InPriceOrder s) es
pairs-in-order i s [] h k = tt
pairs-in-order i s (e ∷ es) h k = (all-in-order i s e es h.0 h.1 k.0, pairs-in-order i s es h.1 k.1)

pub all-on-side : (i : ℕ) (s : Side) (es : List Entry) → AllByRecursion (OnSide i s) (side_of i s es)
all-on-side i s es = all-passing (OnSide i s) (is_on i s) (on-side i s) es

pub side-in-order : (i : ℕ) (s : Side) (es : List Entry) → EachPair AreInBookOrder es → EachPair (InPriceOrder s) (side_of i s es)
side-in-order i s es h = pairs-in-order i s (side_of i s es) (all-on-side i s es) (pairs-filter AreInBookOrder (is_on i s) es h)

-- ---- the levels of a side

abbrev pub at_price : ℤ → Entry → Bool
at_price p e = int_eq e.order.price.0 p

abbrev pub is_worse : Side → ℤ → Entry → Bool
is_worse s p e = is_better s p e.order.price.0

abbrev pub not_better : Side → ℤ → Entry → Bool
not_better s p e = not (is_better s e.order.price.0 p)

abbrev pub worse_orders : Side → Price → List Entry → List Entry
worse_orders s p es = filter (is_worse s p.0) es

-- what a walk by prices has still to put out
abbrev pub from_price : Side → Option Price → List Entry → List Entry
from_price s None es = []
from_price s (Some p) es = filter (not_better s p.0) es

pub filter-all : (p : Entry → Bool) (es : List Entry) → AllByRecursion (λ (x : Entry). p x ≡ true) es → filter p es ≡ es
filter-all p [] h = refl
filter-all p (x ∷ es) h = ap (λ (b : Bool). cond b (x ∷ filter p es) (filter p es)) h.0 ∙ ap (λ (q : List Entry). x ∷ q) (filter-all p es h.1)

pub filter-none : (p : Entry → Bool) (es : List Entry) → AllByRecursion (λ (x : Entry). p x ≡ false) es → filter p es ≡ []
filter-none p [] h = refl
filter-none p (x ∷ es) h = ap (λ (b : Bool). cond b (x ∷ filter p es) (filter p es)) h.0 ∙ filter-none p es h.1

pub pass : (p : Entry → Bool) (x : Entry) (es : List Entry) → p x ≡ true → filter p (x ∷ es) ≡ x ∷ filter p es
pass p x es h = ap (λ (b : Bool). cond b (x ∷ filter p es) (filter p es)) h

pub stop : (p : Entry → Bool) (x : Entry) (es : List Entry) → p x ≡ false → filter p (x ∷ es) ≡ filter p es
stop p x es h = ap (λ (b : Bool). cond b (x ∷ filter p es) (filter p es)) h

pub int_eq-not : (a b : ℤ) → (a ≡ b → ⊥) → int_eq a b ≡ false
int_eq-not a b h = elim (either (int_eq a b)) [ inl t ↦ absurd (h ((Decides-int_eq a b).0 t)) | inr f ↦ f ]

module _ (s : Side) where
  -- a better one is at another price, and so is a worse one
  better-elsewhere : (a p : ℤ) → is_better s a p ≡ true → int_eq a p ≡ false
  better-elsewhere a p h = int_eq-not a p (λ e. not-both (is_better s a p) h (ap (λ (q : ℤ). is_better s q p) e ∙ is_better-irrefl s p))

  worse-elsewhere : (a p : ℤ) → is_better s p a ≡ true → int_eq a p ≡ false
  worse-elsewhere a p h = int_eq-not a p (λ e. not-both (is_better s p a) h (ap (λ (q : ℤ). is_better s p q) e ∙ is_better-irrefl s p))

  -- after an order that is worse than p
  pub behind-worse : (p : ℤ) (e : Entry) (es : List Entry) → is_worse s p e ≡ true → AllByRecursion (InPriceOrder s e) es → AllByRecursion (λ (x : Entry). is_worse s p x ≡ true) es
  behind-worse p e [] h k = tt
  behind-worse p e (x ∷ es) h k = (better-past s p e.order.price.0 x.order.price.0 h k.0, behind-worse p e es h k.1)

  worse-not-better : (p : ℤ) (es : List Entry) → AllByRecursion (λ (x : Entry). is_worse s p x ≡ true) es → AllByRecursion (λ (x : Entry). not_better s p x ≡ true) es
  worse-not-better p es h = all-with (λ (x : Entry). is_worse s p x ≡ true) (λ (x : Entry). not_better s p x ≡ true) (λ x t. ap not (better-apart s p x.order.price.0 t)) es h

  pub worse-not-at : (p : ℤ) (es : List Entry) → AllByRecursion (λ (x : Entry). is_worse s p x ≡ true) es → AllByRecursion (λ (x : Entry). at_price p x ≡ false) es
  worse-not-at p es h = all-with (λ (x : Entry). is_worse s p x ≡ true) (λ (x : Entry). at_price p x ≡ false) (λ x t. worse-elsewhere x.order.price.0 p t) es h

  -- from a price on: the orders at it, and then the worse ones
  pub level-first : (p : ℤ) (es : List Entry) → EachPair (InPriceOrder s) es → filter (not_better s p) es ≡ filter (at_price p) es ++ filter (is_worse s p) es
  level-first p [] o = refl
  level-first p (e ∷ es) o =
      let a = e.order.price.0 in
      elim (either (is_better s p a)) [
        | inl worse ↦
            let all = behind-worse p e es worse o.0 in
            pass (not_better s p) e es (ap not (better-apart s p a worse))
            ∙ ap (λ (q : List Entry). e ∷ q) (filter-all (not_better s p) es (worse-not-better p es all))
            ∙ sym (ap (λ (q : List Entry). e ∷ q) (filter-all (is_worse s p) es all))
            ∙ sym (pass (is_worse s p) e es worse)
            ∙ sym (ap (λ (q : List Entry). q ++ filter (is_worse s p) (e ∷ es)) (stop (at_price p) e es (worse-elsewhere a p worse) ∙ filter-none (at_price p) es (worse-not-at p es all)))
        | inr not_worse ↦ elim (either (is_better s a p)) [
          | inl better ↦
              stop (not_better s p) e es (ap not better)
              ∙ level-first p es o.1
              ∙ sym (ap (λ (q : List Entry). q ++ filter (is_worse s p) es) (stop (at_price p) e es (better-elsewhere a p better)))
              ∙ sym (ap (λ (q : List Entry). filter (at_price p) (e ∷ es) ++ q) (stop (is_worse s p) e es not_worse))
          | inr not_better' ↦
              let at : int_eq a p ≡ true = (Decides-int_eq a p).1 (better-same s a p not_better' not_worse) in
              pass (not_better s p) e es (ap not not_better')
              ∙ ap (λ (q : List Entry). e ∷ q) (level-first p es o.1)
              ∙ sym (ap (λ (q : List Entry). q ++ filter (is_worse s p) es) (pass (at_price p) e es at))
              ∙ sym (ap (λ (q : List Entry). filter (at_price p) (e ∷ es) ++ q) (stop (is_worse s p) e es not_worse))
        ]
      ]

  behind-same : (e : Entry) (es : List Entry) → AllByRecursion (InPriceOrder s e) es → AllByRecursion (λ (x : Entry). not_better s e.order.price.0 x ≡ true) es
  behind-same e es h = all-with (InPriceOrder s e) (λ (x : Entry). not_better s e.order.price.0 x ≡ true) (λ x k. ap not k) es h

  -- the whole side is what stands from its best price on
  pub from-best : (es : List Entry) → EachPair (InPriceOrder s) es → es ≡ from_price s (price_of es) es
  from-best [] o = refl
  from-best (e ∷ es) o =
      sym (pass (not_better s e.order.price.0) e es (ap not (is_better-irrefl s e.order.price.0)) ∙ ap (λ (q : List Entry). e ∷ q) (filter-all (not_better s e.order.price.0) es (behind-same e es o.0)))

  pub first-worse : (p : ℤ) (es : List Entry) (q : Price) → price_of (filter (is_worse s p) es) ≡ Some q → is_better s p q.0 ≡ true
  first-worse p [] q h = absurd (let e : None ≡ Some q = h in cc)
  first-worse p (e ∷ es) q h = elim (either (is_worse s p e)) [
    | inl worse ↦
        let is : Some e.order.price ≡ Some q = sym (ap price_of (pass (is_worse s p) e es worse)) ∙ h in
        let price : e.order.price ≡ q = cc in
        ap (λ (r : Price). is_better s p r.0) (sym price) ∙ worse
    | inr not_worse ↦ first-worse p es q (sym (ap price_of (stop (is_worse s p) e es not_worse)) ∙ h)
  ]

  -- the orders worse than p are what stands from the best of their prices on
  pub from-worse : (p : ℤ) (es : List Entry) → EachPair (InPriceOrder s) es → filter (is_worse s p) es ≡ from_price s (price_of (filter (is_worse s p) es)) es
  from-worse p [] o = refl
  from-worse p (e ∷ es) o = elim (either (is_worse s p e)) [
    | inl worse ↦
        let all : filter (is_worse s p) (e ∷ es) ≡ e ∷ es = pass (is_worse s p) e es worse ∙ ap (λ (q : List Entry). e ∷ q) (filter-all (is_worse s p) es (behind-worse p e es worse o.0)) in
        all ∙ from-best (e ∷ es) o ∙ ap (λ (q : List Entry). from_price s (price_of q) (e ∷ es)) (sym all)
    | inr not_worse ↦
        let F = filter (is_worse s p) es in
        let skip : filter (is_worse s p) (e ∷ es) ≡ F = stop (is_worse s p) e es not_worse in
        let go : (next : Option Price) → price_of F ≡ next → from_price s next es ≡ from_price s next (e ∷ es) = elim [
          | None ↦ λ h. refl
          | Some q ↦ λ h.
              let better : is_better s e.order.price.0 q.0 ≡ true = better-then s p q.0 e.order.price.0 (first-worse p es q h) not_worse in
              sym (stop (not_better s q.0) e es (ap not better))
        ] in
        skip ∙ from-worse p es o.1 ∙ go (price_of F) refl ∙ ap (λ (q : List Entry). from_price s (price_of q) (e ∷ es)) (sym skip)
  ]

-- the orders at a price, of all and of the side
filter-three : {X : Type 0} (a b c : X → Bool) (xs : List X) → filter (λ x. a x && (b x && c x)) xs ≡ filter c (filter (λ x. a x && b x) xs)
filter-three {X} a b c [] = refl
filter-three {X} a b c (x ∷ xs) =
    let F = filter (λ x. a x && (b x && c x)) xs in
    let G = filter (λ x. a x && b x) xs in
    let tail = filter-three a b c xs in
    let go : (p q r : Bool) → c x ≡ r → cond (p && (q && r)) (x ∷ F) F ≡ filter c (cond (p && q) (x ∷ G) G) = elim [
      | true ↦ elim [
        | true ↦ elim [
          | true ↦ λ h. ap (λ (l : List X). x ∷ l) tail ∙ sym (ap (λ (t : Bool). cond t (x ∷ filter c G) (filter c G)) h)
          | false ↦ λ h. tail ∙ sym (ap (λ (t : Bool). cond t (x ∷ filter c G) (filter c G)) h)
        ]
        | false ↦ λ r h. tail
      ]
      | false ↦ λ q r h. tail
    ] in go (a x) (b x) (c x) refl

pub level-of-side : (i : ℕ) (s : Side) (p : Price) (es : List Entry) → orders_at (level i s p) es ≡ filter (at_price p.0) (side_of i s es)
level-of-side i s p es = filter-three (λ (e : Entry). e.order.instrument == i) (λ (e : Entry). is_side e.order.side s) (at_price p.0) es

-- ---- a walk by prices

-- the walk stands at this price, with these orders of the side to come
abbrev pub ToComeFrom : Side → List Entry → Option Price → List Entry → Type 0
ToComeFrom s side at rest = (rest ≡ from_price s at side) × (at ≡ price_of rest)

module _ (i : ℕ) (s : Side) (es : List Entry) (ordered : EachPair AreInBookOrder es) where
  pub prices-first : (at : Option Price) → at ≡ best_of i s es → ToComeFrom s (side_of i s es) at (side_of i s es)
  prices-first at is = (from-best s (side_of i s es) (side-in-order i s es ordered) ∙ ap (λ (q : Option Price). from_price s q (side_of i s es)) (sym is), is)

  -- the level comes next, and then the worse orders
  pub prices-level : (at : Option Price) (p : Price) (rest : List Entry) → ToComeFrom s (side_of i s es) at rest → at ≡ Some p
      → rest ≡ orders_at (level i s p) es ++ filter (is_worse s p.0) (side_of i s es)
  prices-level at p rest come is =
      come.0
      ∙ ap (λ (q : Option Price). from_price s q (side_of i s es)) is
      ∙ level-first s p.0 (side_of i s es) (side-in-order i s es ordered)
      ∙ ap (λ (q : List Entry). q ++ filter (is_worse s p.0) (side_of i s es)) (sym (level-of-side i s p es))

  pub prices-next : (p : Price) (next : Option Price) → next ≡ worse_of i s p.0 es → ToComeFrom s (side_of i s es) next (filter (is_worse s p.0) (side_of i s es))
  prices-next p next is =
      let F = filter (is_worse s p.0) (side_of i s es) in
      (from-worse s p.0 (side_of i s es) (side-in-order i s es ordered) ∙ ap (λ (q : Option Price). from_price s q (side_of i s es)) (sym is), is)

  pub prices-end : (at : Option Price) (rest : List Entry) → ToComeFrom s (side_of i s es) at rest → at ≡ None → rest ≡ []
  prices-end at rest come is = come.0 ∙ ap (λ (q : Option Price). from_price s q (side_of i s es)) is

  -- fewer are to come then
  worse-fewer : (p : Price) (level rest : List Entry) → rest ≡ level ++ filter (is_worse s p.0) (side_of i s es) → Some p ≡ price_of rest → length (filter (is_worse s p.0) (side_of i s es)) < length rest
  worse-fewer p (x ∷ level) rest e h =
      let F = filter (is_worse s p.0) (side_of i s es) in
      omega (arith, ap (λ (q : List Entry). length q) e, length-append (x ∷ level) F)
  worse-fewer p [] rest e h =
      let bad : is_better s p.0 p.0 ≡ true = first-worse s p.0 (side_of i s es) p (ap price_of (sym e) ∙ sym h) in
      not-both (is_better s p.0 p.0) bad (is_better-irrefl s p.0)

  pub prices-fewer : (at next : Option Price) (p : Price) (rest : List Entry) → ToComeFrom s (side_of i s es) at rest → at ≡ Some p → next ≡ worse_of i s p.0 es
      → length (from_price s next (side_of i s es)) < length (from_price s at (side_of i s es))
  prices-fewer at next p rest come is behind =
      let L = side_of i s es in
      let F = filter (is_worse s p.0) L in
      let fewer : length F < length rest = worse-fewer p (orders_at (level i s p) es) rest (prices-level at p rest come is) (sym is ∙ come.1) in
      omega (arith, fewer, ap (λ (q : List Entry). length q) come.0, ap (λ (q : List Entry). length q) (prices-next p next behind).0)

-- ---- both sides

no-buys : (i : ℕ) (e : Entry) (es : List Entry) → OnSide i Sell e → AllByRecursion (AreInBookOrder e) es → side_of i Buy es ≡ []
no-buys i e es on h = filter-none (is_on i Buy) es (all-with (AreInBookOrder e) (λ (x : Entry). is_on i Buy x ≡ false) (λ x k. elim (either (is_on i Buy x)) [
  | inl t ↦
      let l = on-side i Buy x t in
      not-both (is_at_earlier_level x e)
      (ap (λ (q : Level). is_before q (level_of e.order)) (level-on i Buy x l) ∙ ap (is_before (level_at i Buy x.order.price.0)) (level-on i Sell e on) ∙ buy-before x.order.price.0 e.order.price.0) k
  | inr f ↦ f
]) es h)
  where
    buy-before : (p q : ℤ) → is_before (level_at i Buy p) (level_at i Sell q) ≡ true
    buy-before p q = rw (nat_lt-irrefl i, same i) refl

-- the orders of an instrument are its buys and then its sells
pub buys-then-sells : (i : ℕ) (es : List Entry) → EachPair AreInBookOrder es → filter (is_of i) es ≡ side_of i Buy es ++ side_of i Sell es
buys-then-sells i [] o = refl
buys-then-sells i (e ∷ es) o = elim (either (is_of i e)) [
  | inl t ↦
      let tail = buys-then-sells i es o.1 in
      let on : (s : Side) → is_on i s e ≡ is_side e.order.side s = λ s. ap (λ (b : Bool). b && is_side e.order.side s) t in
      let go : (d : Side) → e.order.side ≡ d → filter (is_of i) (e ∷ es) ≡ side_of i Buy (e ∷ es) ++ side_of i Sell (e ∷ es) = elim [
        | Buy ↦ λ h.
            pass (is_of i) e es t
            ∙ ap (λ (q : List Entry). e ∷ q) tail
            ∙ sym (ap (λ (q : List Entry). q ++ side_of i Sell es) (pass (is_on i Buy) e es (on Buy ∙ ap (λ (d : Side). is_side d Buy) h)))
            ∙ sym (ap (λ (q : List Entry). side_of i Buy (e ∷ es) ++ q) (stop (is_on i Sell) e es (on Sell ∙ ap (λ (d : Side). is_side d Sell) h)))
        | Sell ↦ λ h.
            let side : OnSide i Sell e = ((Decides-eqb e.order.instrument i).0 t, h) in
            let none : side_of i Buy es ≡ [] = no-buys i e es side o.0 in
            pass (is_of i) e es t
            ∙ ap (λ (q : List Entry). e ∷ q) (tail ∙ ap (λ (q : List Entry). q ++ side_of i Sell es) none)
            ∙ sym (pass (is_on i Sell) e es (on Sell ∙ ap (λ (d : Side). is_side d Sell) h))
            ∙ sym (ap (λ (q : List Entry). q ++ side_of i Sell (e ∷ es)) (stop (is_on i Buy) e es (on Buy ∙ ap (λ (d : Side). is_side d Buy) h) ∙ none))
      ] in go e.order.side refl
  | inr f ↦
      let off : (s : Side) → is_on i s e ≡ false = λ s. ap (λ (b : Bool). b && is_side e.order.side s) f in
      stop (is_of i) e es f
      ∙ buys-then-sells i es o.1
      ∙ sym (ap (λ (q : List Entry). q ++ side_of i Sell es) (stop (is_on i Buy) e es (off Buy)))
      ∙ sym (ap (λ (q : List Entry). side_of i Buy (e ∷ es) ++ q) (stop (is_on i Sell) e es (off Sell)))
]
