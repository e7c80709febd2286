-- A walk over the candidates: the next one, and the sums of both sides.
use Rattle.std.proofs.Common.{◌≡◌, ℕ, ◌+◌, ◌-◌, ◌*◌, ◌^◌, ◌<◌, ◌≤◌, Bool, true, false, cond, not, List, [], ◌∷◌, filter, map, length, Option, Some, None, refl, sym, ap, subst, ◌∙◌, arith, inl, inr, ◌⊎◌, length-append}
use Rattle.std.specs.Prelude.{ℤ, int_lt}
use Rattle.std.specs.Ordering.{int_eq}
use Rattle.std.specs.List.{AllByRecursion}
use Rattle.std.proofs.lemmas.List.Sums.{sum_by-cons}
use Rattle.std.proofs.lemmas.List.Elements.{filter-append}
use Rattle.gx_base.proofs.Tests.{int-same}
use Rattle.gx_base.specs.declared.price.Price.{Price}
use Rattle.gx_base.specs.declared.order.Side.{Side}
use Rattle.gx_base.specs.declared.order.Side.TheVariants.{Buy, Sell}
use Rattle.plain_book.specs.declared.entry.Entry.{Entry}
use Rattle.plain_book.specs.Orders.{level, price_of, is_of, is_on, is_within, side_of, best_of, worse_of, last_price_or, last_price_of, worst_of, better_of, open_at}
use Rattle.plain_book.specs.Book.{Book, IsRight, AllRest, EachPair, AreInBookOrder}
use Rattle.plain_book.proofs.Pairs.{all-with, all-passing, pairs-filter}
use Rattle.book_walks.proofs.SideLevels.{either, at_price, InPriceOrder, side-in-order, level-of-side, buys-then-sells}
use Rattle.open_auction.specs.declared.walk.CandidateWalk.{CandidateWalk}
use Rattle.open_auction.specs.Curves.{demand, supply}
use Rattle.open_auction.specs.Candidates.{candidates, prices_of}
use Rattle.open_auction.specs.Openings.{opening_at, openings}
use Rattle.open_auction.specs.Inner.Walk.{higher, below, from_price, demand_above, AreSums, IsWalk, to_come, after_first}
use Rattle.open_auction.proofs.Prices.{lt, lt-past, tested, Descending, descending, keeps, drops, drops-all, prices-filter, next-below, after-first, first_price, first-put, first-append, Highest, first-highest}
use Rattle.open_auction.proofs.Optimal.{open_in, all-of-side, unfiltered, first-is}

-- ---- the first price of a side in its order

side-first : (es : List Entry) → EachPair (InPriceOrder Buy) es → first_price (prices_of es) ≡ price_of es
side-first [] o = refl
side-first (e ∷ es) o = first-put e.order.price (prices_of es) ∙ ap (higher (Some e.order.price)) (side-first es o.1) ∙ ahead es o.0
  where
    ahead : (es : List Entry) → AllByRecursion (InPriceOrder Buy e) es → higher (Some e.order.price) (price_of es) ≡ Some e.order.price
    ahead [] h = refl
    ahead (x ∷ es) h = ap (λ (b : Bool). cond b (Some x.order.price) (Some e.order.price)) h.0

side-last : (es : List Entry) → EachPair (InPriceOrder Sell) es → first_price (prices_of es) ≡ last_price_of es
side-last [] o = refl
side-last (e ∷ es) o = first-put e.order.price (prices_of es) ∙ ap (higher (Some e.order.price)) (side-last es o.1) ∙ behind es o.0
  where
    -- the last one is not below e
    last-above : (p : Price) (es : List Entry) → lt p e.order.price ≡ false → AllByRecursion (InPriceOrder Sell e) es → lt (last_price_or p es) e.order.price ≡ false
    last-above p [] h k = h
    last-above p (x ∷ es) h k = last-above x.order.price es k.0 k.1

    higher-same : (p q : Price) → lt q p ≡ false → higher (Some p) (Some q) ≡ Some q
    higher-same p q h = elim (either (lt p q)) [
      | inl less ↦ ap (λ (b : Bool). cond b (Some q) (Some p)) less
      | inr not_less ↦
          ap (λ (b : Bool). cond b (Some q) (Some p)) not_less
          ∙ ap (λ (z : ℤ). let price : Price = record { 0 = z } in Some price) (int-same p.0 q.0 not_less h)
    ]

    behind : (es : List Entry) → AllByRecursion (InPriceOrder Sell e) es → higher (Some e.order.price) (last_price_of es) ≡ last_price_of (e ∷ es)
    behind [] h = refl
    behind (x ∷ es) h = higher-same e.order.price (last_price_or x.order.price es) (last-above x.order.price es h.0 h.1)

module _ (i : ℕ) (es : List Entry) (ordered : EachPair AreInBookOrder es) where
  abbrev buys : List Entry
  buys = side_of i Buy es

  abbrev sells : List Entry
  sells = side_of i Sell es

  abbrev orders : List Entry
  orders = filter (is_of i) es

  -- the highest candidate
  pub highest-is : first_price (candidates i es) ≡ higher (best_of i Buy es) (worst_of i Sell es)
  highest-is =
      ap (λ (l : List Entry). first_price (prices_of l)) (buys-then-sells i es ordered)
      ∙ first-append buys sells
      ∙ ap (λ (o : Option Price). higher o (first_price (prices_of sells))) (side-first buys (side-in-order i Buy es ordered))
      ∙ ap (higher (best_of i Buy es)) (side-last sells (side-in-order i Sell es ordered))

  abbrev under : Price → Entry → Bool
  under p e = int_lt e.order.price.0 p.0

  -- the candidates below a price are the prices of the orders below it
  pub below-is : (p : Price) → filter (below p) (candidates i es) ≡ prices_of (filter (under p) orders)
  below-is p = prices-filter (λ (z : ℤ). int_lt z p.0) orders

  -- the highest candidate below a price
  pub next-is : (p : Price) → first_price (filter (below p) (candidates i es)) ≡ higher (worse_of i Buy p.0 es) (better_of i Sell p.0 es)
  next-is p =
      ap first_price (below-is p)
      ∙ ap (λ (l : List Entry). first_price (prices_of (filter (under p) l))) (buys-then-sells i es ordered)
      ∙ ap (λ (l : List Entry). first_price (prices_of l)) (filter-append (under p) buys sells)
      ∙ first-append (filter (under p) buys) (filter (under p) sells)
      ∙ ap (λ (o : Option Price). higher o (first_price (prices_of (filter (under p) sells)))) (side-first (filter (under p) buys) (pairs-filter (InPriceOrder Buy) (under p) buys (side-in-order i Buy es ordered)))
      ∙ ap (higher (worse_of i Buy p.0 es)) (side-last (filter (under p) sells) (pairs-filter (InPriceOrder Sell) (under p) sells (side-in-order i Sell es ordered)))

  -- what a walk that stands at the first of them has still to meet
  from-first : (cs : List Price) → Descending cs → from_price (first_price cs) cs ≡ cs
  from-first [] o = refl
  from-first (c ∷ cs) o = ap (λ (l : List Price). c ∷ l) (sym (after-first c cs o))

  pub all-to-come : (at : Option Price) → at ≡ higher (best_of i Buy es) (worst_of i Sell es) → from_price at (candidates i es) ≡ candidates i es
  all-to-come at h = ap (λ (o : Option Price). from_price o (candidates i es)) (h ∙ sym highest-is) ∙ from-first (candidates i es) (descending orders)

  from-next : (p : Price) (cs : List Price) → Descending cs → from_price (first_price (filter (below p) cs)) cs ≡ filter (below p) cs
  from-next p cs o = go (filter (below p) cs) refl
    where
      go : (l : List Price) → filter (below p) cs ≡ l → from_price (first_price l) cs ≡ l
      go [] h = refl
      go (q ∷ rest) h = ap (λ (l : List Price). q ∷ l) (sym (next-below p q cs rest o h))

  pub rest-to-come : (p : Price) (at : Option Price) → at ≡ higher (worse_of i Buy p.0 es) (better_of i Sell p.0 es) → from_price at (candidates i es) ≡ filter (below p) (candidates i es)
  rest-to-come p at h = ap (λ (o : Option Price). from_price o (candidates i es)) (h ∙ sym (next-is p)) ∙ from-next p (candidates i es) (descending orders)

-- ---- the sums

-- one filter takes what two others take between them
abbrev Splits : (Entry → Bool) → (Entry → Bool) → (Entry → Bool) → Entry → Type 0
Splits s t u e = ((s e ≡ true) × (t e ≡ false) × (u e ≡ true)) ⊎ ((s e ≡ false) × (t e ≡ true) × (u e ≡ true)) ⊎ ((s e ≡ false) × (t e ≡ false) × (u e ≡ false))

open-pass : (t : Entry → Bool) (e : Entry) (es : List Entry) → t e ≡ true → open_in (filter t (e ∷ es)) ≡ e.order.leaves + open_in (filter t es)
open-pass t e es h = ap open_in (keeps t e es h) ∙ sum_by-cons (λ (e : Entry). e.order.leaves) e (filter t es)

open-stop : (t : Entry → Bool) (e : Entry) (es : List Entry) → t e ≡ false → open_in (filter t (e ∷ es)) ≡ open_in (filter t es)
open-stop t e es h = ap open_in (drops t e es h)

sum-split : (s t u : Entry → Bool) → ((e : Entry) → Splits s t u e) → (es : List Entry) → open_in (filter s es) + open_in (filter t es) ≡ open_in (filter u es)
sum-split s t u f [] = omega arith
sum-split s t u f (e ∷ es) =
    let rest : open_in (filter s es) + open_in (filter t es) ≡ open_in (filter u es) = sum-split s t u f es in
    elim (f e) [
      | inl h ↦ omega (arith, open-pass s e es h.0, open-stop t e es h.1, open-pass u e es h.2)
      | inr (inl h) ↦ omega (arith, open-stop s e es h.0, open-pass t e es h.1, open-pass u e es h.2)
      | inr (inr h) ↦ omega (arith, open-stop s e es h.0, open-stop t e es h.1, open-stop u e es h.2)
    ]

-- two filters that agree on each take the same
filter-same : (s t : Entry → Bool) (es : List Entry) → AllByRecursion (λ (e : Entry). s e ≡ t e) es → filter s es ≡ filter t es
filter-same s t [] h = refl
filter-same s t (e ∷ es) h =
    ap (λ (b : Bool). cond b (e ∷ filter s es) (filter s es)) h.0
    ∙ ap (λ (l : List Entry). cond (t e) (e ∷ l) l) (filter-same s t es h.1)

-- what stands above a price, and at it
pub demand-here : (i : ℕ) (es : List Entry) (p : Price) → demand_above i es p + open_at (level i Buy p) es ≡ demand i es p
demand-here i es p =
    ap (λ (l : List Entry). demand_above i es p + open_in l) (level-of-side i Buy p es)
    ∙ sum-split (λ (e : Entry). int_lt p.0 e.order.price.0) (at_price p.0) (λ (e : Entry). is_within Buy p.0 e.order.price.0) (λ e. split e.order.price.0) (side_of i Buy es)
  where
    split : (z : ℤ) → ((int_lt p.0 z ≡ true) × (int_eq z p.0 ≡ false) × (not (int_lt z p.0) ≡ true)) ⊎ ((int_lt p.0 z ≡ false) × (int_eq z p.0 ≡ true) × (not (int_lt z p.0) ≡ true)) ⊎ ((int_lt p.0 z ≡ false) × (int_eq z p.0 ≡ false) × (not (int_lt z p.0) ≡ false))
    split z = elim (tested z p.0) [
      | inl less ↦ inr (inr (less.2, less.1, ap not less.0))
      | inr (inl same) ↦ inr (inl (same.2, same.1, ap not same.0))
      | inr (inr above) ↦ inl (above.2, above.1, ap not above.0)
    ]

-- what is open of the sells below a price
abbrev pub supply_below : ℕ → List Entry → Price → ℕ
supply_below i es p = open_in (filter (λ (e : Entry). int_lt e.order.price.0 p.0) (side_of i Sell es))

-- what stands below a price, and at it
pub supply-here : (i : ℕ) (es : List Entry) (p : Price) → supply_below i es p + open_at (level i Sell p) es ≡ supply i es p
supply-here i es p =
    ap (λ (l : List Entry). supply_below i es p + open_in l) (level-of-side i Sell p es)
    ∙ sum-split (λ (e : Entry). int_lt e.order.price.0 p.0) (at_price p.0) (λ (e : Entry). is_within Sell p.0 e.order.price.0) (λ e. split e.order.price.0) (side_of i Sell es)
  where
    split : (z : ℤ) → ((int_lt z p.0 ≡ true) × (int_eq z p.0 ≡ false) × (not (int_lt p.0 z) ≡ true)) ⊎ ((int_lt z p.0 ≡ false) × (int_eq z p.0 ≡ true) × (not (int_lt p.0 z) ≡ true)) ⊎ ((int_lt z p.0 ≡ false) × (int_eq z p.0 ≡ false) × (not (int_lt p.0 z) ≡ false))
    split z = elim (tested z p.0) [
      | inl less ↦ inl (less.0, less.1, ap not less.2)
      | inr (inl same) ↦ inr (inl (same.0, same.1, ap not same.2))
      | inr (inr above) ↦ inr (inr (above.0, above.1, ap not above.2))
    ]

-- q is the highest price of some orders that is below p
pub record IsNextBelow (p q : Price) (es : List Entry) : Type 0 where
  pub under : lt q p ≡ true
  pub between : AllByRecursion (λ (e : Entry). lt e.order.price p ≡ true → lt q e.order.price ≡ false) es

pub next-below-is : (i : ℕ) (es : List Entry) (p q : Price) → first_price (filter (below p) (candidates i es)) ≡ Some q → IsNextBelow p q (filter (is_of i) es)
next-below-is i es p q h =
    let I = filter (is_of i) es in
    let t = λ (e : Entry). lt e.order.price p in
    let kept : filter (below p) (candidates i es) ≡ prices_of (filter t I) = prices-filter (λ (z : ℤ). int_lt z p.0) I in
    let f = first-is (filter (below p) (candidates i es)) q h in
    let P : Price → Type 0 = λ r. lt r p ≡ true in
    let all : AllByRecursion P (q ∷ f.0) = subst (AllByRecursion P) f.1 (all-passing P (below p) (λ x k. k) (candidates i es)) in
    let top : Highest (Some q) (filter t I) = subst (λ (o : Option Price). Highest o (filter t I)) (sym (ap first_price kept) ∙ h) (first-highest (filter t I)) in
    record { under = all.0; between = unfiltered (λ (e : Entry). lt q e.order.price ≡ false) t I top }

test-same : (b c : Bool) → (b ≡ true → c ≡ true) → (b ≡ false → c ≡ false) → b ≡ c
test-same true c h k = sym (h refl)
test-same false c h k = sym (k refl)

-- no buy stands between the two
pub demand-next : (i : ℕ) (es : List Entry) (p q : Price) → IsNextBelow p q (filter (is_of i) es) → demand_above i es q ≡ demand i es p
demand-next i es p q next =
    let P = λ (e : Entry). lt e.order.price p ≡ true → lt q e.order.price ≡ false in
    let s = λ (e : Entry). int_lt q.0 e.order.price.0 in
    let t = λ (e : Entry). is_within Buy p.0 e.order.price.0 in
    ap open_in (filter-same s t (side_of i Buy es) (all-with P (λ (e : Entry). s e ≡ t e) one (side_of i Buy es) (all-of-side P i Buy es next.between)))
  where
    one : (e : Entry) → (lt e.order.price p ≡ true → lt q e.order.price ≡ false) → int_lt q.0 e.order.price.0 ≡ not (int_lt e.order.price.0 p.0)
    one e h = elim (either (lt e.order.price p)) [
      | inl less ↦ h less ∙ sym (ap not less)
      | inr not_less ↦ lt-past q.0 p.0 e.order.price.0 next.under not_less ∙ sym (ap not not_less)
    ]

-- no sell stands between the two
pub supply-next : (i : ℕ) (es : List Entry) (p q : Price) → IsNextBelow p q (filter (is_of i) es) → supply_below i es p ≡ supply i es q
supply-next i es p q next =
    let P = λ (e : Entry). lt e.order.price p ≡ true → lt q e.order.price ≡ false in
    let s = λ (e : Entry). int_lt e.order.price.0 p.0 in
    let t = λ (e : Entry). is_within Sell q.0 e.order.price.0 in
    ap open_in (filter-same s t (side_of i Sell es) (all-with P (λ (e : Entry). s e ≡ t e) one (side_of i Sell es) (all-of-side P i Sell es next.between)))
  where
    one : (e : Entry) → (lt e.order.price p ≡ true → lt q e.order.price ≡ false) → int_lt e.order.price.0 p.0 ≡ not (int_lt q.0 e.order.price.0)
    one e h = elim (either (lt e.order.price p)) [
      | inl less ↦ less ∙ sym (ap not (h less))
      | inr not_less ↦ not_less ∙ sym (ap not (lt-past q.0 p.0 e.order.price.0 next.under not_less))
    ]

-- no buy stands above the highest candidate
pub demand-first : (i : ℕ) (es : List Entry) (p : Price) → first_price (candidates i es) ≡ Some p → demand_above i es p ≡ 0
demand-first i es p h =
    let I = filter (is_of i) es in
    let P = λ (e : Entry). lt p e.order.price ≡ false in
    let top : Highest (Some p) I = subst (λ (o : Option Price). Highest o I) h (first-highest I) in
    ap open_in (drops-all (λ (e : Entry). int_lt p.0 e.order.price.0) (side_of i Buy es) (all-of-side P i Buy es top))

-- ---- the sums fit

is-small : (n : ℕ) (es : List Entry) → AllRest n es → open_in es ≤ 999999 * length es
is-small n [] h = omega arith
is-small n (e ∷ es) h =
    let here : e.order.leaves ≤ 999999 = omega (arith, h.0.fit.whole, h.0.fit.small) in
    omega (arith, sum_by-cons (λ (e : Entry). e.order.leaves) e es, here, is-small n es h.1)

open-part : (t : Entry → Bool) (es : List Entry) → open_in (filter t es) ≤ open_in es
open-part t [] = omega arith
open-part t (e ∷ es) = elim (either (t e)) [
  | inl pass ↦ omega (arith, open-pass t e es pass, sum_by-cons (λ (e : Entry). e.order.leaves) e es, open-part t es)
  | inr stop ↦ omega (arith, open-stop t e es stop, sum_by-cons (λ (e : Entry). e.order.leaves) e es, open-part t es)
]

pub few-open : (b : Book) → IsRight b → (i : ℕ) (s : Side) (t : Entry → Bool) → open_in (filter t (side_of i s b.resting)) < 2 ^ 63
few-open b right i s t =
    let a = open-part t (side_of i s b.resting) in
    let c = open-part (is_on i s) b.resting in
    let d = is-small b.instruments b.resting right.rest in
    omega (arith, a, c, d, right.few, right.small, length-append b.resting b.waiting)

-- ---- one step of a walk

module _ (b : Book) (right : IsRight b) (w : CandidateWalk) (walk : IsWalk b w) (p : Price) (at : w.at ≡ Some p) where
  abbrev i : ℕ
  i = w.instrument

  abbrev es : List Entry
  es = b.resting

  sums : (w.above ≡ demand_above i es p) × (w.within ≡ supply i es p)
  sums = subst (λ (o : Option Price). AreSums i es o w.above w.within) at walk.sums

  pub demand-is : (n : ℕ) → n ≡ open_at (level i Buy p) es → w.above + n ≡ demand i es p
  demand-is n h = ap (λ (m : ℕ). m + n) sums.0 ∙ ap (λ (m : ℕ). demand_above i es p + m) h ∙ demand-here i es p

  pub supply-is : w.within ≡ supply i es p
  supply-is = sums.1

  pub demand-fits : (n : ℕ) → n ≡ open_at (level i Buy p) es → w.above + n < 2 ^ 63
  demand-fits n h = omega (arith, demand-is n h, few-open b right i Buy (λ (e : Entry). is_within Buy p.0 e.order.price.0))

  pub supply-covers : (n : ℕ) → n ≡ open_at (level i Sell p) es → n ≤ w.within
  supply-covers n h = omega (arith, sums.1, supply-here i es p, h)

  pub supply-left : (n : ℕ) → n ≡ open_at (level i Sell p) es → w.within - n ≡ supply_below i es p
  supply-left n h = omega (arith, sums.1, supply-here i es p, h)

  -- it has still to meet p and what is below
  pub meets : to_come es w ≡ opening_at i es p ∷ map (opening_at i es) (filter (below p) (candidates i es))
  meets = ap (λ (o : Option Price). map (opening_at i es) (from_price o (candidates i es))) at

  module _ (next : Option Price) (is : next ≡ higher (worse_of i Buy p.0 es) (better_of i Sell p.0 es)) (n m : ℕ) (bought : n ≡ open_at (level i Buy p) es) (sold : m ≡ open_at (level i Sell p) es) where
    pub next-sums : AreSums i es next (w.above + n) (w.within - m)
    next-sums = go next (is ∙ sym (next-is i es right.ordered p))
      where
        go : (o : Option Price) → o ≡ first_price (filter (below p) (candidates i es)) → AreSums i es o (w.above + n) (w.within - m)
        go None h = tt
        go (Some q) h =
            let k = next-below-is i es p q (sym h) in
            (demand-is n bought ∙ sym (demand-next i es p q k), supply-left m sold ∙ supply-next i es p q k)

    pub next-to-come : map (opening_at i es) (from_price next (candidates i es)) ≡ after_first (to_come es w)
    next-to-come = ap (map (opening_at i es)) (rest-to-come i es right.ordered p next is) ∙ sym (ap after_first meets)

pub met-none : (es : List Entry) (w : CandidateWalk) → w.at ≡ None → to_come es w ≡ []
met-none es w h = ap (λ (o : Option Price). map (opening_at w.instrument es) (from_price o (candidates w.instrument es))) h

-- ---- its start

pub start-to-come : (b : Book) → IsRight b → (i : ℕ) (at : Option Price) → at ≡ higher (best_of i Buy b.resting) (worst_of i Sell b.resting) → map (opening_at i b.resting) (from_price at (candidates i b.resting)) ≡ openings i b.resting
start-to-come b right i at h = ap (map (opening_at i b.resting)) (all-to-come i b.resting right.ordered at h)

pub start-sums : (b : Book) → IsRight b → (i : ℕ) (at : Option Price) (p : Price) (n : ℕ) → at ≡ higher (best_of i Buy b.resting) (worst_of i Sell b.resting) → at ≡ Some p → n ≡ supply i b.resting p → AreSums i b.resting (Some p) 0 n
start-sums b right i at p n h is k = (sym (demand-first i b.resting p (highest-is i b.resting right.ordered ∙ sym h ∙ is)), k)
