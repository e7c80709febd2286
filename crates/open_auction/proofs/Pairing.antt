-- The pairs at a price: how many lots, at which prices, and how much of each order.
use Rattle.std.proofs.Common.{◌≡◌, ℕ, ◌+◌, ◌-◌, ◌≤◌, min, Bool, true, false, cond, ◌&&◌, List, [], ◌∷◌, filter, length, refl, sym, ap, subst, ◌∙◌, arith, inl, inr, ◌⊎◌}
use Prim.Native.Nat.{zero, suc}
use Rattle.std.specs.Prelude.{int_lt, ◌==◌}
use Rattle.std.specs.List.{AllByRecursion}
use Rattle.std.proofs.lemmas.List.Sums.{sum_by-cons}
use Rattle.std.proofs.lemmas.Bool.Decides.{eqb_tells, leb_tells, Decides-eqb}
use Rattle.gx_base.specs.declared.price.Price.{Price}
use Rattle.gx_base.specs.declared.order.Side.{Side}
use Rattle.gx_base.specs.declared.order.Side.TheVariants.{Buy, Sell}
use Rattle.plain_book.specs.declared.entry.Entry.{Entry}
use Rattle.plain_book.specs.Orders.{HasSlot, is_on, is_within, side_of}
use Rattle.plain_book.specs.Book.{AllDiffer}
use Rattle.plain_book.specs.Numbers.{numbered}
use Rattle.plain_book.proofs.Pairs.{all-filter, all-with, all-passing}
use Rattle.gx_base.proofs.Tests.{not-both}
use Rattle.book_walks.proofs.SideLevels.{either}
use Rattle.open_auction.specs.Pairs.{Pair, takers, after_giving, pairs, opening_pairs}
use Rattle.open_auction.specs.Laws.{lots_of, given_by_buy, given_by_sell, IsWithinPrice, GivesWithin, PairsAddUp}
use Rattle.open_auction.proofs.Prices.{keeps, drops}
use Rattle.open_auction.proofs.Optimal.{open_in, not-true}

-- ---- an order gives some lots

abbrev rest_of : ℕ → Entry → Entry
rest_of lots e = record e { order = record e.order { leaves = e.order.leaves - lots } }

gives : (lots : ℕ) (e : Entry) (es : List Entry) → (((e.order.leaves == lots) ≡ true) × (e.order.leaves ≡ lots) × (after_giving lots e es ≡ es)) ⊎ (((e.order.leaves == lots) ≡ false) × (after_giving lots e es ≡ rest_of lots e ∷ es))
gives lots e es = elim (eqb_tells e.order.leaves lots) [
  | inl t ↦ inl (t.0, t.1, ap (λ (b : Bool). cond b es (rest_of lots e ∷ es)) t.0)
  | inr t ↦ inr (t.0, ap (λ (b : Bool). cond b es (rest_of lots e ∷ es)) t.0)
]

open-cons : (e : Entry) (es : List Entry) → open_in (e ∷ es) ≡ e.order.leaves + open_in es
open-cons e es = sum_by-cons (λ (e : Entry). e.order.leaves) e es

-- what is open then
open-giving : (lots : ℕ) (e : Entry) (es : List Entry) → lots ≤ e.order.leaves → open_in (after_giving lots e es) + lots ≡ open_in (e ∷ es)
open-giving lots e es h = elim (gives lots e es) [
  | inl t ↦ omega (arith, t.1, ap open_in t.2, open-cons e es)
  | inr t ↦ omega (arith, ap open_in t.1, open-cons (rest_of lots e) es, open-cons e es)
]

-- fewer orders are left, or as many
length-giving : (lots : ℕ) (e : Entry) (es : List Entry) → length (after_giving lots e es) ≤ length (e ∷ es)
length-giving lots e es = elim (gives lots e es) [
  | inl t ↦ omega (arith, ap length t.2)
  | inr t ↦ omega (arith, ap length t.1)
]

-- fewer where all is given
length-given : (lots : ℕ) (e : Entry) (es : List Entry) → e.order.leaves ≡ lots → length (after_giving lots e es) ≡ length es
length-given lots e es h = elim (gives lots e es) [
  | inl t ↦ ap length t.2
  | inr t ↦ not-both (e.order.leaves == lots) ((Decides-eqb e.order.leaves lots).1 h) t.0
]

all-giving : (P : Entry → Type 0) (lots : ℕ) (e : Entry) (es : List Entry) → (P e → P (rest_of lots e)) → AllByRecursion P (e ∷ es) → AllByRecursion P (after_giving lots e es)
all-giving P lots e es f h = elim (gives lots e es) [
  | inl t ↦ subst (AllByRecursion P) (sym t.2) h.1
  | inr t ↦ subst (AllByRecursion P) (sym t.1) (f h.0, h.1)
]

-- ---- all lots

lots-cons : (q : Pair) (qs : List Pair) → lots_of (q ∷ qs) ≡ q.lots + lots_of qs
lots-cons q qs = sum_by-cons (λ (q : Pair). q.lots) q qs

-- one of the two makes way
pub fewer : (b s : Entry) (bs ss : List Entry) (n : ℕ) → length (b ∷ bs) + length (s ∷ ss) ≤ suc n
    → let lots = min b.order.leaves s.order.leaves in length (after_giving lots b bs) + length (after_giving lots s ss) ≤ n
fewer b s bs ss n h =
    let lots = min b.order.leaves s.order.leaves in
    elim (lesser b.order.leaves s.order.leaves) [
      | inl t ↦ omega (arith, length-given lots b bs t, length-giving lots s ss, h)
      | inr t ↦ omega (arith, length-giving lots b bs, length-given lots s ss t, h)
    ]
  where
    lesser : (m n : ℕ) → (m ≡ min m n) ⊎ (n ≡ min m n)
    lesser m n = elim (leb_tells m n) [ inl t ↦ inl (omega (arith, t.1)) | inr t ↦ inr (omega (arith, t.1)) ]

pub lots-are : (n : ℕ) (bs ss : List Entry) → length bs + length ss ≤ n → lots_of (pairs n bs ss) ≡ min (open_in bs) (open_in ss)
lots-are zero [] ss h = omega arith
lots-are zero (b ∷ bs) ss h = absurd (omega (arith, h))
lots-are (suc n) [] ss h = omega arith
lots-are (suc n) (b ∷ bs) [] h = omega arith
lots-are (suc n) (b ∷ bs) (s ∷ ss) h =
    let lots = min b.order.leaves s.order.leaves in
    let bs' = after_giving lots b bs in
    let ss' = after_giving lots s ss in
    let rest : lots_of (pairs n bs' ss') ≡ min (open_in bs') (open_in ss') = lots-are n bs' ss' (fewer b s bs ss n h) in
    let first : lots_of (pairs (suc n) (b ∷ bs) (s ∷ ss)) ≡ lots + lots_of (pairs n bs' ss') = lots-cons (record { lots = lots; buy = b.order; sell = s.order }) (pairs n bs' ss') in
    let bought : open_in bs' + lots ≡ open_in (b ∷ bs) = open-giving lots b bs (omega arith) in
    let sold : open_in ss' + lots ≡ open_in (s ∷ ss) = open-giving lots s ss (omega arith) in
    omega (arith, rest, first, bought, sold)

-- ---- what holds of the orders holds of the pairs

pub pairs-all : (P : Entry → Type 0) (Q : Entry → Type 0) (R : Pair → Type 0) → ((e : Entry) (lots : ℕ) → P e → P (rest_of lots e)) → ((e : Entry) (lots : ℕ) → Q e → Q (rest_of lots e))
    → ((lots : ℕ) (b s : Entry) → P b → Q s → R (record { lots = lots; buy = b.order; sell = s.order }))
    → (n : ℕ) (bs ss : List Entry) → AllByRecursion P bs → AllByRecursion Q ss → AllByRecursion R (pairs n bs ss)
pairs-all P Q R f g r zero bs ss h k = tt
pairs-all P Q R f g r (suc n) [] ss h k = tt
pairs-all P Q R f g r (suc n) (b ∷ bs) [] h k = tt
pairs-all P Q R f g r (suc n) (b ∷ bs) (s ∷ ss) h k =
    let lots = min b.order.leaves s.order.leaves in
    (r lots b s h.0 k.0, pairs-all P Q R f g r n (after_giving lots b bs) (after_giving lots s ss) (all-giving P lots b bs (f b lots) h) (all-giving Q lots s ss (g s lots) k))

within-price : (i : ℕ) (es : List Entry) (p : Price) → AllByRecursion (IsWithinPrice p) (opening_pairs i es p)
within-price i es p =
    let P = λ (e : Entry). int_lt e.order.price.0 p.0 ≡ false in
    let Q = λ (e : Entry). int_lt p.0 e.order.price.0 ≡ false in
    let bs = takers i Buy p es in
    let ss = takers i Sell p es in
    pairs-all P Q (IsWithinPrice p) (λ e lots h. h) (λ e lots h. h) (λ lots b s h k. (h, k)) (length bs + length ss) bs ss
    (all-passing P (λ e. is_within Buy p.0 e.order.price.0) (λ e h. not-true _ h) (side_of i Buy es))
    (all-passing Q (λ e. is_within Sell p.0 e.order.price.0) (λ e h. not-true _ h) (side_of i Sell es))

-- ---- how much one order gives

-- what is open of the orders with a number
abbrev open_of : ℕ → List Entry → ℕ
open_of number es = open_in (filter (λ (e : Entry). e.order.number == number) es)

abbrev part : Bool → ℕ → ℕ
part b n = cond b n 0

open_of-cons : (k : ℕ) (e : Entry) (es : List Entry) → open_of k (e ∷ es) ≡ part (e.order.number == k) e.order.leaves + open_of k es
open_of-cons k e es = elim (either (e.order.number == k)) [
  | inl t ↦ ap open_in (keeps (λ (e : Entry). e.order.number == k) e es t) ∙ open-cons e (filter (λ (e : Entry). e.order.number == k) es) ∙ ap (λ (b : Bool). part b e.order.leaves + open_of k es) (sym t)
  | inr t ↦ ap open_in (drops (λ (e : Entry). e.order.number == k) e es t) ∙ zero-first (open_of k es) ∙ ap (λ (b : Bool). part b e.order.leaves + open_of k es) (sym t)
]
  where
    zero-first : (n : ℕ) → n ≡ 0 + n
    zero-first n = omega arith

open_of-giving : (k lots : ℕ) (e : Entry) (es : List Entry) → lots ≤ e.order.leaves → open_of k (after_giving lots e es) + part (e.order.number == k) lots ≡ open_of k (e ∷ es)
open_of-giving k lots e es h = elim (gives lots e es) [
  | inl t ↦ all-of (e.order.number == k) e.order.leaves lots (open_of k es) (ap (open_of k) t.2) t.1 (open_of-cons k e es)
  | inr t ↦ some-of (e.order.number == k) e.order.leaves lots (open_of k es) h (ap (open_of k) t.1 ∙ open_of-cons k (rest_of lots e) es) (open_of-cons k e es)
]
  where
    all-of : {x y : ℕ} (b : Bool) (m l n : ℕ) → x ≡ n → m ≡ l → y ≡ part b m + n → x + part b l ≡ y
    all-of true m l n h k g = omega (arith, h, k, g)
    all-of false m l n h k g = omega (arith, h, g)

    some-of : {x y : ℕ} (b : Bool) (m l n : ℕ) → l ≤ m → x ≡ part b (m - l) + n → y ≡ part b m + n → x + part b l ≡ y
    some-of true m l n h k g = omega (arith, h, k, g)
    some-of false m l n h k g = omega (arith, k, g)

-- the lots of the pairs of an order
module _ (t : Pair → Bool) where
  lots-part : (q : Pair) (qs : List Pair) → lots_of (filter t (q ∷ qs)) ≡ part (t q) q.lots + lots_of (filter t qs)
  lots-part q qs = elim (either (t q)) [
    | inl h ↦ ap lots_of (keeps t q qs h) ∙ lots-cons q (filter t qs) ∙ ap (λ (b : Bool). part b q.lots + lots_of (filter t qs)) (sym h)
    | inr h ↦ ap lots_of (drops t q qs h) ∙ zero-first (lots_of (filter t qs)) ∙ ap (λ (b : Bool). part b q.lots + lots_of (filter t qs)) (sym h)
  ]
    where
      zero-first : (n : ℕ) → n ≡ 0 + n
      zero-first n = omega arith

pub bought-at-most : (k n : ℕ) (bs ss : List Entry) → given_by_buy k (pairs n bs ss) ≤ open_of k bs
bought-at-most k zero bs ss = omega arith
bought-at-most k (suc n) [] ss = omega arith
bought-at-most k (suc n) (b ∷ bs) [] = omega arith
bought-at-most k (suc n) (b ∷ bs) (s ∷ ss) =
    let lots = min b.order.leaves s.order.leaves in
    let bs' = after_giving lots b bs in
    let ss' = after_giving lots s ss in
    let q : Pair = record { lots = lots; buy = b.order; sell = s.order } in
    let rest : given_by_buy k (pairs n bs' ss') ≤ open_of k bs' = bought-at-most k n bs' ss' in
    let first : given_by_buy k (q ∷ pairs n bs' ss') ≡ part (b.order.number == k) lots + given_by_buy k (pairs n bs' ss') = lots-part (λ (q : Pair). q.buy.number == k) q (pairs n bs' ss') in
    let kept : open_of k bs' + part (b.order.number == k) lots ≡ open_of k (b ∷ bs) = open_of-giving k lots b bs (omega arith) in
    le-of _ _ _ _ _ first rest kept
  where
    le-of : (x p y z w : ℕ) → x ≡ p + y → y ≤ z → z + p ≡ w → x ≤ w
    le-of x p y z w h k g = omega arith

pub sold-at-most : (k n : ℕ) (bs ss : List Entry) → given_by_sell k (pairs n bs ss) ≤ open_of k ss
sold-at-most k zero bs ss = omega arith
sold-at-most k (suc n) [] ss = omega arith
sold-at-most k (suc n) (b ∷ bs) [] = omega arith
sold-at-most k (suc n) (b ∷ bs) (s ∷ ss) =
    let lots = min b.order.leaves s.order.leaves in
    let bs' = after_giving lots b bs in
    let ss' = after_giving lots s ss in
    let q : Pair = record { lots = lots; buy = b.order; sell = s.order } in
    let rest : given_by_sell k (pairs n bs' ss') ≤ open_of k ss' = sold-at-most k n bs' ss' in
    let first : given_by_sell k (q ∷ pairs n bs' ss') ≡ part (s.order.number == k) lots + given_by_sell k (pairs n bs' ss') = lots-part (λ (q : Pair). q.sell.number == k) q (pairs n bs' ss') in
    let kept : open_of k ss' + part (s.order.number == k) lots ≡ open_of k (s ∷ ss) = open_of-giving k lots s ss (omega arith) in
    le-of _ _ _ _ _ first rest kept
  where
    le-of : (x p y z w : ℕ) → x ≡ p + y → y ≤ z → z + p ≡ w → x ≤ w
    le-of x p y z w h k g = omega arith

-- ---- where numbers differ

-- no order of these has the number
no-number : (k : ℕ) (t : Entry → Bool) (es : List Entry) → (HasSlot k (numbered es) → ⊥) → open_of k (filter t es) ≡ 0
no-number k t [] h = refl
no-number k t (e ∷ es) h = elim (either (t e)) [
  | inl pass ↦
      let other : (e.order.number == k) ≡ false = elim (eqb_tells e.order.number k) [ inl x ↦ absurd (h (inl x.1)) | inr x ↦ x.0 ] in
      ap (open_of k) (keeps t e es pass) ∙ ap open_in (drops (λ (x : Entry). x.order.number == k) e (filter t es) other) ∙ no-number k t es (λ x. h (inr x))
  | inr stop ↦ ap (open_of k) (drops t e es stop) ∙ no-number k t es (λ x. h (inr x))
]

-- what is open of the orders with an order's number is at most what is open of the order
own-number : (t : Entry → Bool) (es : List Entry) → AllDiffer (numbered es) → AllByRecursion (λ (e : Entry). open_of e.order.number (filter t es) ≤ e.order.leaves) es
own-number t [] d = tt
own-number t (e ∷ es) d =
    (here, ahead es (all-apart es d.0) (own-number t es d.1))
  where
    rest-none : open_of e.order.number (filter t es) ≡ 0
    rest-none = no-number e.order.number t es d.0

    here : open_of e.order.number (filter t (e ∷ es)) ≤ e.order.leaves
    here = elim (either (t e)) [
      | inl pass ↦ omega (arith, ap (open_of e.order.number) (keeps t e es pass), open_of-cons e.order.number e (filter t es), part-le (e.order.number == e.order.number) e.order.leaves, rest-none)
      | inr stop ↦ omega (arith, ap (open_of e.order.number) (drops t e es stop), rest-none)
    ]
      where
        part-le : (b : Bool) (n : ℕ) → part b n ≤ n
        part-le true n = omega arith
        part-le false n = omega arith

    Apart : Entry → Type 0
    Apart x = (e.order.number == x.order.number) ≡ false

    all-apart : (xs : List Entry) → (HasSlot e.order.number (numbered xs) → ⊥) → AllByRecursion Apart xs
    all-apart [] h = tt
    all-apart (x ∷ xs) h = (elim (eqb_tells e.order.number x.order.number) [ inl y ↦ absurd (h (inl (sym y.1))) | inr y ↦ y.0 ], all-apart xs (λ y. h (inr y)))

    skip : (k : ℕ) → (e.order.number == k) ≡ false → open_of k (filter t (e ∷ es)) ≡ open_of k (filter t es)
    skip k h = elim (either (t e)) [
      | inl pass ↦ ap (open_of k) (keeps t e es pass) ∙ ap open_in (drops (λ (x : Entry). x.order.number == k) e (filter t es) h)
      | inr stop ↦ ap (open_of k) (drops t e es stop)
    ]

    ahead : (xs : List Entry) → AllByRecursion Apart xs → AllByRecursion (λ (x : Entry). open_of x.order.number (filter t es) ≤ x.order.leaves) xs → AllByRecursion (λ (x : Entry). open_of x.order.number (filter t (e ∷ es)) ≤ x.order.leaves) xs
    ahead [] a h = tt
    ahead (x ∷ xs) a h = (subst (λ (n : ℕ). n ≤ x.order.leaves) (sym (skip x.order.number a.0)) h.0, ahead xs a.1 h.1)

filter-twice : {X : Type 0} (s t : X → Bool) (xs : List X) → filter t (filter s xs) ≡ filter (λ x. s x && t x) xs
filter-twice s t [] = refl
filter-twice {X} s t (x ∷ xs) = elim (either (s x)) [
  | inl pass ↦
      ap (λ (l : List X). filter t l) (keeps s x xs pass)
      ∙ ap (λ (l : List X). cond (t x) (x ∷ l) l) (filter-twice s t xs)
      ∙ ap (λ (b : Bool). cond (b && t x) (x ∷ filter (λ x. s x && t x) xs) (filter (λ x. s x && t x) xs)) (sym pass)
  | inr stop ↦
      ap (λ (l : List X). filter t l) (drops s x xs stop)
      ∙ filter-twice s t xs
      ∙ ap (λ (b : Bool). cond (b && t x) (x ∷ filter (λ x. s x && t x) xs) (filter (λ x. s x && t x) xs)) (sym stop)
]

-- an order of a side gives at most what is open of it
gives-within : (i : ℕ) (s : Side) (p : Price) (es : List Entry) (given : ℕ → ℕ) → ((k : ℕ) → given k ≤ open_of k (takers i s p es)) → AllDiffer (numbered es) → GivesWithin given (side_of i s es)
gives-within i s p es given h d =
    let w = λ (e : Entry). is_within s p.0 e.order.price.0 in
    let both = λ (e : Entry). is_on i s e && w e in
    let own = own-number both es d in
    all-filter (λ (e : Entry). given e.order.number ≤ e.order.leaves) (is_on i s) es
    (all-with (λ (e : Entry). open_of e.order.number (filter both es) ≤ e.order.leaves) (λ (e : Entry). given e.order.number ≤ e.order.leaves)
    (λ e k. let g = h e.order.number in let same : open_of e.order.number (takers i s p es) ≡ open_of e.order.number (filter both es) = ap (open_of e.order.number) (filter-twice (is_on i s) w es) in omega (arith, g, same, k))
    es own)

pub pairs-add-up : PairsAddUp
pairs-add-up i es p =
    let bs = takers i Buy p es in
    let ss = takers i Sell p es in
    record {
      lots = lots-are (length bs + length ss) bs ss (omega arith);
      within = within-price i es p;
      buys = gives-within i Buy p es (λ k. given_by_buy k (opening_pairs i es p)) (λ k. bought-at-most k (length bs + length ss) bs ss);
      sells = gives-within i Sell p es (λ k. given_by_sell k (opening_pairs i es p)) (λ k. sold-at-most k (length bs + length ss) bs ss);
    }
