-- Prices from the highest down, each once: what a filter leaves of them, and which is the first.
use Rattle.std.proofs.Common.{◌≡◌, ℕ, min, Bool, true, false, cond, List, [], ◌∷◌, ◌++◌, filter, Option, Some, None, refl, sym, ap, subst, ◌∙◌, arith, inl, inr, ◌⊎◌}
use Rattle.std.specs.Prelude.{ℤ, int_lt}
use Rattle.std.specs.Ordering.{int_eq, nat_cmp, ord_min}
use Rattle.std.specs.List.{AllByRecursion}
use Rattle.std.proofs.lemmas.Bool.Decides.{nat_tests, Decides-int_eq}
use Rattle.gx_base.specs.declared.price.Price.{Price}
use Rattle.gx_base.specs.declared.order.Side.TheVariants.{Buy, Sell}
use Rattle.book_order.proofs.Before.{int-apart, better-past}
use Rattle.book_order.proofs.Levels.{is_better-irrefl}
use Rattle.plain_book.specs.declared.entry.Entry.{Entry}
use Rattle.plain_book.proofs.Pairs.{all-filter, all-with, all-passing}
use Rattle.gx_base.proofs.Tests.{not-both, int-same}
use Rattle.book_walks.proofs.SideLevels.{either}
use Rattle.open_auction.specs.Candidates.{put_price, prices_of}
use Rattle.open_auction.specs.Inner.Walk.{higher, below}

-- ---- numbers and prices in their order

pub lesser-of : (m n k : ℕ) → k ≡ ord_min nat_cmp m n → k ≡ min m n
lesser-of m n k h = grind (arith, nat_tests)

pub lt-apart : (a b : ℤ) → int_lt a b ≡ true → int_lt b a ≡ false
lt-apart a b h = int-apart a b h

pub lt-irrefl : (a : ℤ) → int_lt a a ≡ false
lt-irrefl a = is_better-irrefl Sell a

-- what is below b is below what is not below b
pub lt-past : (a b c : ℤ) → int_lt a b ≡ true → int_lt c b ≡ false → int_lt a c ≡ true
lt-past a b c h k = better-past Sell a b c h k

-- what is not above a is below what is above a
pub lt-past2 : (a b c : ℤ) → int_lt a b ≡ true → int_lt a c ≡ false → int_lt c b ≡ true
lt-past2 a b c h k = better-past Buy b a c h k

pub lt-then : (a b c : ℤ) → int_lt a b ≡ true → int_lt b c ≡ true → int_lt a c ≡ true
lt-then a b c h k = lt-past a b c h (lt-apart b c k)

-- not below is as good as at or above
pub not-lt-then : (a b c : ℤ) → int_lt a b ≡ false → int_lt b c ≡ false → int_lt a c ≡ false
not-lt-then a b c h k = elim (either (int_lt a c)) [ inl t ↦ not-both (int_lt a b) (lt-past a c b t k) h | inr f ↦ f ]

-- q is below p, is p, or is above it
abbrev pub Compared : ℤ → ℤ → Type 0
Compared q p = (int_lt q p ≡ true) ⊎ ((int_lt q p ≡ false) × (int_eq q p ≡ true) × (q ≡ p)) ⊎ ((int_lt q p ≡ false) × (int_eq q p ≡ false) × (int_lt p q ≡ true))

pub compared : (q p : ℤ) → Compared q p
compared q p = elim (either (int_lt q p)) [
  | inl below ↦ inl below
  | inr not_below ↦ elim (either (int_eq q p)) [
    | inl same ↦ inr (inl (not_below, same, (Decides-int_eq q p).0 same))
    | inr other ↦ elim (either (int_lt p q)) [
      | inl above ↦ inr (inr (not_below, other, above))
      | inr not_above ↦ not-both (int_eq q p) ((Decides-int_eq q p).1 (int-same q p not_below not_above)) other
    ]
  ]
]

-- what the three tests of two prices say together
abbrev pub Tested : ℤ → ℤ → Type 0
Tested q p =
    ((int_lt q p ≡ true) × (int_eq q p ≡ false) × (int_lt p q ≡ false))
    ⊎ ((int_lt q p ≡ false) × (int_eq q p ≡ true) × (int_lt p q ≡ false))
    ⊎ ((int_lt q p ≡ false) × (int_eq q p ≡ false) × (int_lt p q ≡ true))

pub tested : (q p : ℤ) → Tested q p
tested q p = elim (compared q p) [
  | inl less ↦ inl (less, elim (either (int_eq q p)) [ inl same ↦ not-both (int_lt q p) less (ap (λ (x : ℤ). int_lt x p) ((Decides-int_eq q p).0 same) ∙ lt-irrefl p) | inr other ↦ other ], lt-apart q p less)
  | inr (inl same) ↦ inr (inl (same.0, same.1, ap (λ (x : ℤ). int_lt p x) same.2 ∙ lt-irrefl p))
  | inr (inr above) ↦ inr (inr above)
]

-- ---- prices from the highest down, each once

abbrev pub lt : Price → Price → Bool
lt a b = int_lt a.0 b.0

abbrev pub AllBelow : Price → List Price → Type 0
AllBelow p qs = AllByRecursion (λ (q : Price). lt q p ≡ true) qs

abbrev pub Descending : List Price → Type 0
Descending [] = Unit {0}
Descending (q ∷ qs) = AllBelow q qs × Descending qs

pub put-first : (p q : Price) (qs : List Price) → lt q p ≡ true → put_price p (q ∷ qs) ≡ p ∷ q ∷ qs
put-first p q qs h = ap (λ (b : Bool). cond b (p ∷ q ∷ qs) (cond (int_eq q.0 p.0) (q ∷ qs) (q ∷ put_price p qs))) h

pub put-there : (p q : Price) (qs : List Price) → lt q p ≡ false → int_eq q.0 p.0 ≡ true → put_price p (q ∷ qs) ≡ q ∷ qs
put-there p q qs h k =
    ap (λ (b : Bool). cond b (p ∷ q ∷ qs) (cond (int_eq q.0 p.0) (q ∷ qs) (q ∷ put_price p qs))) h
    ∙ ap (λ (b : Bool). cond b (q ∷ qs) (q ∷ put_price p qs)) k

pub put-later : (p q : Price) (qs : List Price) → lt q p ≡ false → int_eq q.0 p.0 ≡ false → put_price p (q ∷ qs) ≡ q ∷ put_price p qs
put-later p q qs h k =
    ap (λ (b : Bool). cond b (p ∷ q ∷ qs) (cond (int_eq q.0 p.0) (q ∷ qs) (q ∷ put_price p qs))) h
    ∙ ap (λ (b : Bool). cond b (q ∷ qs) (q ∷ put_price p qs)) k

put-above : (p : Price) (qs : List Price) → AllBelow p qs → put_price p qs ≡ p ∷ qs
put-above p [] h = refl
put-above p (q ∷ qs) h = put-first p q qs h.0

pub all-put : (P : Price → Type 0) (p : Price) (qs : List Price) → P p → AllByRecursion P qs → AllByRecursion P (put_price p qs)
all-put P p [] h k = (h, tt)
all-put P p (q ∷ qs) h k = elim (compared q.0 p.0) [
  | inl below ↦ subst (AllByRecursion P) (sym (put-first p q qs below)) (h, k)
  | inr (inl same) ↦ subst (AllByRecursion P) (sym (put-there p q qs same.0 same.1)) k
  | inr (inr above) ↦ subst (AllByRecursion P) (sym (put-later p q qs above.0 above.1)) (k.0, all-put P p qs h k.1)
]

descending-put : (p : Price) (qs : List Price) → Descending qs → Descending (put_price p qs)
descending-put p [] h = (tt, tt)
descending-put p (q ∷ qs) h = elim (compared q.0 p.0) [
  | inl below ↦
      subst Descending (sym (put-first p q qs below))
      ((below, all-with (λ (r : Price). lt r q ≡ true) (λ (r : Price). lt r p ≡ true) (λ r k. lt-then r.0 q.0 p.0 k below) qs h.0), h)
  | inr (inl same) ↦ subst Descending (sym (put-there p q qs same.0 same.1)) h
  | inr (inr above) ↦
      subst Descending (sym (put-later p q qs above.0 above.1))
      (all-put (λ (r : Price). lt r q ≡ true) p qs above.2 h.0, descending-put p qs h.1)
]

pub descending : (es : List Entry) → Descending (prices_of es)
descending [] = tt
descending (e ∷ es) = descending-put e.order.price (prices_of es) (descending es)

-- ---- what a filter leaves

module _ {X : Type 0} (t : X → Bool) where
  pub keeps : (x : X) (xs : List X) → t x ≡ true → filter t (x ∷ xs) ≡ x ∷ filter t xs
  keeps x xs h = ap (λ (b : Bool). cond b (x ∷ filter t xs) (filter t xs)) h

  pub drops : (x : X) (xs : List X) → t x ≡ false → filter t (x ∷ xs) ≡ filter t xs
  drops x xs h = ap (λ (b : Bool). cond b (x ∷ filter t xs) (filter t xs)) h

  pub keeps-all : (xs : List X) → AllByRecursion (λ (x : X). t x ≡ true) xs → filter t xs ≡ xs
  keeps-all [] h = refl
  keeps-all (x ∷ xs) h = keeps x xs h.0 ∙ ap (λ (ys : List X). x ∷ ys) (keeps-all xs h.1)

  pub drops-all : (xs : List X) → AllByRecursion (λ (x : X). t x ≡ false) xs → filter t xs ≡ []
  drops-all [] h = refl
  drops-all (x ∷ xs) h = drops x xs h.0 ∙ drops-all xs h.1

module _ (t : ℤ → Bool) where
  abbrev passes : Price → Bool
  passes p = t p.0

  put-kept : (p : Price) (qs : List Price) → Descending qs → t p.0 ≡ true → filter passes (put_price p qs) ≡ put_price p (filter passes qs)
  put-kept p [] o h = keeps passes p [] h
  put-kept p (q ∷ qs) o h = elim (compared q.0 p.0) [
    | inl below ↦
        let all : AllBelow p (q ∷ qs) = (below, all-with (λ (r : Price). lt r q ≡ true) (λ (r : Price). lt r p ≡ true) (λ r k. lt-then r.0 q.0 p.0 k below) qs o.0) in
        ap (λ (l : List Price). filter passes l) (put-first p q qs below)
        ∙ keeps passes p (q ∷ qs) h
        ∙ sym (put-above p (filter passes (q ∷ qs)) (all-filter (λ (r : Price). lt r p ≡ true) passes (q ∷ qs) all))
    | inr (inl same) ↦
        let here : t q.0 ≡ true = ap t same.2 ∙ h in
        ap (λ (l : List Price). filter passes l) (put-there p q qs same.0 same.1)
        ∙ keeps passes q qs here
        ∙ sym (put-there p q (filter passes qs) same.0 same.1)
        ∙ ap (λ (l : List Price). put_price p l) (sym (keeps passes q qs here))
    | inr (inr above) ↦
        ap (λ (l : List Price). filter passes l) (put-later p q qs above.0 above.1)
        ∙ elim (either (t q.0)) [
          | inl pass ↦
              keeps passes q (put_price p qs) pass
              ∙ ap (λ (l : List Price). q ∷ l) (put-kept p qs o.1 h)
              ∙ sym (put-later p q (filter passes qs) above.0 above.1)
              ∙ ap (λ (l : List Price). put_price p l) (sym (keeps passes q qs pass))
          | inr stop ↦
              drops passes q (put_price p qs) stop
              ∙ put-kept p qs o.1 h
              ∙ ap (λ (l : List Price). put_price p l) (sym (drops passes q qs stop))
        ]
  ]

  put-dropped : (p : Price) (qs : List Price) → t p.0 ≡ false → filter passes (put_price p qs) ≡ filter passes qs
  put-dropped p [] h = drops passes p [] h
  put-dropped p (q ∷ qs) h = elim (compared q.0 p.0) [
    | inl below ↦ ap (λ (l : List Price). filter passes l) (put-first p q qs below) ∙ drops passes p (q ∷ qs) h
    | inr (inl same) ↦ ap (λ (l : List Price). filter passes l) (put-there p q qs same.0 same.1)
    | inr (inr above) ↦
        ap (λ (l : List Price). filter passes l) (put-later p q qs above.0 above.1)
        ∙ ap (λ (l : List Price). cond (t q.0) (q ∷ l) l) (put-dropped p qs h)
  ]

  abbrev pub passing : Entry → Bool
  passing e = t e.order.price.0

  -- the prices that pass are those of the orders whose prices pass
  pub prices-filter : (es : List Entry) → filter passes (prices_of es) ≡ prices_of (filter passing es)
  prices-filter [] = refl
  prices-filter (e ∷ es) = elim (either (t e.order.price.0)) [
    | inl pass ↦
        put-kept e.order.price (prices_of es) (descending es) pass
        ∙ ap (λ (l : List Price). put_price e.order.price l) (prices-filter es)
        ∙ ap prices_of (sym (keeps passing e es pass))
    | inr stop ↦ put-dropped e.order.price (prices_of es) stop ∙ prices-filter es ∙ ap prices_of (sym (drops passing e es stop))
  ]

-- ---- the next price down

-- after the next price below p stands what is below that one
pub next-below : (p q : Price) (cs rest : List Price) → Descending cs → filter (below p) cs ≡ q ∷ rest → rest ≡ filter (below q) cs
next-below p q [] rest o h = absurd (let e : [] ≡ q ∷ rest = h in cc)
next-below p q (c ∷ cs) rest o h = elim (either (lt c p)) [
  | inl pass ↦
      let all : AllBelow p cs = all-with (λ (r : Price). lt r c ≡ true) (λ (r : Price). lt r p ≡ true) (λ r k. lt-then r.0 c.0 p.0 k pass) cs o.0 in
      let is : c ∷ cs ≡ q ∷ rest = sym (keeps-all (below p) (c ∷ cs) (pass, all)) ∙ h in
      let head : c ≡ q = cc in
      let tail : cs ≡ rest = cc in
      sym tail ∙ sym (drops (below c) c cs (lt-irrefl c.0) ∙ keeps-all (below c) cs o.0) ∙ ap (λ (r : Price). filter (below r) (c ∷ cs)) head
  | inr stop ↦
      let skip : filter (below p) cs ≡ q ∷ rest = sym (drops (below p) c cs stop) ∙ h in
      let under : lt q p ≡ true = first-passes p q rest cs skip in
      next-below p q cs rest o.1 skip ∙ sym (drops (below q) c cs (not-above c q p under stop))
]
  where
    first-passes : (p q : Price) (rest cs : List Price) → filter (below p) cs ≡ q ∷ rest → lt q p ≡ true
    first-passes p q rest cs h = let P : List Price → Type 0 = AllByRecursion (λ (r : Price). lt r p ≡ true) in (subst P h (all-passing (λ (r : Price). lt r p ≡ true) (below p) (λ x k. k) cs)).0

    not-above : (c q p : Price) → lt q p ≡ true → lt c p ≡ false → lt c q ≡ false
    not-above c q p h k = elim (either (lt c q)) [ inl t ↦ not-both (lt c p) (lt-then c.0 q.0 p.0 t h) k | inr f ↦ f ]

-- after the highest price stands what is below it
pub after-first : (q : Price) (qs : List Price) → Descending (q ∷ qs) → qs ≡ filter (below q) (q ∷ qs)
after-first q qs o = sym (drops (below q) q qs (lt-irrefl q.0) ∙ keeps-all (below q) qs o.0)

-- ---- which price is the first

abbrev pub first_price : List Price → Option Price
first_price [] = None
first_price (p ∷ ps) = Some p

pub first-put : (p : Price) (ps : List Price) → first_price (put_price p ps) ≡ higher (Some p) (first_price ps)
first-put p [] = refl
first-put p (q ∷ qs) =
    let H = λ (b : Bool). cond b (Some q) (Some p) in
    elim (compared q.0 p.0) [
      | inl less ↦ ap first_price (put-first p q qs less) ∙ sym (ap H (lt-apart q.0 p.0 less))
      | inr (inl same) ↦
          let is : q ≡ p = ap (λ (z : ℤ). let price : Price = record { 0 = z } in price) same.2 in
          ap first_price (put-there p q qs same.0 same.1) ∙ ap Some is ∙ sym (ap H (ap (λ (z : ℤ). int_lt p.0 z) same.2 ∙ lt-irrefl p.0))
      | inr (inr above) ↦ ap first_price (put-later p q qs above.0 above.1) ∙ sym (ap H above.2)
    ]

-- no order's price is above this one; where there is none, there is no order
abbrev pub Highest : Option Price → List Entry → Type 0
Highest None es = es ≡ []
Highest (Some q) es = AllByRecursion (λ (e : Entry). lt q e.order.price ≡ false) es

higher-highest : (e : Entry) (o : Option Price) (es : List Entry) → Highest o es → Highest (higher (Some e.order.price) o) (e ∷ es)
higher-highest e None es h = (lt-irrefl e.order.price.0, subst (λ (l : List Entry). AllByRecursion (λ (x : Entry). lt e.order.price x.order.price ≡ false) l) (sym h) tt)
higher-highest e (Some q) es h =
    let p = e.order.price in
    elim (either (lt p q)) [
      | inl less ↦ subst (λ (o : Option Price). Highest o (e ∷ es)) (sym (ap (λ (b : Bool). cond b (Some q) (Some p)) less)) (lt-apart p.0 q.0 less, h)
      | inr not_less ↦
          subst (λ (o : Option Price). Highest o (e ∷ es)) (sym (ap (λ (b : Bool). cond b (Some q) (Some p)) not_less))
          (lt-irrefl p.0, all-with (λ (x : Entry). lt q x.order.price ≡ false) (λ (x : Entry). lt p x.order.price ≡ false) (λ x k. not-lt-then p.0 q.0 x.order.price.0 not_less k) es h)
    ]

pub first-highest : (es : List Entry) → Highest (first_price (prices_of es)) es
first-highest [] = refl
first-highest (e ∷ es) = subst (λ (o : Option Price). Highest o (e ∷ es)) (sym (first-put e.order.price (prices_of es))) (higher-highest e (first_price (prices_of es)) es (first-highest es))

-- ---- the first price of two lists

higher-assoc : (a b c : Option Price) → higher (higher a b) c ≡ higher a (higher b c)
higher-assoc None b c = refl
higher-assoc (Some p) None c = refl
higher-assoc (Some p) (Some q) None = elim (lt p q) as (λ (b : Bool). higher (cond b (Some q) (Some p)) None ≡ cond b (Some q) (Some p)) [ true ↦ refl | false ↦ refl ]
higher-assoc (Some p) (Some q) (Some r) =
    let H = λ (x y : Price) (b : Bool). cond b (Some y) (Some x) in
    elim (either (lt p q)) [
      | inl pq ↦
          ap (λ (o : Option Price). higher o (Some r)) (ap (H p q) pq)
          ∙ elim (either (lt q r)) [
            | inl qr ↦ ap (H q r) qr ∙ sym (ap (higher (Some p)) (ap (H q r) qr) ∙ ap (H p r) (lt-then p.0 q.0 r.0 pq qr))
            | inr not_qr ↦ ap (H q r) not_qr ∙ sym (ap (higher (Some p)) (ap (H q r) not_qr) ∙ ap (H p q) pq)
          ]
      | inr not_pq ↦
          ap (λ (o : Option Price). higher o (Some r)) (ap (H p q) not_pq)
          ∙ elim (either (lt q r)) [
            | inl qr ↦ sym (ap (higher (Some p)) (ap (H q r) qr))
            | inr not_qr ↦ ap (H p r) (not-lt-then p.0 q.0 r.0 not_pq not_qr) ∙ sym (ap (higher (Some p)) (ap (H q r) not_qr) ∙ ap (H p q) not_pq)
          ]
    ]

pub first-append : (xs ys : List Entry) → first_price (prices_of (xs ++ ys)) ≡ higher (first_price (prices_of xs)) (first_price (prices_of ys))
first-append [] ys = refl
first-append (x ∷ xs) ys =
    first-put x.order.price (prices_of (xs ++ ys))
    ∙ ap (higher (Some x.order.price)) (first-append xs ys)
    ∙ sym (higher-assoc (Some x.order.price) (first_price (prices_of xs)) (first_price (prices_of ys)))
    ∙ ap (λ (o : Option Price). higher o (first_price (prices_of ys))) (sym (first-put x.order.price (prices_of xs)))
