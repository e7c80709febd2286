-- No price opens more than the opening price.
use Rattle.std.proofs.Common.{◌≡◌, ℕ, ◌+◌, ◌<◌, ◌≤◌, min, Bool, true, false, not, ◌&&◌, ◌||◌, List, [], ◌∷◌, filter, map, sum_by, Option, Some, None, refl, sym, ap, subst, ◌∙◌, arith, inl, inr}
use Rattle.std.specs.Prelude.{ℤ, int_lt, nat_lt, ◌==◌, IfSome}
use Rattle.std.specs.Ordering.{int_eq}
use Rattle.std.specs.List.{AllByRecursion, fold}
use Rattle.std.proofs.lemmas.List.Sums.{sum_by-cons}
use Rattle.std.proofs.lemmas.Bool.Decides.{nat_tests, Decides-int_eq}
use Rattle.gx_base.specs.declared.price.Price.{Price}
use Rattle.gx_base.specs.declared.order.Side.{Side}
use Rattle.gx_base.specs.declared.order.Side.TheVariants.{Buy, Sell}
use Rattle.plain_book.specs.declared.entry.Entry.{Entry}
use Rattle.plain_book.specs.Orders.{is_of, is_on, is_within, side_of}
use Rattle.plain_book.proofs.Pairs.{all-with}
use Rattle.plain_book.proofs.Levels.{and-left}
use Rattle.gx_base.proofs.Tests.{not-both}
use Rattle.book_walks.proofs.SideLevels.{either}
use Rattle.open_auction.specs.declared.quote.Opening.{Opening}
use Rattle.open_auction.specs.Curves.{demand, supply, volume}
use Rattle.open_auction.specs.Candidates.{candidates, prices_of}
use Rattle.open_auction.specs.Openings.{opening_at, is_ahead, chosen, trades, openings, opening_of}
use Rattle.open_auction.specs.Laws.{opened, has_price, IsChosen, NoPriceOpensMore, TiesFallByTheRules}
use Rattle.open_auction.proofs.Prices.{lt, not-lt-then, keeps, drops, drops-all, prices-filter, first_price, Highest, first-highest}
use Rattle.open_auction.proofs.Ahead.{IsBest, IsOneOf, NoneAhead, best-is, best-some, not-ahead-volume}

-- ---- sums over parts of a list

abbrev pub open_in : List Entry → ℕ
open_in es = sum_by (λ e. e.order.leaves) es

-- what passes here passes there
pub less-open : (s t : Entry → Bool) (es : List Entry) → AllByRecursion (λ (e : Entry). s e ≡ true → t e ≡ true) es → open_in (filter s es) ≤ open_in (filter t es)
less-open s t [] h = omega arith
less-open s t (e ∷ es) h =
    let leaves = λ (e : Entry). e.order.leaves in
    let rest : open_in (filter s es) ≤ open_in (filter t es) = less-open s t es h.1 in
    elim (either (s e)) [
      | inl pass ↦
          let a : open_in (filter s (e ∷ es)) ≡ e.order.leaves + open_in (filter s es) = ap open_in (keeps s e es pass) ∙ sum_by-cons leaves e (filter s es) in
          let b : open_in (filter t (e ∷ es)) ≡ e.order.leaves + open_in (filter t es) = ap open_in (keeps t e es (h.0 pass)) ∙ sum_by-cons leaves e (filter t es) in
          omega arith
      | inr stop ↦
          let a : open_in (filter s (e ∷ es)) ≡ open_in (filter s es) = ap open_in (drops s e es stop) in
          elim (either (t e)) [
            | inl pass ↦
                let b : open_in (filter t (e ∷ es)) ≡ e.order.leaves + open_in (filter t es) = ap open_in (keeps t e es pass) ∙ sum_by-cons leaves e (filter t es) in
                omega arith
            | inr stop2 ↦
                let b : open_in (filter t (e ∷ es)) ≡ open_in (filter t es) = ap open_in (drops t e es stop2) in
                omega arith
          ]
    ]

-- ---- the two curves

-- of what holds of each order of an instrument, each order of a side of it
pub all-of-side : (P : Entry → Type 0) (i : ℕ) (s : Side) (es : List Entry) → AllByRecursion P (filter (is_of i) es) → AllByRecursion P (side_of i s es)
all-of-side P i s [] h = tt
all-of-side P i s (e ∷ es) h =
    let I = filter (is_of i) es in
    let S = side_of i s es in
    elim (either (is_on i s e)) [
      | inl on ↦
          let of : is_of i e ≡ true = and-left _ _ on in
          let all : AllByRecursion P (e ∷ I) = subst (AllByRecursion P) (keeps (is_of i) e es of) h in
          subst (AllByRecursion P) (sym (keeps (is_on i s) e es on)) (all.0, all-of-side P i s es all.1)
      | inr off ↦
          subst (AllByRecursion P) (sym (drops (is_on i s) e es off))
          (all-of-side P i s es (elim (either (is_of i e)) [
            | inl of ↦ let all : AllByRecursion P (e ∷ I) = subst (AllByRecursion P) (keeps (is_of i) e es of) h in all.1
            | inr not_of ↦ subst (AllByRecursion P) (drops (is_of i) e es not_of) h
          ]))
    ]

pub not-true : (b : Bool) → not b ≡ true → b ≡ false
not-true true h = cc
not-true false h = refl

-- below c more is wanted
pub demand-falls : (i : ℕ) (es : List Entry) (c p : Price) → lt p c ≡ false → demand i es p ≤ demand i es c
demand-falls i es c p h = less-open (λ e. is_within Buy p.0 e.order.price.0) (λ e. is_within Buy c.0 e.order.price.0) (side_of i Buy es) (all (side_of i Buy es))
  where
    one : (x : ℤ) → not (int_lt x p.0) ≡ true → not (int_lt x c.0) ≡ true
    one x k = ap not (not-lt-then x p.0 c.0 (not-true _ k) h)

    all : (xs : List Entry) → AllByRecursion (λ (e : Entry). is_within Buy p.0 e.order.price.0 ≡ true → is_within Buy c.0 e.order.price.0 ≡ true) xs
    all [] = tt
    all (x ∷ xs) = (one x.order.price.0, all xs)

-- ---- filters and what holds of each

pub unfiltered : {X : Type 0} (P : X → Type 0) (t : X → Bool) (xs : List X) → AllByRecursion P (filter t xs) → AllByRecursion (λ (x : X). t x ≡ true → P x) xs
unfiltered P t [] h = tt
unfiltered {X} P t (x ∷ xs) h = elim (either (t x)) [
  | inl pass ↦ let all : AllByRecursion P (x ∷ filter t xs) = subst (AllByRecursion P) (keeps t x xs pass) h in (λ k. all.0, unfiltered P t xs all.1)
  | inr stop ↦ (λ k. not-both (t x) k stop, unfiltered P t xs (subst (AllByRecursion P) (drops t x xs stop) h))
]

pub none-pass : {X : Type 0} (t : X → Bool) (xs : List X) → filter t xs ≡ [] → AllByRecursion (λ (x : X). t x ≡ false) xs
none-pass t [] h = tt
none-pass {X} t (x ∷ xs) h = elim (either (t x)) [
  | inl pass ↦ absurd (let e : x ∷ filter t xs ≡ [] = sym (keeps t x xs pass) ∙ h in cc)
  | inr stop ↦ (stop, none-pass t xs (sym (drops t x xs stop) ∙ h))
]

-- ---- a candidate opens as much as any price

abbrev at_most : Price → ℤ → Bool
at_most p z = not (int_lt p.0 z)

-- where no order stands at a price or below, nothing is offered there
nothing-offered : (i : ℕ) (es : List Entry) (p : Price) → filter (λ (e : Entry). at_most p e.order.price.0) (filter (is_of i) es) ≡ [] → supply i es p ≡ 0
nothing-offered i es p h =
    let P = λ (e : Entry). at_most p e.order.price.0 ≡ false in
    ap open_in (drops-all (λ (e : Entry). at_most p e.order.price.0) (side_of i Sell es) (all-of-side P i Sell es (none-pass (λ (e : Entry). at_most p e.order.price.0) (filter (is_of i) es) h)))

-- between the next candidate down and p no more is offered
as-offered : (i : ℕ) (es : List Entry) (p c : Price) → AllByRecursion (λ (e : Entry). lt c e.order.price ≡ false) (filter (λ (e : Entry). at_most p e.order.price.0) (filter (is_of i) es)) → supply i es p ≤ supply i es c
as-offered i es p c h =
    let here = λ (e : Entry). at_most p e.order.price.0 in
    let there = λ (e : Entry). at_most c e.order.price.0 in
    let P = λ (e : Entry). lt c e.order.price ≡ false in
    less-open here there (side_of i Sell es)
    (all-with (λ (e : Entry). here e ≡ true → P e) (λ (e : Entry). here e ≡ true → there e ≡ true) (λ e f k. ap not (f k)) (side_of i Sell es)
    (all-of-side (λ (e : Entry). here e ≡ true → P e) i Sell es (unfiltered P here (filter (is_of i) es) h)))

min-le : (a b c d n : ℕ) → a ≤ c → b ≤ d → min c d ≤ n → min a b ≤ n
min-le a b c d n h k l = omega arith

pub first-is : (ps : List Price) (c : Price) → first_price ps ≡ Some c → (rest : List Price) × (ps ≡ c ∷ rest)
first-is [] c h = absurd (let e : None ≡ Some c = h in cc)
first-is (p ∷ ps) c h = let same : p ≡ c = cc in (ps, ap (λ (q : Price). q ∷ ps) same)

-- what bounds the volume of each candidate bounds that of each price
pub bounds-all : (i : ℕ) (es : List Entry) (n : ℕ) → AllByRecursion (λ (c : Price). volume i es c ≤ n) (candidates i es) → (p : Price) → volume i es p ≤ n
bounds-all i es n h p =
    let I = filter (is_of i) es in
    let here = λ (e : Entry). at_most p e.order.price.0 in
    let J = filter here I in
    let kept : filter (λ (q : Price). at_most p q.0) (candidates i es) ≡ prices_of J = prices-filter (at_most p) I in
    let go : (o : Option Price) → first_price (prices_of J) ≡ o → Highest o J → volume i es p ≤ n = elim [
      | None ↦ λ is none. let zero : supply i es p ≡ 0 = nothing-offered i es p none in omega (arith, zero)
      | Some c ↦ λ is top.
          let f = first-is (prices_of J) c is in
          let P = λ (q : Price). (at_most p q.0 ≡ true) × (volume i es q ≤ n) in
          let all : AllByRecursion P (filter (λ (q : Price). at_most p q.0) (candidates i es)) = passing-all p (candidates i es) h in
          let one : P c = (subst (AllByRecursion P) (kept ∙ f.1) all).0 in
          min-le _ _ _ _ n (demand-falls i es c p (not-true _ one.0)) (as-offered i es p c top) one.1
    ] in
    go (first_price (prices_of J)) refl (first-highest J)
  where
    passing-all : (p : Price) (cs : List Price) → AllByRecursion (λ (c : Price). volume i es c ≤ n) cs → AllByRecursion (λ (q : Price). (at_most p q.0 ≡ true) × (volume i es q ≤ n)) (filter (λ (q : Price). at_most p q.0) cs)
    passing-all p [] h = tt
    passing-all p (c ∷ cs) h = elim (either (at_most p c.0)) [
      | inl pass ↦ subst (AllByRecursion (λ (q : Price). (at_most p q.0 ≡ true) × (volume i es q ≤ n))) (sym (keeps (λ (q : Price). at_most p q.0) c cs pass)) ((pass, h.0), passing-all p cs h.1)
      | inr stop ↦ subst (AllByRecursion (λ (q : Price). (at_most p q.0 ≡ true) × (volume i es q ≤ n))) (sym (drops (λ (q : Price). at_most p q.0) c cs stop)) (passing-all p cs h.1)
    ]

-- ---- the best candidate

zero-of : (n : ℕ) → nat_lt 0 n ≡ false → n ≡ 0
zero-of n h = grind (arith, nat_tests)

some-of : (n : ℕ) → nat_lt 0 n ≡ true → 0 < n
some-of n h = grind (arith, nat_tests)

-- the best of some opens as much as each of them
most : (last : Option Price) (os : List Opening) → AllByRecursion (λ (o : Opening). o.volume ≤ opened (fold (chosen last) None os)) os
most last [] = tt
most last (o ∷ os) =
    let some = best-some last o os in
    let best = best-is last o os some.0 some.1 in
    let r = some.0 in
    let is : opened (fold (chosen last) (Some o) os) ≡ r.volume = ap opened some.1 in
    let P : ℕ → Type 0 = λ n. AllByRecursion (λ (x : Opening). x.volume ≤ n) (o ∷ os) in
    subst P (sym is)
    (not-ahead-volume last o r best.here, all-with (λ (x : Opening). is_ahead last x r ≡ false) (λ (x : Opening). x.volume ≤ r.volume) (λ x k. not-ahead-volume last x r k) os best.none)

pub most-of : (i : ℕ) (es : List Entry) (n : ℕ) (cs : List Price) → AllByRecursion (λ (o : Opening). o.volume ≤ n) (filter trades (map (opening_at i es) cs)) → AllByRecursion (λ (c : Price). volume i es c ≤ n) cs
most-of i es n [] h = tt
most-of i es n (c ∷ cs) h =
    let P = λ (o : Opening). o.volume ≤ n in
    let o = opening_at i es c in
    let os = map (opening_at i es) cs in
    elim (either (trades o)) [
      | inl pass ↦ let all : AllByRecursion P (o ∷ filter trades os) = subst (AllByRecursion P) (keeps trades o os pass) h in (all.0, most-of i es n cs all.1)
      | inr stop ↦
          let zero : volume i es c ≡ 0 = zero-of _ stop in
          (omega (arith, zero), most-of i es n cs (subst (AllByRecursion P) (drops trades o os stop) h))
    ]

pub no-price-opens-more : NoPriceOpensMore
no-price-opens-more last i es p = bounds-all i es (opened (opening_of last i es)) (most-of i es _ (candidates i es) (most last (filter trades (openings i es)))) p

-- ---- ties

trading-ahead : (last : Option Price) (a r : Opening) → trades a ≡ false → 0 < r.volume → is_ahead last a r ≡ false
trading-ahead last a r h k = zero-first a.volume r.volume _ (zero-of a.volume h) k
  where
    zero-first : (m n : ℕ) (p : Bool) → m ≡ 0 → 0 < n → (nat_lt n m || ((m == n) && p)) ≡ false
    zero-first m n p h k = grind (arith, nat_tests)

-- where none that trades is ahead, none is
none-of-all : (last : Option Price) (i : ℕ) (es : List Entry) (r : Opening) → 0 < r.volume → (cs : List Price) → NoneAhead last (filter trades (map (opening_at i es) cs)) r → AllByRecursion (λ (p : Price). is_ahead last (opening_at i es p) r ≡ false) cs
none-of-all last i es r some [] h = tt
none-of-all last i es r some (c ∷ cs) h =
    let P = λ (o : Opening). is_ahead last o r ≡ false in
    let o = opening_at i es c in
    let os = map (opening_at i es) cs in
    elim (either (trades o)) [
      | inl pass ↦ let all : AllByRecursion P (o ∷ filter trades os) = subst (AllByRecursion P) (keeps trades o os pass) h in (all.0, none-of-all last i es r some cs all.1)
      | inr stop ↦ (trading-ahead last o r stop some, none-of-all last i es r some cs (subst (AllByRecursion P) (drops trades o os stop) h))
    ]

-- one that trades is an opening at a candidate
pub record IsAtOne (i : ℕ) (es : List Entry) (cs : List Price) (r : Opening) : Type 0 where
  pub is : r ≡ opening_at i es r.price
  pub candidate : has_price r.price cs ≡ true
  pub some : 0 < r.volume

or-right : (a b : Bool) → b ≡ true → (a || b) ≡ true
or-right true b h = refl
or-right false b h = h

or-left : (a b : Bool) → a ≡ true → (a || b) ≡ true
or-left a b h = ap (λ (x : Bool). x || b) h

at-one : (i : ℕ) (es : List Entry) (cs : List Price) (r : Opening) → IsOneOf (filter trades (map (opening_at i es) cs)) r → IsAtOne i es cs r
at-one i es [] r h = absurd h
at-one i es (c ∷ cs) r h =
    let o = opening_at i es c in
    let os = map (opening_at i es) cs in
    let more : IsOneOf (filter trades os) r → IsAtOne i es (c ∷ cs) r = λ k.
    let w : IsAtOne i es cs r = at-one i es cs r k in
    record { is = w.is; candidate = or-right (int_eq c.0 r.price.0) _ w.candidate; some = w.some } in
    elim (either (trades o)) [
      | inl pass ↦
          let one : IsOneOf (o ∷ filter trades os) r = subst (λ (l : List Opening). IsOneOf l r) (keeps trades o os pass) h in
          elim one [
            | inl same ↦ subst (IsAtOne i es (c ∷ cs)) same (record { is = refl; candidate = or-left _ _ ((Decides-int_eq c.0 c.0).1 refl); some = some-of _ pass })
            | inr k ↦ more k
          ]
      | inr stop ↦ more (subst (λ (l : List Opening). IsOneOf l r) (drops trades o os stop) h)
    ]

chosen-is : (last : Option Price) (i : ℕ) (es : List Entry) (r : Opening) → opening_of last i es ≡ Some r → IsChosen last i es r
chosen-is last i es r h = go (filter trades (openings i es)) refl
  where
    go : (os : List Opening) → filter trades (openings i es) ≡ os → IsChosen last i es r
    go [] is = absurd (let e : None ≡ Some r = sym (ap (λ (l : List Opening). fold (chosen last) None l) is) ∙ h in cc)
    go (o ∷ os) is =
        let best : IsBest last o os r = best-is last o os r (sym (ap (λ (l : List Opening). fold (chosen last) None l) is) ∙ h) in
        let one : IsOneOf (filter trades (openings i es)) r = subst (λ (l : List Opening). IsOneOf l r) (sym is) best.one in
        let at = at-one i es (candidates i es) r one in
        let none : NoneAhead last (filter trades (openings i es)) r = subst (λ (l : List Opening). NoneAhead last l r) (sym is) (best.here, best.none) in
        record { is = at.is; candidate = at.candidate; some = at.some; first = none-of-all last i es r at.some (candidates i es) none }

pub ties-fall-by-the-rules : TiesFallByTheRules
ties-fall-by-the-rules last i es = go (opening_of last i es) refl
  where
    go : (o : Option Opening) → opening_of last i es ≡ o → IfSome o (IsChosen last i es)
    go None h = tt
    go (Some r) h = chosen-is last i es r h
