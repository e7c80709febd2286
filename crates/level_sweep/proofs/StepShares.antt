-- The shares of a step go to different orders of its level, and each gives at most what it shows.
use Rattle.std.proofs.Common.{◌≡◌, ◌≢◌, ℕ, ◌+◌, ◌-◌, ◌*◌, ◌/◌, ◌≤◌, min, Bool, true, false, cond, not, List, [], ◌∷◌, ◌++◌, map, filter, Option, Some, None, refl, sym, ap, subst, ◌∙◌, arith, inl, inr, sum_by}
use Prim.Native.Nat.{zero, suc}
use Rattle.std.specs.Prelude.{◌==◌, nat_lt}
use Rattle.std.specs.List.{AllByRecursion, IsDistinct}
use Rattle.std.proofs.Math.Nat.{div-mul-le_self, div-zero, le_of_mul-le-mul_right, mul-le-mul_left}
use Rattle.std.proofs.lemmas.Bool.Decides.{eqb_tells}
use Rattle.gx_base.specs.declared.order.LmmShare.{LmmShare}
use Rattle.gx_base.specs.declared.order.Order.{Order}
use Rattle.plain_book.specs.declared.entry.Entry.{Entry}
use Rattle.plain_book.specs.Orders.{HasSlot, order_of, is_slot}
use Rattle.plain_book.specs.Book.{AllDiffer}
use Rattle.plain_book.specs.Match.{Share}
use Rattle.plain_book.specs.Steps.{spent, top_shares, lmm_shares, prorata_share, prorata_shares, ones}
use Rattle.plain_book.proofs.Filters.{filter-under}
use Rattle.plain_book.proofs.Levels.{HasSlot-filter, AllDiffer-filter, order_of-filter, lacks, same}
use Rattle.plain_book.proofs.Pairs.{all-with, all-append, all-filter}

-- each share is that of another order
abbrev pub AreApart : List Share → Type 0
AreApart [] = Unit {0}
AreApart (x ∷ xs) = AllByRecursion (λ (y : Share). y.0 ≢ x.0) xs × AreApart xs

-- the share is of an order of the list, and at most what it shows
abbrev pub IsGiven : List Entry → Share → Type 0
IsGiven es x = HasSlot x.0 es × (x.1 ≤ (order_of x.0 es).shown)

-- shares of different orders of a list
pub record AreOf (es : List Entry) (xs : List Share) : Type 0 where
  pub within : AllByRecursion (IsGiven es) xs
  pub apart : AreApart xs

-- ---- one share for each order

given-more : (e : Entry) (es : List Entry) (x : Share) → (HasSlot e.slot es → ⊥) → IsGiven es x → IsGiven (e ∷ es) x
given-more e es x lacks h = elim (eqb_tells e.slot x.0) [
  | inl t ↦ absurd (lacks (subst (λ (s : ℕ). HasSlot s es) (sym t.1) h.0))
  | inr t ↦ (inr h.0, subst (λ (b : Bool). x.1 ≤ (cond b e.order (order_of x.0 es)).shown) (sym t.0) h.1)
]

of-cons : (n : ℕ) (e : Entry) (es : List Entry) (xs : List Share) → n ≤ e.order.shown → (HasSlot e.slot es → ⊥) → AreOf es xs → AreOf (e ∷ es) ((e.slot, n) ∷ xs)
of-cons n e es xs le lacks of = record {
  within = (
    (inl refl, subst (λ (b : Bool). n ≤ (cond b e.order (order_of e.slot es)).shown) (sym (same e.slot)) le),
    all-with (IsGiven es) (IsGiven (e ∷ es)) (λ x h. given-more e es x lacks h) xs of.within,
  );
  apart = (all-with (IsGiven es) (λ (x : Share). x.0 ≢ e.slot) (λ x h is. lacks (subst (λ (s : ℕ). HasSlot s es) is h.0)) xs of.within, of.apart);
}

pub spent-of : (n : ℕ) (es : List Entry) → AllDiffer es → AreOf es (spent n es)
spent-of n [] d = record { within = tt; apart = tt }
spent-of n (e ∷ es) d = let k = min n e.order.shown in of-cons k e es (spent (n - k) es) (omega arith) d.0 (spent-of (n - k) es d.1)

map-of : (f : Entry → ℕ) → ((e : Entry) → f e ≤ e.order.shown) → (es : List Entry) → AllDiffer es → AreOf es (map (λ (e : Entry). (e.slot, f e)) es)
map-of f h [] d = record { within = tt; apart = tt }
map-of f h (e ∷ es) d = of-cons (f e) e es (map (λ (x : Entry). (x.slot, f x)) es) (h e) d.0 (map-of f h es d.1)

-- each order shows a lot
abbrev pub AllShow : List Entry → Type 0
AllShow es = AllByRecursion (λ (e : Entry). 1 ≤ e.order.shown) es

ones-of : (q : ℕ) (es : List Entry) → AllShow es → AllDiffer es → AreOf es (ones q es)
ones-of q [] h d = record { within = tt; apart = tt }
ones-of q (e ∷ es) h d = of-cons (min q 1) e es (ones (q - 1) es) (omega (arith, h.0)) d.0 (ones-of (q - 1) es h.1 d.1)

-- ---- of some of the orders

of-filter : (p : Entry → Bool) (es : List Entry) (xs : List Share) → AllDiffer es → AreOf (filter p es) xs → AreOf es xs
of-filter p es xs d of = record {
  within = all-with (IsGiven (filter p es)) (IsGiven es) (λ x h. (HasSlot-filter p x.0 es h.0, subst (λ (o : Order). x.1 ≤ o.shown) (order_of-filter p x.0 es d h.0) h.1)) xs of.within;
  apart = of.apart;
}

pub top-of : (most : ℕ) (top : Option ℕ) (q : ℕ) (es : List Entry) → AllDiffer es → AreOf es (top_shares most top q es)
top-of most None q es d = record { within = tt; apart = tt }
top-of most (Some s) q es d =
    let f = λ (e : Entry). min q (min e.order.shown most) in
    of-filter (is_slot s) es (map (λ (e : Entry). (e.slot, f e)) (filter (is_slot s) es)) d (map-of f (λ e. omega arith) (filter (is_slot s) es) (AllDiffer-filter (is_slot s) es d))

abbrev pub is_left_out : Entry → Bool
is_left_out e = e.order.prorated == 0

pub leveling-of : (q : ℕ) (es : List Entry) → AllShow es → AllDiffer es → AreOf es (ones q (filter is_left_out es))
leveling-of q es h d =
    of-filter is_left_out es (ones q (filter is_left_out es)) d
    (ones-of q (filter is_left_out es) (all-filter (λ (e : Entry). 1 ≤ e.order.shown) is_left_out es h) (AllDiffer-filter is_left_out es d))

-- ---- of two halves of the orders

-- no order passes a test and its opposite
halves-apart : (p : Entry → Bool) (s : ℕ) (es : List Entry) → AllDiffer es → HasSlot s (filter p es) → HasSlot s (filter (λ e. not (p e)) es) → ⊥
halves-apart p s [] d h k = h
halves-apart p s (e ∷ es) d h k =
    let F = filter p es in
    let G = filter (λ x. not (p x)) es in
    let go : (b : Bool) → HasSlot s (cond b (e ∷ F) F) → HasSlot s (cond (not b) (e ∷ G) G) → ⊥ = elim [
      | true ↦ λ f g. elim f [
        | inl is ↦ d.0 (subst (λ (n : ℕ). HasSlot n es) (sym is) (HasSlot-filter (λ x. not (p x)) s es g))
        | inr more ↦ halves-apart p s es d.1 more g
      ]
      | false ↦ λ f g. elim g [
        | inl is ↦ d.0 (subst (λ (n : ℕ). HasSlot n es) (sym is) (HasSlot-filter p s es f))
        | inr more ↦ halves-apart p s es d.1 f more
      ]
    ] in go (p e) h k

apart-append : (xs ys : List Share) → AreApart xs → AreApart ys → AllByRecursion (λ (x : Share). AllByRecursion (λ (y : Share). y.0 ≢ x.0) ys) xs → AreApart (xs ++ ys)
apart-append [] ys h k all = k
apart-append (x ∷ xs) ys h k all = (all-append (λ (y : Share). y.0 ≢ x.0) xs ys h.0 all.0, apart-append xs ys h.1 k all.1)

of-halves : (p : Entry → Bool) (es : List Entry) (xs ys : List Share) → AllDiffer es → AreOf (filter p es) xs → AreOf (filter (λ e. not (p e)) es) ys → AreOf es (xs ++ ys)
of-halves p es xs ys d f g =
    let F = filter p es in
    let G = filter (λ e. not (p e)) es in
    let across : AllByRecursion (λ (x : Share). AllByRecursion (λ (y : Share). y.0 ≢ x.0) ys) xs =
    all-with (IsGiven F) (λ (x : Share). AllByRecursion (λ (y : Share). y.0 ≢ x.0) ys) (λ x h.
    all-with (IsGiven G) (λ (y : Share). y.0 ≢ x.0) (λ y k is. halves-apart p x.0 es d h.0 (subst (λ (n : ℕ). HasSlot n G) is k.0)) ys g.within) xs f.within in
    record {
      within = all-append (IsGiven es) xs ys (of-filter p es xs d f).within (of-filter (λ e. not (p e)) es ys d g).within;
      apart = apart-append xs ys f.apart g.apart across;
    }

-- ---- of the lead market makers

abbrev pub firm_of : LmmShare → ℕ
firm_of s = s.firm

abbrev pub is_of_firm : ℕ → Entry → Bool
is_of_firm firm e = e.order.firm == firm

abbrev pub is_other : ℕ → Entry → Bool
is_other firm e = not (is_of_firm firm e)

other-firm : (a b : ℕ) (e : Entry) → (a == b) ≡ false → is_of_firm b e ≡ true → is_other a e ≡ true
other-firm a b e apart h = elim (eqb_tells e.order.firm a) [
  | inl t ↦ absurd (let k : (a == b) ≡ true = sym (ap (λ (n : ℕ). n == b) t.1) ∙ h in cc)
  | inr t ↦ ap not t.0
]

-- the shares of other firms do not look at the orders of this one
pub lmm-others : (firm : ℕ) (fs : List LmmShare) (q : ℕ) (es : List Entry) → AllByRecursion (λ y. (firm == y) ≡ false) (map firm_of fs) → lmm_shares fs q (filter (is_other firm) es) ≡ lmm_shares fs q es
lmm-others firm [] q es h = refl
lmm-others firm (f ∷ fs) q es h =
    let n = q * f.percent / 100 in
    let same : filter (is_of_firm f.firm) (filter (is_other firm) es) ≡ filter (is_of_firm f.firm) es = filter-under (is_of_firm f.firm) (is_other firm) (λ e k. other-firm firm f.firm e h.0 k) es in
    ap (λ (x : List Entry). spent n x ++ lmm_shares fs q (filter (is_other firm) es)) same ∙ ap (λ (x : List Share). spent n (filter (is_of_firm f.firm) es) ++ x) (lmm-others firm fs q es h.1)

pub distinct-first : (f : LmmShare) (fs : List LmmShare) → IsDistinct (λ a b. a == b) (map firm_of (f ∷ fs)) → AllByRecursion (λ y. (f.firm == y) ≡ false) (map firm_of fs)
unfolding IsDistinct
distinct-first f fs d = d.0

pub distinct-more : (f : LmmShare) (fs : List LmmShare) → IsDistinct (λ a b. a == b) (map firm_of (f ∷ fs)) → IsDistinct (λ a b. a == b) (map firm_of fs)
unfolding IsDistinct
distinct-more f fs d = d.1

pub lmm-of : (fs : List LmmShare) (q : ℕ) (es : List Entry) → IsDistinct (λ a b. a == b) (map firm_of fs) → AllDiffer es → AreOf es (lmm_shares fs q es)
lmm-of [] q es h d = record { within = tt; apart = tt }
lmm-of (f ∷ fs) q es h d =
    let p = is_of_firm f.firm in
    let n = q * f.percent / 100 in
    let rest = filter (is_other f.firm) es in
    let others : AreOf rest (lmm_shares fs q es) =
    subst (AreOf rest) (lmm-others f.firm fs q es (distinct-first f fs h)) (lmm-of fs q rest (distinct-more f fs h) (AllDiffer-filter (is_other f.firm) es d)) in
    of-halves p es (spent n (filter p es)) (lmm_shares fs q es) d (spent-of n (filter p es) (AllDiffer-filter p es d)) others

-- ---- in proportion

pub share-shown : (least pool total shown : ℕ) → pool ≤ total → prorata_share least pool total shown ≤ shown
share-shown least pool zero shown h =
    let go : (b : Bool) → cond b 0 (pool * shown / 0) ≤ shown = elim [ true ↦ omega arith | false ↦ omega (arith, div-zero (pool * shown)) ] in
    go (nat_lt (pool * shown / 0) least)
share-shown least pool (suc n) shown h =
    let d : pool * shown / suc n * suc n ≤ pool * shown = div-mul-le_self (pool * shown) (suc n) in
    let most : shown * pool ≤ shown * suc n = mul-le-mul_left shown h in
    let all : pool * shown / suc n * suc n ≤ shown * suc n = omega (arith, d, most) in
    let le : pool * shown / suc n ≤ shown = le_of_mul-le-mul_right all (omega arith) in
    let go : (b : Bool) → cond b 0 (pool * shown / suc n) ≤ shown = elim [ true ↦ omega arith | false ↦ le ] in
    go (nat_lt (pool * shown / suc n) least)

pub prorata-of : (least q : ℕ) (es : List Entry) → AllDiffer es → AreOf es (prorata_shares least q es)
prorata-of least q es d =
    let total = sum_by (λ (e : Entry). e.order.shown) es in
    map-of (λ (e : Entry). prorata_share least (min q total) total e.order.shown) (λ e. share-shown least (min q total) total e.order.shown (omega arith)) es d
