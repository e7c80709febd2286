-- What the shares of a step add up to: no more than what is wanted.
use Rattle.std.proofs.Common.{◌≡◌, ℕ, ◌+◌, ◌-◌, ◌*◌, ◌/◌, ◌≤◌, min, Bool, true, false, cond, List, [], ◌∷◌, ◌++◌, map, filter, Option, Some, None, refl, sym, ap, subst, ◌∙◌, arith, inl, inr, sum_by}
use Rattle.std.specs.Prelude.{nat_lt}
use Rattle.std.proofs.Math.Nat.{div-mul-le_self, le_of_mul-le-mul_right, mul-le-mul_left}
use Rattle.std.proofs.lemmas.Bool.Decides.{eqb_tells}
use Rattle.std.proofs.lemmas.List.Sums.{sum_by-cons, sum_by-append}
use Rattle.gx_base.specs.declared.order.LmmShare.{LmmShare}
use Rattle.step_config.specs.RightSteps.{AreRightShares}
use Rattle.plain_book.specs.declared.entry.Entry.{Entry}
use Rattle.plain_book.specs.Orders.{HasSlot, is_slot}
use Rattle.plain_book.specs.Book.{AllDiffer}
use Rattle.plain_book.specs.Match.{Share}
use Rattle.plain_book.specs.Steps.{spent, top_shares, lmm_shares, prorata_share, prorata_shares, ones}
use Rattle.plain_book.proofs.Levels.{lacks}
use Rattle.plain_book.proofs.Parts.{parts-fit}
use Rattle.level_sweep.proofs.StepShares.{is_of_firm}

abbrev pub lots_of : List Share → ℕ
lots_of shares = sum_by (λ (s : Share). s.1) shares

-- ---- what shares add up to

pub lots-cons : (s : Share) (ss : List Share) → lots_of (s ∷ ss) ≡ s.1 + lots_of ss
lots-cons s ss = sum_by-cons (λ (x : Share). x.1) s ss

lots-map : (f : Entry → ℕ) (es : List Entry) → lots_of (map (λ (e : Entry). (e.slot, f e)) es) ≡ sum_by f es
lots-map f [] = refl
lots-map f (e ∷ es) = omega (arith, lots-cons (e.slot, f e) (map (λ (x : Entry). (x.slot, f x)) es), sum_by-cons f e es, lots-map f es)

pub spent-wanted : (n : ℕ) (es : List Entry) → lots_of (spent n es) ≤ n
spent-wanted n [] = omega arith
spent-wanted n (e ∷ es) =
    let g = min n e.order.shown in
    omega (arith, lots-cons (e.slot, g) (spent (n - g) es), spent-wanted (n - g) es)

pub split-part : (q percent : ℕ) → percent ≤ 100 → q * percent / 100 ≤ q
split-part q percent h =
    let d : q * percent / 100 * 100 ≤ q * percent = div-mul-le_self (q * percent) 100 in
    let most : q * percent ≤ q * 100 = mul-le-mul_left q h in
    let all : q * percent / 100 * 100 ≤ q * 100 = omega (arith, d, most) in
    le_of_mul-le-mul_right all (omega arith)

none-at : (s : ℕ) (es : List Entry) → (HasSlot s es → ⊥) → filter (is_slot s) es ≡ []
none-at s [] h = refl
none-at s (e ∷ es) h =
    let F = filter (is_slot s) es in
    ap (λ (b : Bool). cond b (e ∷ F) F) (lacks s e es h) ∙ none-at s es (λ k. h (inr k))

-- one order at most has the slot
one-wanted : (f : Entry → ℕ) (q : ℕ) → ((e : Entry) → f e ≤ q) → (s : ℕ) (es : List Entry) → AllDiffer es → sum_by f (filter (is_slot s) es) ≤ q
one-wanted f q h s [] d = omega arith
one-wanted f q h s (e ∷ es) d =
    let F = filter (is_slot s) es in
    elim (eqb_tells e.slot s) [
      | inl t ↦
          let none : F ≡ [] = none-at s es (λ k. d.0 (subst (λ (n : ℕ). HasSlot n es) (sym t.1) k)) in
          let is : filter (is_slot s) (e ∷ es) ≡ e ∷ [] = ap (λ (b : Bool). cond b (e ∷ F) F) t.0 ∙ ap (λ (x : List Entry). e ∷ x) none in
          subst (λ (x : List Entry). sum_by f x ≤ q) (sym is) (omega (arith, sum_by-cons f e [], h e))
      | inr t ↦ subst (λ (b : Bool). sum_by f (cond b (e ∷ F) F) ≤ q) (sym t.0) (one-wanted f q h s es d.1)
    ]

abbrev pub top_share : ℕ → ℕ → Entry → ℕ
top_share most q e = min q (min e.order.shown most)

pub top-wanted : (most : ℕ) (top : Option ℕ) (q : ℕ) (es : List Entry) → AllDiffer es → lots_of (top_shares most top q es) ≤ q
top-wanted most None q es d = omega arith
top-wanted most (Some s) q es d = omega (arith, lots-map (top_share most q) (filter (is_slot s) es), one-wanted (top_share most q) q (λ e. omega arith) s es d)

abbrev percent_of : LmmShare → ℕ
percent_of s = s.percent

-- the part of q that a lead market maker gets
abbrev part_in : ℕ → LmmShare → ℕ
part_in q s = q * s.percent / 100

pub lots-append : (xs ys : List Share) → lots_of (xs ++ ys) ≡ lots_of xs + lots_of ys
lots-append xs ys = sum_by-append (λ (s : Share). s.1) xs ys

lmm-wanted : (fs : List LmmShare) (q : ℕ) (es : List Entry) → lots_of (lmm_shares fs q es) ≤ sum_by (part_in q) fs
lmm-wanted [] q es = omega arith
lmm-wanted (f ∷ fs) q es =
    let own : lots_of (spent (q * f.percent / 100) (filter (is_of_firm f.firm) es)) ≤ part_in q f = spent-wanted (q * f.percent / 100) (filter (is_of_firm f.firm) es) in
    omega (arith, lots-append (spent (q * f.percent / 100) (filter (is_of_firm f.firm) es)) (lmm_shares fs q es), sum_by-cons (part_in q) f fs, own, lmm-wanted fs q es)

-- ---- in proportion

share-part : (least pool total shown : ℕ) → prorata_share least pool total shown ≤ pool * shown / total
share-part least pool total shown =
    let part = pool * shown / total in
    let go : (b : Bool) → cond b 0 part ≤ part = elim [ true ↦ omega arith | false ↦ omega arith ] in
    go (nat_lt part least)

pub prorata-wanted : (least q : ℕ) (es : List Entry) → lots_of (prorata_shares least q es) ≤ q
prorata-wanted least q es =
    let total = sum_by (λ (e : Entry). e.order.shown) es in
    let pool = min q total in
    let f = λ (e : Entry). prorata_share least pool total e.order.shown in
    omega (arith, lots-map f es, parts-fit f (λ (e : Entry). e.order.shown) pool total (λ e. share-part least pool total e.order.shown) es (omega arith))

pub ones-wanted : (q : ℕ) (es : List Entry) → lots_of (ones q es) ≤ q
ones-wanted q [] = omega arith
ones-wanted q (e ∷ es) = omega (arith, lots-cons (e.slot, min q 1) (ones (q - 1) es), ones-wanted (q - 1) es)

pub lmm-fits : (fs : List LmmShare) (q : ℕ) (es : List Entry) → AreRightShares fs → lots_of (lmm_shares fs q es) ≤ q
lmm-fits fs q es h = omega (arith, lmm-wanted fs q es, parts-fit (part_in q) percent_of q 100 (λ s. omega arith) fs h.at_most_all)
