-- The parts of the orders of a level: rounded down, they add up to the pool at most.
use Rattle.std.proofs.Common.{◌≡◌, ◌≢◌, ℕ, ◌*◌, ◌/◌, ◌-◌, ◌<◌, ◌≤◌, Bool, true, false, cond, List, [], ◌∷◌, map, refl, sym, ap, subst, ◌∙◌, arith, sum_by, min, inl, inr, ◌⊎◌}
use Rattle.std.specs.Prelude.{nat_lt, ◌==◌}
use Rattle.std.specs.List.{AllByRecursion}
use Rattle.std.proofs.Math.Nat.{div-mul-le_self, mul-le-mul_right, le_of_mul-le-mul_right}
use Rattle.std.proofs.lemmas.Bool.Decides.{eqb_tells}
use Rattle.std.proofs.lemmas.List.Sums.{sum_by-cons}
use Rattle.gx_base.specs.declared.price.Price.{Price}
use Rattle.gx_base.specs.declared.event.StepName.TheVariants.{ProRata}
use Rattle.plain_book.specs.declared.entry.Entry.{Entry}
use Rattle.plain_book.specs.Orders.{is_at}
use Rattle.plain_book.specs.Book.{AllRest, IsResting}
use Rattle.plain_book.specs.Match.{MatchState, Share, trade_shares}
use Rattle.plain_book.specs.Shares.{shares_by, AreWithin}
use Rattle.plain_book.specs.Steps.{facing, level_now, prorata, prorata_share, prorata_shares}
use Rattle.plain_book.proofs.Pairs.{all-filter, all-with}
use Rattle.prorata_pass.specs.Parts.{parts}
use Rattle.prorata_pass.specs.declared.ratio.Ratio.{Ratio}

abbrev pub shown_of : Entry → ℕ
shown_of e = e.order.shown

-- what is computed for an order
abbrev share_of : Ratio → Entry → ℕ
share_of r e = prorata_share r.least r.pool r.total e.order.shown

shares-map : (r : Ratio) (es : List Entry) → shares_by parts r es ≡ map (λ (e : Entry). (e.slot, share_of r e)) es
shares-map r [] = refl
shares-map r (e ∷ es) = ap (λ (xs : List Share). (e.slot, share_of r e) ∷ xs) (shares-map r es)

-- what the shares are computed from is that of the step
pub record IsRatioOf (r : Ratio) (least q : ℕ) (es : List Entry) : Type 0 where
  pub least_is : r.least ≡ least
  pub pool_is : r.pool ≡ min q (sum_by shown_of es)
  pub total_is : r.total ≡ sum_by shown_of es
  pub some : 0 < r.total

pub ratio-of : (r : Ratio) (least q : ℕ) (es : List Entry) (total : ℕ) → total ≡ sum_by shown_of es → r.least ≡ least → r.pool ≡ min q total → r.total ≡ total → total ≢ 0 → IsRatioOf r least q es
ratio-of r least q es total is l p t some = record {
  least_is = l;
  pool_is = p ∙ ap (λ (n : ℕ). min q n) is;
  total_is = t ∙ is;
  some = omega (arith, t, some);
}

module _ (r : Ratio) (least q : ℕ) (es : List Entry) (is : IsRatioOf r least q es) where
  pub shares-parts : shares_by parts r es ≡ prorata_shares least q es
  shares-parts =
      let total = sum_by shown_of es in
      shares-map r es
      ∙ ap (λ (n : ℕ). map (λ (e : Entry). (e.slot, prorata_share n r.pool r.total e.order.shown)) es) is.least_is
      ∙ ap (λ (n : ℕ). map (λ (e : Entry). (e.slot, prorata_share least n r.total e.order.shown)) es) is.pool_is
      ∙ ap (λ (n : ℕ). map (λ (e : Entry). (e.slot, prorata_share least (min q total) n e.order.shown)) es) is.total_is

-- ---- rounded down

part-le : (least pool total shown : ℕ) → prorata_share least pool total shown * total ≤ pool * shown
part-le least pool total shown =
    let d : pool * shown / total * total ≤ pool * shown = div-mul-le_self (pool * shown) total in
    let go : (b : Bool) → cond b 0 (pool * shown / total) * total ≤ pool * shown = elim [ true ↦ omega arith | false ↦ d ] in
    go (nat_lt (pool * shown / total) least)

-- no order trades more than it shows
pub part-shown : (least pool total shown : ℕ) → pool ≤ total → 0 < total → prorata_share least pool total shown ≤ shown
part-shown least pool total shown le some =
    let n = prorata_share least pool total shown in
    let most : pool * shown ≤ total * shown = mul-le-mul_right shown le in
    let all : n * total ≤ shown * total = omega (arith, part-le least pool total shown, most) in
    le_of_mul-le-mul_right all some

module _ (r : Ratio) where
  parts-le : (es : List Entry) → sum_by (share_of r) es * r.total ≤ r.pool * sum_by shown_of es
  parts-le [] = omega arith
  parts-le (e ∷ es) =
      let a = sum_by-cons (share_of r) e es in
      let b = sum_by-cons shown_of e es in
      let h = parts-le es in
      let s = part-le r.least r.pool r.total e.order.shown in
      rw (a, b) (omega (arith, h, s))

  fits : (wanted : ℕ) (es : List Entry) → r.pool ≤ r.total → 0 < r.total → sum_by (share_of r) es ≤ wanted → AreWithin parts wanted r es
  fits wanted [] le some few = tt
  fits wanted (e ∷ es) le some few =
      let n = share_of r e in
      let sum = sum_by-cons (share_of r) e es in
      (part-shown r.least r.pool r.total e.order.shown le some, omega (arith, sum, few), fits (wanted - n) es le some (omega (arith, sum, few)))

pub parts-within : (r : Ratio) (least q : ℕ) (es : List Entry) → IsRatioOf r least q es → AreWithin parts q r es
parts-within r least q es is =
    let total = sum_by shown_of es in
    let all : sum_by (share_of r) es * r.total ≤ r.pool * r.total = subst (λ (n : ℕ). sum_by (share_of r) es * r.total ≤ r.pool * n) (sym is.total_is) (parts-le r es) in
    let most : sum_by (share_of r) es ≤ r.pool = le_of_mul-le-mul_right all is.some in
    fits r q es (omega (arith, is.pool_is, is.total_is)) is.some (omega (arith, most, is.pool_is))

-- ---- where nothing is done

none-shown : (es : List Entry) → AllByRecursion (λ (e : Entry). 1 ≤ e.order.shown) es → sum_by shown_of es ≡ 0 → es ≡ []
none-shown [] h none = refl
none-shown (e ∷ es) h none = absurd (let some : 1 ≤ e.order.shown = h.0 in omega (arith, sum_by-cons shown_of e es, none))

zero-test : (n : ℕ) → n ≡ 0 → (n == 0) ≡ true
zero-test n h = elim (eqb_tells n 0) [ inl t ↦ t.0 | inr t ↦ absurd (t.1 h) ]

some-test : (n : ℕ) → n ≢ 0 → (n == 0) ≡ false
some-test n h = elim (eqb_tells n 0) [ inl t ↦ absurd (h t.1) | inr t ↦ t.0 ]

module _ (least : ℕ) (price : Price) (m : MatchState) where
  abbrev traded : List Entry → MatchState
  traded es = trade_shares ProRata (prorata_shares least m.taker.order.leaves es) m

  -- nothing is wanted
  none-wanted : m.taker.order.leaves ≡ 0 → m ≡ prorata least price m
  none-wanted h = sym (ap (λ (c : Bool). cond c m (traded (level_now price m))) (zero-test m.taker.order.leaves h))

  pub some-wanted : m.taker.order.leaves ≢ 0 → traded (level_now price m) ≡ prorata least price m
  some-wanted h = sym (ap (λ (c : Bool). cond c m (traded (level_now price m))) (some-test m.taker.order.leaves h))

  -- nothing is shown, so that no order stands there
  nothing-shown : (instruments : ℕ) → AllRest instruments m.book.resting → sum_by shown_of (level_now price m) ≡ 0 → m ≡ prorata least price m
  nothing-shown instruments rest none =
      let Rests = λ (e : Entry). IsResting instruments e.order in
      let Shows = λ (e : Entry). 1 ≤ e.order.shown in
      let empty : level_now price m ≡ [] = none-shown (level_now price m) (all-with Rests Shows (λ e r. r.showing) (level_now price m) (all-filter Rests (is_at (facing price m.taker)) m.book.resting rest)) none in
      let same : m ≡ traded (level_now price m) = ap traded (sym empty) in
      let go : (c : Bool) → m ≡ cond c m (traded (level_now price m)) = elim [ true ↦ refl | false ↦ same ] in
      go (m.taker.order.leaves == 0)

  pub none-done : (instruments total : ℕ) → AllRest instruments m.book.resting → total ≡ sum_by shown_of (level_now price m) → (m.taker.order.leaves ≡ 0) ⊎ (total ≡ 0) → m ≡ prorata least price m
  none-done instruments total rest is none = elim none [ inl wanted ↦ none-wanted wanted | inr shown ↦ nothing-shown instruments rest (sym is ∙ shown) ]
