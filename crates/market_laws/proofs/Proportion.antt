-- Shares in proportion, and steps that look at no firm.
use Rattle.std.proofs.Common.{◌≡◌, ℕ, ◌+◌, ◌-◌, ◌*◌, ◌/◌, ◌<◌, ◌≤◌, min, Bool, true, false, cond, List, [], ◌∷◌, map, filter, Option, Some, None, refl, ap, ◌∙◌, arith, sum_by}
use Rattle.std.specs.Prelude.{nat_lt, ◌==◌}
use Rattle.std.proofs.Math.Nat.{div-mul-le_self, lt-div-mul-add, le-div_iff_mul-le, div-lt_iff_lt-mul, mul-le-mul_left}
use Rattle.std.proofs.lemmas.Bool.Decides.{nat_tests}
use Rattle.std.proofs.lemmas.List.Sums.{sum_by-cons}
use Rattle.step_config.specs.declared.step.Step.{Step}
use Rattle.step_config.specs.declared.step.Step.TheVariants.{Top, Lmm, Split, ProRata, Leveling, Fifo}
use Rattle.plain_book.specs.declared.entry.Entry.{Entry}
use Rattle.plain_book.specs.Orders.{Level, is_at, is_slot, orders_at}
use Rattle.plain_book.specs.Match.{Share}
use Rattle.plain_book.specs.Steps.{spent, split_shares, lmm_shares, prorata_share, top_shares, ones}
use Rattle.gx_base.specs.declared.order.LmmShare.{LmmShare}
use Rattle.std.specs.List.{AllByRecursion}
use Rattle.engine_laws.proofs.ShareLots.{spent-wanted, lots-append}
use Rattle.engine_laws.specs.MatchLaws.{lots_shared}
use Rattle.market_laws.specs.Shares.{IsInProportion, shares_of, of_firm, of_firms, IsBlind, hiding}

-- ---- firms

module _ (firm : Entry → ℕ) where
  pub filter-firms : (p : Entry → Bool) → ((e : Entry) → p (of_firm firm e) ≡ p e) → (es : List Entry) → filter p (of_firms firm es) ≡ of_firms firm (filter p es)
  filter-firms p h [] = refl
  filter-firms p h (e ∷ es) =
      let F = filter p (of_firms firm es) in
      let go : (b : Bool) → cond b (of_firm firm e ∷ F) F ≡ of_firms firm (cond b (e ∷ filter p es) (filter p es)) = elim [
        | true ↦ ap (λ (l : List Entry). of_firm firm e ∷ l) (filter-firms p h es)
        | false ↦ filter-firms p h es
      ] in ap (λ (b : Bool). cond b (of_firm firm e ∷ F) F) (h e) ∙ go (p e)

  spent-firms : (lots : ℕ) (es : List Entry) → spent lots (of_firms firm es) ≡ spent lots es
  spent-firms lots [] = refl
  spent-firms lots (e ∷ es) = let n = min lots e.order.shown in ap (λ (xs : List Share). (e.slot, n) ∷ xs) (spent-firms (lots - n) es)

  ones-firms : (q : ℕ) (es : List Entry) → ones q (of_firms firm es) ≡ ones q es
  ones-firms q [] = refl
  ones-firms q (e ∷ es) = ap (λ (xs : List Share). (e.slot, min q 1) ∷ xs) (ones-firms (q - 1) es)

  map-firms : (f : ℕ → ℕ) (es : List Entry) → map {B = Share} (λ (e : Entry). (e.slot, f e.order.shown)) (of_firms firm es) ≡ map {B = Share} (λ (e : Entry). (e.slot, f e.order.shown)) es
  map-firms f [] = refl
  map-firms f (e ∷ es) = ap (λ (xs : List Share). (e.slot, f e.order.shown) ∷ xs) (map-firms f es)

  shown-firms : (es : List Entry) → sum_by (λ (e : Entry). e.order.shown) (of_firms firm es) ≡ sum_by (λ (e : Entry). e.order.shown) es
  shown-firms [] = refl
  shown-firms (e ∷ es) =
      let shown = λ (x : Entry). x.order.shown in
      omega (arith, sum_by-cons shown (of_firm firm e) (of_firms firm es), sum_by-cons shown e es, shown-firms es)

  -- the shares of a step that looks at no firm
  pub blind-shares : (step : Step) → IsBlind step → (top : Option ℕ) (q : ℕ) (es : List Entry) → shares_of step top q (of_firms firm es) ≡ shares_of step top q es
  blind-shares (Top rule) blind None q es = refl
  blind-shares (Top rule) blind (Some s) q es =
      let share : Entry → Share = λ e. (e.slot, min q (min e.order.shown rule.max)) in
      ap (map share) (filter-firms (is_slot s) (λ e. refl) es) ∙ map-firms (λ shown. min q (min shown rule.max)) (filter (is_slot s) es)
  blind-shares (Lmm shares) blind top q es = absurd blind
  blind-shares (Split percent) blind top q es = spent-firms (q * percent / 100) es
  blind-shares (ProRata least) blind top q es =
      ap (λ (total : ℕ). map {B = Share} (λ (e : Entry). (e.slot, prorata_share least (min q total) total e.order.shown)) (of_firms firm es)) (shown-firms es)
      ∙ (let total = sum_by (λ (e : Entry). e.order.shown) es in map-firms (prorata_share least (min q total) total) es)
  blind-shares Leveling blind top q es =
      let left_out = λ (e : Entry). e.order.prorated == 0 in
      ap (ones q) (filter-firms left_out (λ e. refl) es) ∙ ones-firms q (filter left_out es)
  blind-shares Fifo blind top q [] = refl
  blind-shares Fifo blind top q (e ∷ es) = refl

-- ---- hidden lots

pub hidden-level : (more : Entry → ℕ) (k : Level) (es : List Entry) → sum_by (λ (e : Entry). e.order.shown) (orders_at k (map (hiding more) es)) ≡ sum_by (λ (e : Entry). e.order.shown) (orders_at k es)
hidden-level more k [] = refl
hidden-level more k (e ∷ es) =
    let shown = λ (x : Entry). x.order.shown in
    let F = orders_at k (map (hiding more) es) in
    let G = orders_at k es in
    let go : (b : Bool) → sum_by shown (cond b (hiding more e ∷ F) F) ≡ sum_by shown (cond b (e ∷ G) G) = elim [
      | true ↦ omega (arith, sum_by-cons shown (hiding more e) F, sum_by-cons shown e G, hidden-level more k es)
      | false ↦ hidden-level more k es
    ] in go (is_at k e)

-- ---- in proportion

part-least : (least part : ℕ) → least ≤ part → cond (nat_lt part least) 0 part ≡ part
part-least least part h = grind (arith, nat_tests)

part-none : (least part : ℕ) → part < least → cond (nat_lt part least) 0 part ≡ 0
part-none least part h = grind (arith, nat_tests)

part-most : (least part : ℕ) → cond (nat_lt part least) 0 part ≤ part
part-most least part = let go : (b : Bool) → cond b 0 part ≤ part = elim [ true ↦ omega arith | false ↦ omega arith ] in go (nat_lt part least)

part-more : (least a b : ℕ) → a ≤ b → cond (nat_lt a least) 0 a ≤ cond (nat_lt b least) 0 b
part-more least a b h = grind (arith, nat_tests)

pub in-proportion : (least pool total : ℕ) → 0 < total → IsInProportion least pool total
in-proportion least pool total some = record {
  at_most = λ shown.
      let part = pool * shown / total in
      let n = prorata_share least pool total shown in
      let le : n ≤ part = part-most least part in
      let a : total * n ≤ total * part = mul-le-mul_left total le in
      omega (arith, a, div-mul-le_self (pool * shown) total);
  within_a_lot = λ shown h.
      let part = pool * shown / total in
      let reached : least ≤ part = (le-div_iff_mul-le some).1 h in
      let is : prorata_share least pool total shown ≡ part = part-least least part reached in
      let under : pool * shown < part * total + total = lt-div-mul-add some in
      let same : (prorata_share least pool total shown + 1) * total ≡ part * total + total = ap (λ (n : ℕ). (n + 1) * total) is ∙ omega arith in
      omega (arith, under, same);
  nothing_below = λ shown h.
      let part = pool * shown / total in
      part-none least part ((div-lt_iff_lt-mul some).1 h);
  larger_gets_more = λ a b h.
      let more : pool * a ≤ pool * b = mul-le-mul_left pool h in
      let parts : pool * a / total ≤ pool * b / total = (le-div_iff_mul-le some).1 (omega (arith, div-mul-le_self (pool * a) total, more)) in
      part-more least (pool * a / total) (pool * b / total) parts;
}

-- ---- percents

part-percent : (q percent : ℕ) (n : ℕ) → n ≤ q * percent / 100 → n * 100 ≤ q * percent
part-percent q percent n h = omega (arith, h, div-mul-le_self (q * percent) 100)

pub split-percent : (percent q : ℕ) (es : List Entry) → lots_shared (split_shares percent q es) * 100 ≤ q * percent
split-percent percent q es = part-percent q percent (lots_shared (split_shares percent q es)) (spent-wanted (q * percent / 100) es)

pub maker-percent : (maker : LmmShare) (q : ℕ) (es : List Entry) → lots_shared (lmm_shares (maker ∷ []) q es) * 100 ≤ q * maker.percent
maker-percent maker q es =
    let own = spent (q * maker.percent / 100) (filter (λ (e : Entry). e.order.firm == maker.firm) es) in
    part-percent q maker.percent (lots_shared (lmm_shares (maker ∷ []) q es)) (omega (arith, lots-append own [], spent-wanted (q * maker.percent / 100) (filter (λ (e : Entry). e.order.firm == maker.firm) es)))

most-shares : (most q : ℕ) (es : List Entry) → AllByRecursion (λ (share : Share). share.1 ≤ most) (map {B = Share} (λ (e : Entry). (e.slot, min q (min e.order.shown most))) es)
most-shares most q [] = tt
most-shares most q (e ∷ es) = (omega arith, most-shares most q es)

pub top-most : (most : ℕ) (top : Option ℕ) (q : ℕ) (es : List Entry) → AllByRecursion (λ (share : Share). share.1 ≤ most) (top_shares most top q es)
top-most most None q es = tt
top-most most (Some s) q es = most-shares most q (filter (is_slot s) es)
