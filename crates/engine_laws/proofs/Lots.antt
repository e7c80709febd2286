-- What a step trades: shares that can be traded, one after the other, together no more than what is wanted, and than what the
-- level shows.
use Rattle.std.proofs.Common.{◌≡◌, ◌≢◌, ℕ, ◌+◌, ◌-◌, ◌*◌, ◌/◌, ◌≤◌, min, Bool, true, false, cond, not, List, [], ◌∷◌, ◌++◌, map, filter, refl, sym, ap, subst, ◌∙◌, arith, inl, inr, Option, Some, None}
use Prim.Native.Nat.{zero, suc}
use Rattle.std.specs.Prelude.{◌==◌}
use Rattle.std.specs.List.{AllByRecursion, IsDistinct}
use Rattle.std.proofs.lemmas.Bool.{true≢false}
use Rattle.std.proofs.lemmas.Bool.Decides.{eqb_tells}
use Rattle.std.proofs.lemmas.List.Sums.{sum_by-cons}
use Rattle.gx_base.specs.declared.order.LmmShare.{LmmShare}
use Rattle.gx_base.specs.declared.order.Order.{Order}
use Rattle.gx_base.specs.declared.price.Price.{Price}
use Rattle.gx_base.specs.declared.event.StepName.{StepName}
use Rattle.gx_base.specs.declared.event.StepName.TheVariants as name
use Rattle.step_config.specs.declared.step.Step.{Step}
use Rattle.step_config.specs.declared.step.Step.TheVariants.{Top, Lmm, Split, ProRata, Leveling, Fifo}
use Rattle.step_config.specs.Rules.{name_of}
use Rattle.step_config.specs.RightSteps.{IsRightStep}
use Rattle.plain_book.specs.declared.entry.Entry.{Entry}
use Rattle.plain_book.specs.Orders.{Level, level_of, is_level, HasSlot, order_of, orders_at, is_slot, is_at, opposite, top_of}
use Rattle.plain_book.specs.Book.{AllDiffer}
use Rattle.plain_book.specs.Match.{MatchState, Share, trade, share_noted, trade_share, trade_shares}
use Rattle.plain_book.specs.Steps.{facing, level_now, spent, top_shares, lmm_shares, prorata_share, prorata_shares, ones, trade_head, fifo_rounds}
use Rattle.plain_book.proofs.Levels.{HasSlot-filter, AllDiffer-filter, order_of-filter, is_level-same, is_level-refl, same}
use Rattle.plain_book.proofs.Live.{orders-at}
use Rattle.plain_book.proofs.Pairs.{all-filter, all-with, all-both, all-passing}
use Rattle.plain_book.proofs.Tops.{at-slot}
use Rattle.plain_book.proofs.TradedShares.{share-leaves, shares-append}
use Rattle.level_sweep.specs.Sweep.{after_step}
use Rattle.level_sweep.proofs.EachTrade.{each-share}
use Rattle.level_sweep.proofs.Showing.{IsShowing, AreShowing, ShowingStays, showing-kept}
use Rattle.engine_laws.proofs.SweptBooks.{showing-head}
use Rattle.level_sweep.proofs.StepShares.{AreApart, IsGiven, AreOf, AllShow, spent-of, top-of, firm_of, is_of_firm, is_other, lmm-others, distinct-first, distinct-more, lmm-of, share-shown, prorata-of, leveling-of, is_left_out}
use Rattle.engine_laws.proofs.ShareLots.{lots-cons, spent-wanted, split-part, top_share, top-wanted, lots-append, lmm-fits, prorata-wanted, ones-wanted}
use Rattle.engine_laws.specs.MatchLaws.{lots_shared, shown_by, AreFit, TradesFitShares}
use Rattle.engine_laws.proofs.SlotHolds.{HoldsOf, HoldsAt, holds-order, holds-share}

shown-cons : (e : Entry) (es : List Entry) → shown_by (e ∷ es) ≡ e.order.shown + shown_by es
shown-cons e es = sum_by-cons (λ (x : Entry). x.order.shown) e es

-- what some of the orders show
part-shown : (p : Entry → Bool) (es : List Entry) → shown_by (filter p es) ≤ shown_by es
part-shown p [] = omega arith
part-shown p (e ∷ es) =
    let F = filter p es in
    let h = part-shown p es in
    let c = shown-cons e es in
    let go : (b : Bool) → shown_by (cond b (e ∷ F) F) ≤ shown_by (e ∷ es) = elim [
      | true ↦ omega (arith, shown-cons e F, c, h)
      | false ↦ omega (arith, c, h)
    ] in go (p e)

-- what some of the orders show, and what the others do
halves-shown : (p : Entry → Bool) (es : List Entry) → shown_by (filter p es) + shown_by (filter (λ e. not (p e)) es) ≡ shown_by es
halves-shown p [] = refl
halves-shown p (e ∷ es) =
    let F = filter p es in
    let G = filter (λ x. not (p x)) es in
    let h = halves-shown p es in
    let c = shown-cons e es in
    let go : (b : Bool) → shown_by (cond b (e ∷ F) F) + shown_by (cond (not b) (e ∷ G) G) ≡ shown_by (e ∷ es) = elim [
      | true ↦ omega (arith, shown-cons e F, c, h)
      | false ↦ omega (arith, shown-cons e G, c, h)
    ] in go (p e)

-- ---- one share for each order

lots-shown : (f : Entry → ℕ) → ((e : Entry) → f e ≤ e.order.shown) → (es : List Entry) → lots_shared (map (λ (e : Entry). (e.slot, f e)) es) ≤ shown_by es
lots-shown f h [] = omega arith
lots-shown f h (e ∷ es) = omega (arith, lots-cons (e.slot, f e) (map (λ (x : Entry). (x.slot, f x)) es), shown-cons e es, h e, lots-shown f h es)

-- ---- lots that are spent

spent-shown : (n : ℕ) (es : List Entry) → lots_shared (spent n es) ≤ shown_by es
spent-shown n [] = omega arith
spent-shown n (e ∷ es) =
    let g = min n e.order.shown in
    omega (arith, lots-cons (e.slot, g) (spent (n - g) es), shown-cons e es, spent-shown (n - g) es)

-- ---- the TOP order

top-shown : (most : ℕ) (top : Option ℕ) (q : ℕ) (es : List Entry) → lots_shared (top_shares most top q es) ≤ shown_by es
top-shown most None q es = omega arith
top-shown most (Some s) q es = omega (arith, lots-shown (top_share most q) (λ e. omega arith) (filter (is_slot s) es), part-shown (is_slot s) es)

-- ---- the lead market makers

abbrev orders_of : ℕ → List Entry → List Entry
orders_of firm es = filter (is_of_firm firm) es

lmm-shown : (fs : List LmmShare) (q : ℕ) (es : List Entry) → IsDistinct (λ a b. a == b) (map firm_of fs) → lots_shared (lmm_shares fs q es) ≤ shown_by es
lmm-shown [] q es d = omega arith
lmm-shown (f ∷ fs) q es d =
    let n = q * f.percent / 100 in
    let rest = filter (is_other f.firm) es in
    let same : lots_shared (lmm_shares fs q rest) ≡ lots_shared (lmm_shares fs q es) = ap lots_shared (lmm-others f.firm fs q es (distinct-first f fs d)) in
    omega (arith, lots-append (spent n (orders_of f.firm es)) (lmm_shares fs q es), spent-shown n (orders_of f.firm es), same, lmm-shown fs q rest (distinct-more f fs d), halves-shown (is_of_firm f.firm) es)

-- ---- in proportion

prorata-shown : (least q : ℕ) (es : List Entry) → lots_shared (prorata_shares least q es) ≤ shown_by es
prorata-shown least q es =
    let total = shown_by es in
    lots-shown (λ (e : Entry). prorata_share least (min q total) total e.order.shown) (λ e. share-shown least (min q total) total e.order.shown (omega arith)) es

-- ---- one lot each

ones-shown : (q : ℕ) (es : List Entry) → AllShow es → lots_shared (ones q es) ≤ shown_by es
ones-shown q [] h = omega arith
ones-shown q (e ∷ es) h = omega (arith, lots-cons (e.slot, min q 1) (ones (q - 1) es), shown-cons e es, h.0, ones-shown (q - 1) es h.1)

-- ---- shares that are traded

-- the order of a slot is at a level, and shows so many lots
abbrev Gives : Level → ℕ → Order → Type 0
Gives k n o = (level_of o ≡ k) × (n ≤ o.shown)

given-holds : (k : Level) (x : Share) (es : List Entry) → AllDiffer es → IsGiven (orders_at k es) x → HoldsAt (Gives k x.1) x.0 es
given-holds k x es d given =
    let at = all-passing (λ (e : Entry). level_of e.order ≡ k) (is_at k) (λ e here. is_level-same (level_of e.order) k here) es in
    let here : Gives k x.1 (order_of x.0 (orders_at k es)) = (orders-at (λ (o : Order). level_of o ≡ k) x.0 (orders_at k es) at given.0, given.1) in
    record {
      has = HasSlot-filter (is_at k) x.0 es given.0;
      each = at-slot (Gives k x.1) x.0 es d (subst (Gives k x.1) (order_of-filter (is_at k) x.0 es d given.0) here);
    }

has-level : (k : Level) (n t : ℕ) (es : List Entry) → HasSlot t es → AllByRecursion (HoldsOf (Gives k n) t) es → HasSlot t (orders_at k es)
has-level k n t [] h a = absurd h
has-level k n t (e ∷ es) h a =
    let F = orders_at k es in
    let here : e.slot ≡ t → is_at k e ≡ true = λ is. ap (λ (l : Level). is_level l k) (a.0 is).0 ∙ is_level-refl k in
    let go : (c : Bool) → is_at k e ≡ c → HasSlot t (cond c (e ∷ F) F) = elim [
      | true ↦ λ on. elim h [ inl is ↦ inl is | inr more ↦ inr (has-level k n t es more a.1) ]
      | false ↦ λ off. elim h [ inl is ↦ absurd (true≢false (sym (here is) ∙ off)) | inr more ↦ has-level k n t es more a.1 ]
    ] in go (is_at k e) refl

holds-given : (k : Level) (x : Share) (es : List Entry) → AllDiffer es → HoldsAt (Gives k x.1) x.0 es → IsGiven (orders_at k es) x
holds-given k x es d h =
    let has = has-level k x.1 x.0 es h.has h.each in
    let gives : Gives k x.1 (order_of x.0 es) = holds-order (Gives k x.1) x.0 es h.has h.each in
    (has, subst (λ (o : Order). x.1 ≤ o.shown) (sym (order_of-filter (is_at k) x.0 es d has)) gives.1)

-- the incoming order meets the same level
faces-still : (step : StepName) (s n : ℕ) (price : Price) (m : MatchState) → facing price (trade_share step s n m).taker ≡ facing price m.taker
faces-still step s n price m =
    let k = share_noted step s n m in
    let go : (c : Bool) → facing price (cond c k (trade step s n k)).taker ≡ facing price m.taker = elim [ true ↦ refl | false ↦ refl ] in
    go (n == 0)

-- another share can be traded still
given-still : (step : StepName) (price : Price) (x y : Share) (m : MatchState) → AreShowing m.book.resting → y.0 ≢ x.0 → IsGiven (level_now price m) y → IsGiven (level_now price (trade_share step x.0 x.1 m)) y
given-still step price x y m a other given =
    let k = facing price m.taker in
    let after = trade_share step x.0 x.1 m in
    let now : AreShowing after.book.resting = each-share ShowingStays showing-kept step x.0 x.1 m a in
    let holds = holds-share (Gives k y.1) (λ o n h. h) step y.0 x.0 x.1 m other (given-holds k y m.book.resting a.in_order.differ given) in
    subst (λ (l : Level). IsGiven (orders_at l after.book.resting) y) (sym (faces-still step x.0 x.1 price m)) (holds-given k y after.book.resting now.in_order.differ holds)

shares-fit : (step : StepName) (price : Price) (xs : List Share) (m : MatchState) → AreShowing m.book.resting → AreApart xs → AllByRecursion (IsGiven (level_now price m)) xs → lots_shared xs ≤ m.taker.order.leaves
    → AreFit step price xs m
shares-fit step price [] m a apart given few = tt
shares-fit step price (x ∷ xs) m a apart given few =
    let after = trade_share step x.0 x.1 m in
    let Other = λ (y : Share). y.0 ≢ x.0 in
    let Before = IsGiven (level_now price m) in
    let left = all-with (λ y. Other y × Before y) (IsGiven (level_now price after)) (λ y h. given-still step price x y m a h.0 h.1) xs (all-both Other Before xs apart.0 given.1) in (
      record { rests = given.0.0; shown = given.0.1; wanted = omega (arith, lots-cons x xs, few) },
      shares-fit step price xs after (each-share ShowingStays showing-kept step x.0 x.1 m a) apart.1 left (omega (arith, lots-cons x xs, share-leaves step x.0 x.1 m, few)),
    )

-- ---- the rounds of FIFO

-- the share of the head of a queue
abbrev head_shares : List Entry → MatchState → List Share
head_shares [] m = []
head_shares (e ∷ es) m = (e.slot, min m.taker.order.leaves e.order.shown) ∷ []

abbrev fifo_shares : ℕ → Price → MatchState → List Share
fifo_shares zero price m = []
fifo_shares (suc n) price m = head_shares (level_now price m) m ++ fifo_shares n price (trade_head (level_now price m) m)

head-traded : (es : List Entry) (m : MatchState) → trade_head es m ≡ trade_shares name.Fifo (head_shares es m) m
head-traded [] m = refl
head-traded (e ∷ es) m = refl

fifo-traded : (n : ℕ) (price : Price) (m : MatchState) → fifo_rounds n price m ≡ trade_shares name.Fifo (fifo_shares n price m) m
fifo-traded zero price m = refl
fifo-traded (suc n) price m =
    let es = level_now price m in
    let after = trade_head es m in
    let more = fifo_shares n price after in
    fifo-traded n price after
    ∙ ap (trade_shares name.Fifo more) (head-traded es m)
    ∙ sym (shares-append name.Fifo (head_shares es m) more m)

fit-append : (step : StepName) (price : Price) (xs ys : List Share) (m : MatchState) → AreFit step price xs m → AreFit step price ys (trade_shares step xs m) → AreFit step price (xs ++ ys) m
fit-append step price [] ys m h k = k
fit-append step price (x ∷ xs) ys m h k = (h.0, fit-append step price xs ys (trade_share step x.0 x.1 m) h.1 k)

head-fit : (price : Price) (m : MatchState) (es : List Entry) → level_now price m ≡ es → AreFit name.Fifo price (head_shares es m) m
head-fit price m [] is = tt
head-fit price m (e ∷ es) is =
    let n = min m.taker.order.leaves e.order.shown in
    let most : n ≤ e.order.shown = omega arith in
    let given : IsGiven (e ∷ es) (e.slot, n) = (inl refl, subst (λ (b : Bool). n ≤ (cond b e.order (order_of e.slot es)).shown) (sym (same e.slot)) most) in
    let now : IsGiven (level_now price m) (e.slot, n) = subst (λ (l : List Entry). IsGiven l (e.slot, n)) (sym is) given in
    (record { rests = now.0; shown = now.1; wanted = omega arith }, tt)

fifo-fit : (n : ℕ) (price : Price) (m : MatchState) → AreShowing m.book.resting → AreFit name.Fifo price (fifo_shares n price m) m
fifo-fit zero price m a = tt
fifo-fit (suc n) price m a =
    let es = level_now price m in
    let after = trade_head es m in
    let more = fifo_shares n price after in
    fit-append name.Fifo price (head_shares es m) more m (head-fit price m es refl)
    (subst (AreFit name.Fifo price more) (head-traded es m) (fifo-fit n price after (showing-head es m a)))

-- shares that are fit are together no more than what is wanted
fit-wanted : (step : StepName) (price : Price) (xs : List Share) (m : MatchState) → AreFit step price xs m → lots_shared xs ≤ m.taker.order.leaves
fit-wanted step price [] m h = omega arith
fit-wanted step price (x ∷ xs) m h =
    omega (arith, lots-cons x xs, h.0.wanted, share-leaves step x.0 x.1 m, fit-wanted step price xs (trade_share step x.0 x.1 m) h.1)

-- ---- every step

module _ (price : Price) (m : MatchState) (a : AreShowing m.book.resting) where
  abbrev here : List Entry
  here = level_now price m

  abbrev q : ℕ
  q = m.taker.order.leaves

  differ : AllDiffer here
  differ = AllDiffer-filter (is_at (facing price m.taker)) m.book.resting a.in_order.differ

  show : AllShow here
  show = all-filter (λ (e : Entry). 1 ≤ e.order.shown) (is_at (facing price m.taker)) m.book.resting (all-with (λ (e : Entry). IsShowing e.order) (λ (e : Entry). 1 ≤ e.order.shown) (λ e k. k.0) m.book.resting a.each)

  -- the shares of a step go to different orders of the level
  once : (step : Step) (xs : List Share) → after_step step price m ≡ trade_shares (name_of step) xs m → AreOf here xs → lots_shared xs ≤ q → lots_shared xs ≤ shown_by here → TradesFitShares step price m
  once step xs is of few shown = record {
    shares = xs;
    traded = is;
    fit = shares-fit (name_of step) price xs m a of.apart of.within few;
    wanted = few;
    shown = λ other. shown;
  }

  pub trades-fit : (step : Step) → IsRightStep step → TradesFitShares step price m
  trades-fit (Top rule) h =
      let top = top_of m.taker.order.instrument (opposite m.taker.order.side) m.book.resting in
      once (Top rule) (top_shares rule.max top q here) refl (top-of rule.max top q here differ) (top-wanted rule.max top q here differ) (top-shown rule.max top q here)
  trades-fit (Lmm shares) h =
      once (Lmm shares) (lmm_shares shares.items q here) refl (lmm-of shares.items q here h.firms_differ differ) (lmm-fits shares.items q here h)
      (lmm-shown shares.items q here h.firms_differ)
  trades-fit (Split percent) h =
      let part = q * percent / 100 in
      once (Split percent) (spent part here) refl (spent-of part here differ) (omega (arith, spent-wanted part here, split-part q percent h.at_most)) (spent-shown part here)
  trades-fit (ProRata least) h =
      let xs = prorata_shares least q here in
      let is = λ (c : Bool). cond c m (trade_shares name.ProRata xs m) in
      elim (eqb_tells q 0) [
        | inl t ↦ once (ProRata least) [] (ap is t.0) (record { within = tt; apart = tt }) (omega arith) (omega arith)
        | inr t ↦ once (ProRata least) xs (ap is t.0) (prorata-of least q here differ) (prorata-wanted least q here) (prorata-shown least q here)
      ]
  trades-fit Leveling h =
      let left = filter is_left_out here in
      let shown : lots_shared (ones q left) ≤ shown_by here =
      omega (arith, ones-shown q left (all-filter (λ (e : Entry). 1 ≤ e.order.shown) is_left_out here show), part-shown is_left_out here) in
      once Leveling (ones q left) refl (leveling-of q here show differ) (ones-wanted q left) shown
  trades-fit Fifo h =
      let xs = fifo_shares q price m in
      let fit = fifo-fit q price m a in
      record {
        shares = xs;
        traded = fifo-traded q price m;
        fit = fit;
        wanted = fit-wanted name.Fifo price xs m fit;
        shown = λ other. absurd (true≢false other);
      }
