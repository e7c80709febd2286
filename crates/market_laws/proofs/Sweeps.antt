-- A sweep is trades and notes of shares, and each trade is fair.
use Rattle.std.proofs.Common.{◌≡◌, ◌≢◌, ℕ, ◌*◌, ◌/◌, ◌≤◌, min, Bool, true, false, cond, List, [], ◌∷◌, filter, Option, Some, None, refl, sym, ap, subst, ◌∙◌, arith, inl, inr}
use Prim.Native.Nat.{zero, suc}
use Rattle.std.specs.Prelude.{◌==◌}
use Rattle.std.specs.List.{AllByRecursion}
use Rattle.std.proofs.lemmas.Bool.Decides.{eqb_tells}
use Rattle.gx_base.specs.declared.price.Price.{Price}
use Rattle.gx_base.specs.declared.order.Side.{Side}
use Rattle.gx_base.specs.declared.order.Kind.TheVariants.{StopLimit}
use Rattle.gx_base.specs.declared.order.Order.{Order}
use Rattle.gx_base.specs.declared.event.StepName.{StepName}
use Rattle.gx_base.specs.declared.event.StepName.TheVariants as name
use Rattle.step_config.specs.declared.step.Step.{Step}
use Rattle.step_config.specs.declared.step.Step.TheVariants.{Top, Lmm, Split, ProRata, Leveling, Fifo}
use Rattle.step_config.specs.RightSteps.{IsRightStep}
use Rattle.plain_book.specs.declared.entry.Entry.{Entry}
use Rattle.plain_book.specs.Orders.{Level, level_of, is_within, opposite, is_at, top_of, best_of, slot_of, orders_at, HasSlot, order_of}
use Rattle.plain_book.specs.Book.{AllDiffer, IsRight, IsResting}
use Rattle.plain_book.specs.Match.{MatchState, Share, trade, is_prorata, book_share_noted, share_noted, trade_share, trade_shares}
use Rattle.plain_book.specs.Steps.{facing, level_now, trade_head, fifo_rounds, prorata_shares, top_shares, lmm_shares, split_shares, leveling_shares}
use Rattle.plain_book.proofs.Levels.{HasSlot-filter, AllDiffer-filter, AllDiffer-front, order_of-filter, is_level-same, same}
use Rattle.plain_book.proofs.Pairs.{all-with, all-both, all-filter, all-passing}
use Rattle.plain_book.proofs.Live.{orders-at, fit_of}
use Rattle.plain_book.proofs.Tops.{at-slot, best-is-best}
use Rattle.plain_book.proofs.TradedShares.{share-leaves}
use Rattle.level_sweep.specs.Sweep.{after_step, wanted_step, level_match, within_limit, facing_best, next_price, match_next, sweep_rounds, sweep}
use Rattle.level_sweep.proofs.EachOrder.{StaysTrue, all-kept}
use Rattle.level_sweep.proofs.StepShares.{AreApart, IsGiven, AreOf, AllShow, spent-of, top-of, lmm-of, prorata-of, leveling-of}
use Rattle.engine_laws.proofs.ShareLots.{lots_of, lots-cons, spent-wanted, split-part, top-wanted, lmm-fits, prorata-wanted, ones-wanted}
use Rattle.engine_laws.proofs.SlotHolds.{HoldsAt, holds-order, holds-marked, holds-share}
use Rattle.engine_laws.proofs.KeptByTrades.{IsKeptByTrades}
use Rattle.market_laws.specs.Acts.{Act}
use Rattle.market_laws.specs.Acts.Act.{trades, notes}
use Rattle.market_laws.specs.Trades.{IsNoBetter, IsFair}
use Rattle.market_laws.proofs.Chains.{Leads, leads-none, leads-by, leads-then}

-- no trade and no mark gives an order a better price
no-better : (k : Level) → StaysTrue (IsNoBetter k)
no-better k = record { fills = λ n e x p q is some. p; refreshes = λ n e p some none. p; marks = λ n e x p q is. p }

-- What holds while an order is matched, a law of acts, and that it holds of each fair trade and of each mark
pub record SweepLaw (I : MatchState → Type 0) (Law : Act → MatchState → Type 0) : Type 0 where
  pub kept : IsKeptByTrades I
  pub right : (m : MatchState) → I m → IsRight m.book
  pub other : (s : ℕ) (m : MatchState) → HasSlot s m.book.resting → I m → (order_of s m.book.resting).number ≢ m.taker.order.number
  pub no_stop : (m : MatchState) → I m → m.taker.order.kind ≢ StopLimit
  pub fair : (step : StepName) (s n : ℕ) (m : MatchState) → I m → IsFair (record { before = m; step = step; slot = s; lots = n }) → Law (trades step s n) m
  pub noted : (s n : ℕ) (m : MatchState) → HasSlot s m.book.resting → (order_of s m.book.resting).instrument ≡ m.taker.order.instrument → I m → Law (notes s n) m

module _ (I : MatchState → Type 0) (Law : Act → MatchState → Type 0) (law : SweepLaw I Law) (instrument : ℕ) (side : Side) (limit : Price) where
  -- an order of this instrument and limit is matched, with orders of this side
  record IsMatched (m : MatchState) : Type 0 where
    holds : I m
    instrument_is : m.taker.order.instrument ≡ instrument
    side_is : opposite m.taker.order.side ≡ side
    limit_is : m.taker.order.price ≡ limit

  -- some fair trades and marks lead to a state that is still such
  record Walks (m end : MatchState) : Type 0 where
    leads : Leads Law m end
    matched : IsMatched end

  stays : (m : MatchState) → IsMatched m → Walks m m
  stays m h = record { leads = leads-none Law m; matched = h }

  then : (a b c : MatchState) → Walks a b → Walks b c → Walks a c
  then a b c h k = record { leads = leads-then Law a b c h.leads k.leads; matched = k.matched }

  differ : (m : MatchState) → IsMatched m → AllDiffer m.book.resting
  differ m h = AllDiffer-front m.book.resting m.book.waiting (law.right m h.holds).differ

  -- ---- a level, which the limit allows

  module _ (price : Price) (within : is_within side limit.0 price.0 ≡ true) where
    abbrev here : Level
    here = record { instrument = instrument; side = side; price = price.0 }

    -- no order is better
    record IsAt (m : MatchState) : Type 0 where
      is : IsMatched m
      best : AllByRecursion (IsNoBetter here) m.book.resting

    record WalksAt (m end : MatchState) : Type 0 where
      leads : Leads Law m end
      at : IsAt end

    stays-at : (m : MatchState) → IsAt m → WalksAt m m
    stays-at m h = record { leads = leads-none Law m; at = h }

    then-at : (a b c : MatchState) → WalksAt a b → WalksAt b c → WalksAt a c
    then-at a b c h k = record { leads = leads-then Law a b c h.leads k.leads; at = k.at }

    faces : (m : MatchState) → IsMatched m → facing price m.taker ≡ here
    faces m h =
        ap (λ (i : ℕ). let k : Level = record { instrument = i; side = opposite m.taker.order.side; price = price.0 } in k) h.instrument_is
        ∙ ap (λ (s : Side). let k : Level = record { instrument = instrument; side = s; price = price.0 } in k) h.side_is

    -- an order of the level that shows so many lots
    abbrev Gives : ℕ → Order → Type 0
    Gives n o = (n ≤ o.shown) × (level_of o ≡ here)

    abbrev CanGive : List Entry → Share → Type 0
    CanGive es x = HoldsAt (Gives x.1) x.0 es

    gives-mark : (n : ℕ) (o : Order) (k : ℕ) → Gives n o → Gives n (record o { prorated = k })
    gives-mark n o k h = h

    fair-trade : (step : StepName) (s n : ℕ) (m : MatchState) → HasSlot s m.book.resting → Gives n (order_of s m.book.resting) → 1 ≤ n → n ≤ m.taker.order.leaves
        → (step ≡ name.Fifo → slot_of (orders_at here m.book.resting) ≡ Some s) → IsAt m → IsFair (record { before = m; step = step; slot = s; lots = n })
    fair-trade step s n m has gives some wanted first h =
        let o = order_of s m.book.resting in
        let at : level_of o ≡ here = gives.1 in
        let side_at : o.side ≡ side = ap (λ (k : Level). k.side) at in
        record {
          fit = record {
            rests = has;
            other = law.other s m has h.is.holds;
            instrument = ap (λ (k : Level). k.instrument) at ∙ sym h.is.instrument_is;
            side = side_at ∙ sym h.is.side_is;
            some = some;
            shown = gives.0;
            wanted = wanted;
          };
          kinds = record { resting = (fit_of m.book.instruments s m.book.resting (law.right m h.is.holds).rest has).fit.kind; incoming = law.no_stop m h.is.holds };
          limit =
              ap (λ (d : Side). is_within d m.taker.order.price.0 o.price.0) h.is.side_is
              ∙ ap (λ (p : Price). is_within side p.0 o.price.0) h.is.limit_is
              ∙ ap (λ (k : Level). is_within side limit.0 k.price) at ∙ within;
          best = subst (λ (k : Level). AllByRecursion (IsNoBetter k) m.book.resting) (sym at) h.best;
          first = λ fifo. subst (λ (k : Level). slot_of (orders_at k m.book.resting) ≡ Some s) (sym at) (first fifo);
        }

    -- ---- one share

    walk-mark : (step : StepName) (s n : ℕ) (m : MatchState) → HoldsAt (Gives n) s m.book.resting → IsAt m → WalksAt m (share_noted step s n m)
    walk-mark step s n m gives h =
        let fits : Gives n (order_of s m.book.resting) = holds-order (Gives n) s m.book.resting gives.has gives.each in
        let go : (c : Bool) → WalksAt m (record m { book = cond c (book_share_noted s n m.book) m.book }) = elim [
          | true ↦ record {
            leads = leads-by Law (notes s n) m (law.noted s n m gives.has (ap (λ (k : Level). k.instrument) fits.1 ∙ sym h.is.instrument_is) h.is.holds);
            at = record {
              is = record { holds = law.kept.marks s n m gives.has fits.0 h.is.holds; instrument_is = h.is.instrument_is; side_is = h.is.side_is; limit_is = h.is.limit_is };
              best = (all-kept (IsNoBetter here) (no-better here)).marks s n m h.best;
            };
          }
          | false ↦ stays-at m h
        ] in go (is_prorata step)

    walk-trade : (step : StepName) (s n : ℕ) (m : MatchState) → HoldsAt (Gives n) s m.book.resting → 1 ≤ n → n ≤ m.taker.order.leaves
        → (step ≡ name.Fifo → slot_of (orders_at here m.book.resting) ≡ Some s) → IsAt m → WalksAt m (trade step s n m)
    walk-trade step s n m gives some wanted first h =
        let fits : Gives n (order_of s m.book.resting) = holds-order (Gives n) s m.book.resting gives.has gives.each in
        let fair = fair-trade step s n m gives.has fits some wanted first h in
        record {
          leads = leads-by Law (trades step s n) m (law.fair step s n m h.is.holds fair);
          at = record {
            is = record {
              holds = law.kept.trades step s n m gives.has fits.0 (fair.fit.instrument, fair.fit.side) wanted h.is.holds;
              instrument_is = h.is.instrument_is;
              side_is = h.is.side_is;
              limit_is = h.is.limit_is;
            };
            best = (all-kept (IsNoBetter here) (no-better here)).trades step s n m h.best;
          };
        }

    walk-share : (step : StepName) (x : Share) (m : MatchState) → CanGive m.book.resting x → x.1 ≤ m.taker.order.leaves
        → (step ≡ name.Fifo → slot_of (orders_at here (share_noted step x.0 x.1 m).book.resting) ≡ Some x.0) → IsAt m → WalksAt m (trade_share step x.0 x.1 m)
    walk-share step x m gives wanted first h =
        let k = share_noted step x.0 x.1 m in
        let one = walk-mark step x.0 x.1 m gives h in
        let there = holds-marked (Gives x.1) (gives-mark x.1) step x.0 x.0 x.1 m gives in
        elim (eqb_tells x.1 0) [
          | inl t ↦ subst (λ (c : Bool). WalksAt m (cond c k (trade step x.0 x.1 k))) (sym t.0) one
          | inr t ↦ subst (λ (c : Bool). WalksAt m (cond c k (trade step x.0 x.1 k))) (sym t.0) (then-at m k (trade step x.0 x.1 k) one (walk-trade step x.0 x.1 k there (omega (arith, t.1)) wanted first one.at))
        ]

    walk-shares : (step : StepName) (xs : List Share) (m : MatchState) → (step ≡ name.Fifo → ⊥) → AreApart xs → AllByRecursion (CanGive m.book.resting) xs → lots_of xs ≤ m.taker.order.leaves → IsAt m → WalksAt m (trade_shares step xs m)
    walk-shares step [] m other apart give fit h = stays-at m h
    walk-shares step (x ∷ xs) m other apart give fit h =
        let k = trade_share step x.0 x.1 m in
        let Other = λ (y : Share). y.0 ≢ x.0 in
        let Before = CanGive m.book.resting in
        let left : AllByRecursion (CanGive k.book.resting) xs = all-with (λ y. Other y × Before y) (CanGive k.book.resting) (λ y a. holds-share (Gives y.1) (gives-mark y.1) step y.0 x.0 x.1 m a.0 a.1) xs (all-both Other Before xs apart.0 give.1) in
        let one = walk-share step x m give.0 (omega (arith, lots-cons x xs, fit)) (λ fifo. absurd (other fifo)) h in
        then-at m k (trade_shares step xs k) one (walk-shares step xs k other apart.1 left (omega (arith, lots-cons x xs, share-leaves step x.0 x.1 m, fit)) one.at)

    -- ---- the steps

    level-gives : (m : MatchState) → IsMatched m → (x : Share) → IsGiven (level_now price m) x → CanGive m.book.resting x
    level-gives m h x given =
        let k = facing price m.taker in
        let es = m.book.resting in
        let d = differ m h in
        let on = all-passing (λ (e : Entry). level_of e.order ≡ k) (is_at k) (λ e at. is_level-same (level_of e.order) k at) es in
        let on_it : level_of (order_of x.0 (filter (is_at k) es)) ≡ here = orders-at (λ (o : Order). level_of o ≡ k) x.0 (filter (is_at k) es) on given.0 ∙ faces m h in
        let gives : Gives x.1 (order_of x.0 es) = subst (Gives x.1) (order_of-filter (is_at k) x.0 es d given.0) (given.1, on_it) in
        record { has = HasSlot-filter (is_at k) x.0 es given.0; each = at-slot (Gives x.1) x.0 es d gives }

    level-differ : (m : MatchState) → IsMatched m → AllDiffer (level_now price m)
    level-differ m h = AllDiffer-filter (is_at (facing price m.taker)) m.book.resting (differ m h)

    level-shows : (m : MatchState) → IsMatched m → AllShow (level_now price m)
    level-shows m h =
        let b = m.book in
        all-filter (λ (e : Entry). 1 ≤ e.order.shown) (is_at (facing price m.taker)) b.resting
        (all-with (λ (e : Entry). IsResting b.instruments e.order) (λ (e : Entry). 1 ≤ e.order.shown) (λ e r. r.showing) b.resting (law.right m h.holds).rest)

    walk-level : (step : StepName) (xs : List Share) (m : MatchState) → (step ≡ name.Fifo → ⊥) → IsAt m → AreOf (level_now price m) xs → lots_of xs ≤ m.taker.order.leaves → WalksAt m (trade_shares step xs m)
    walk-level step xs m other h of fit = walk-shares step xs m other of.apart (all-with (IsGiven (level_now price m)) (CanGive m.book.resting) (level-gives m h.is) xs of.within) fit h

    walk-head : (es : List Entry) (m : MatchState) → level_now price m ≡ es → IsAt m → WalksAt m (trade_head es m)
    walk-head [] m is h = stays-at m h
    walk-head (e ∷ es) m is h =
        let n = min m.taker.order.leaves e.order.shown in
        let most : n ≤ e.order.shown = omega arith in
        let given : IsGiven (e ∷ es) (e.slot, n) = (inl refl, subst (λ (b : Bool). n ≤ (cond b e.order (order_of e.slot es)).shown) (sym (same e.slot)) most) in
        let first : slot_of (orders_at here m.book.resting) ≡ Some e.slot = ap (λ (k : Level). slot_of (orders_at k m.book.resting)) (sym (faces m h.is)) ∙ ap slot_of is in
        walk-share name.Fifo (e.slot, n) m (level-gives m h.is (e.slot, n) (subst (λ (l : List Entry). IsGiven l (e.slot, n)) (sym is) given)) (omega arith) (λ fifo. first) h

    walk-fifo : (n : ℕ) (m : MatchState) → IsAt m → WalksAt m (fifo_rounds n price m)
    walk-fifo zero m h = stays-at m h
    walk-fifo (suc n) m h =
        let k = trade_head (level_now price m) m in
        let one = walk-head (level_now price m) m refl h in
        then-at m k (fifo_rounds n price k) one (walk-fifo n k one.at)

    walk-step : (step : Step) (m : MatchState) → IsRightStep step → IsAt m → WalksAt m (after_step step price m)
    walk-step (Top rule) m right h =
        let q = m.taker.order.leaves in
        let es = level_now price m in
        let top = top_of m.taker.order.instrument (opposite m.taker.order.side) m.book.resting in
        let d = level-differ m h.is in
        walk-level name.Top (top_shares rule.max top q es) m (λ f. (let e : name.Top ≡ name.Fifo = f in cc)) h (top-of rule.max top q es d) (top-wanted rule.max top q es d)
    walk-step (Lmm shares) m right h =
        let q = m.taker.order.leaves in
        let es = level_now price m in
        walk-level name.Lmm (lmm_shares shares.items q es) m (λ f. (let e : name.Lmm ≡ name.Fifo = f in cc)) h (lmm-of shares.items q es right.firms_differ (level-differ m h.is)) (lmm-fits shares.items q es right)
    walk-step (Split percent) m right h =
        let q = m.taker.order.leaves in
        let es = level_now price m in
        let fit : lots_of (split_shares percent q es) ≤ q = omega (arith, spent-wanted (q * percent / 100) es, split-part q percent right.at_most) in
        walk-level name.Split (split_shares percent q es) m (λ f. (let e : name.Split ≡ name.Fifo = f in cc)) h (spent-of (q * percent / 100) es (level-differ m h.is)) fit
    walk-step (ProRata least) m right h =
        let q = m.taker.order.leaves in
        let es = level_now price m in
        let xs = prorata_shares least q es in
        let done : WalksAt m (trade_shares name.ProRata xs m) = walk-level name.ProRata xs m (λ f. (let e : name.ProRata ≡ name.Fifo = f in cc)) h (prorata-of least q es (level-differ m h.is)) (prorata-wanted least q es) in
        let go : (c : Bool) → WalksAt m (cond c m (trade_shares name.ProRata xs m)) = elim [ true ↦ stays-at m h | false ↦ done ] in
        go (q == 0)
    walk-step Leveling m right h =
        let q = m.taker.order.leaves in
        let es = level_now price m in
        walk-level name.Leveling (leveling_shares q es) m (λ f. (let e : name.Leveling ≡ name.Fifo = f in cc)) h (leveling-of q es (level-shows m h.is) (level-differ m h.is)) (ones-wanted q (filter (λ (e : Entry). e.order.prorated == 0) es))
    walk-step Fifo m right h = walk-fifo m.taker.order.leaves m h

    walk-wanted : (step : Step) (m : MatchState) → IsRightStep step → IsAt m → WalksAt m (wanted_step step price m)
    walk-wanted step m right h =
        let go : (c : Bool) → WalksAt m (cond c m (after_step step price m)) = elim [ true ↦ stays-at m h | false ↦ walk-step step m right h ] in
        go (m.taker.order.leaves == 0)

    walk-match : (steps : List Step) (m : MatchState) → AllByRecursion IsRightStep steps → IsAt m → WalksAt m (level_match steps price m)
    walk-match [] m right h = stays-at m h
    walk-match (step ∷ steps) m right h =
        let k = wanted_step step price m in
        let one = walk-wanted step m right.0 h in
        then-at m k (level_match steps price k) one (walk-match steps k right.1 one.at)

  -- ---- a sweep

  -- the next price is the best one, and the limit allows it
  record IsNext (m : MatchState) (price : Price) : Type 0 where
    best : facing_best m.book m.taker ≡ Some price
    within : is_within (opposite m.taker.order.side) limit.0 price.0 ≡ true

  within-is : (d : Side) (best : Option Price) (p : Price) → within_limit d limit best ≡ Some p → (best ≡ Some p) × (is_within d limit.0 p.0 ≡ true)
  within-is d None p h = absurd (let k : None ≡ Some p = h in cc)
  within-is d (Some q) p h =
      let go : (c : Bool) → is_within d limit.0 q.0 ≡ c → cond c (Some q) None ≡ Some p → (Some q ≡ Some p) × (is_within d limit.0 p.0 ≡ true) = elim [
        | true ↦ λ is k. (let e : q ≡ p = (let f : Some q ≡ Some p = k in cc) in (k, subst (λ (x : Price). is_within d limit.0 x.0 ≡ true) e is))
        | false ↦ λ is k. absurd (let e : None ≡ Some p = k in cc)
      ] in go (is_within d limit.0 q.0) refl h

  next-is : (m : MatchState) (price : Price) → next_price limit m.book m.taker ≡ Some price → IsNext m price
  next-is m price h =
      let d = opposite m.taker.order.side in
      let reached = within_limit d limit (facing_best m.book m.taker) in
      let go : (c : Bool) → cond c None reached ≡ Some price → IsNext m price = elim [
        | true ↦ λ k. absurd (let e : None ≡ Some price = k in cc)
        | false ↦ λ k. (let w = within-is d (facing_best m.book m.taker) price k in record { best = w.0; within = w.1 })
      ] in go (m.taker.order.leaves == 0) h

  module _ (steps : List Step) (right : AllByRecursion IsRightStep steps) where
    walk-next : (next : Option Price) (m : MatchState) → next_price limit m.book m.taker ≡ next → IsMatched m → Walks m (match_next steps next m)
    walk-next None m is h = stays m h
    walk-next (Some price) m is h =
        let n = next-is m price is in
        let best : best_of instrument side m.book.resting ≡ Some price =
        ap (λ (s : Side). best_of instrument s m.book.resting) (sym h.side_is) ∙ ap (λ (i : ℕ). best_of i (opposite m.taker.order.side) m.book.resting) (sym h.instrument_is) ∙ n.best in
        let within : is_within side limit.0 price.0 ≡ true = ap (λ (s : Side). is_within s limit.0 price.0) (sym h.side_is) ∙ n.within in
        let none = best-is-best instrument side price m.book.resting (law.right m h.holds).ordered best in
        let w = walk-match price within steps m right (record { is = h; best = none }) in
        record { leads = w.leads; matched = w.at.is }

    walk-rounds : (n : ℕ) (m : MatchState) → IsMatched m → Walks m (sweep_rounds n steps limit m)
    walk-rounds zero m h = stays m h
    walk-rounds (suc n) m h =
        let next = next_price limit m.book m.taker in
        let k = match_next steps next m in
        let one = walk-next next m refl h in
        then m k (sweep_rounds n steps limit k) one (walk-rounds n k one.matched)

-- a sweep to the limit of the incoming order is made of acts of which the law holds
pub sweep-leads : (I : MatchState → Type 0) (Law : Act → MatchState → Type 0) → SweepLaw I Law → (steps : List Step) → AllByRecursion IsRightStep steps → (m : MatchState) → I m → Leads Law m (sweep steps m.taker.order.price m)
sweep-leads I Law law steps right m h =
    let o = m.taker.order in
    (walk-rounds I Law law o.instrument (opposite o.side) o.price steps right o.leaves m (record { holds = h; instrument_is = refl; side_is = refl; limit_is = refl })).leads
