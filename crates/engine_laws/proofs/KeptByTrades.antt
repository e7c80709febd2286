-- What each trade and each mark of a step keeps, a whole sweep keeps: each is of an order that the incoming one meets, and of no
-- more lots than it shows and than are wanted.
use Rattle.std.proofs.Common.{◌≡◌, ◌≢◌, ℕ, ◌*◌, ◌/◌, ◌≤◌, min, Bool, true, false, cond, List, [], ◌∷◌, filter, Option, Some, None, refl, sym, ap, subst, ◌∙◌, arith, inl}
use Prim.Native.Nat.{zero, suc}
use Rattle.std.specs.Prelude.{◌==◌}
use Rattle.std.specs.List.{AllByRecursion}
use Rattle.gx_base.specs.declared.price.Price.{Price}
use Rattle.gx_base.specs.declared.order.Order.{Order}
use Rattle.gx_base.specs.declared.event.StepName.{StepName}
use Rattle.gx_base.specs.declared.event.StepName.TheVariants as name
use Rattle.step_config.specs.declared.step.Step.{Step}
use Rattle.step_config.specs.declared.step.Step.TheVariants.{Top, Lmm, Split, ProRata, Leveling, Fifo}
use Rattle.step_config.specs.RightSteps.{IsRightStep}
use Rattle.plain_book.specs.declared.entry.Entry.{Entry}
use Rattle.plain_book.specs.Orders.{Level, level_of, opposite, is_at, top_of, HasSlot, order_of}
use Rattle.plain_book.specs.Book.{AllDiffer}
use Rattle.plain_book.specs.Match.{MatchState, Share, trade, is_prorata, book_share_noted, share_noted, trade_share, trade_shares}
use Rattle.plain_book.specs.Steps.{facing, level_now, trade_head, fifo_rounds, prorata_shares, top_shares, lmm_shares, split_shares, leveling_shares}
use Rattle.plain_book.proofs.Levels.{HasSlot-filter, AllDiffer-filter, order_of-filter, is_level-same, same}
use Rattle.plain_book.proofs.Pairs.{all-with, all-both, all-filter, all-passing}
use Rattle.plain_book.proofs.Live.{orders-at}
use Rattle.plain_book.proofs.Tops.{at-slot}
use Rattle.plain_book.proofs.TradedShares.{share-leaves}
use Rattle.level_sweep.specs.Sweep.{after_step, wanted_step, level_match, next_price, match_next, sweep_rounds, sweep}
use Rattle.level_sweep.proofs.StepShares.{AreApart, IsGiven, AreOf, AllShow, spent-of, top-of, lmm-of, prorata-of, leveling-of}
use Rattle.engine_laws.proofs.ShareLots.{lots_of, lots-cons, spent-wanted, split-part, top-wanted, lmm-fits, prorata-wanted, ones-wanted}
use Rattle.engine_laws.proofs.SlotHolds.{HoldsAt, holds-order, holds-marked, holds-share}

-- an order of the same instrument, on the other side
abbrev pub Meets : Order → Order → Type 0
Meets taker o = (o.instrument ≡ taker.instrument) × (o.side ≡ opposite taker.side)

-- What a trade and a mark keep, where they are of no more lots than the order shows. Slots differ meanwhile, and each order
-- shows a lot.
pub record IsKeptByTrades (I : MatchState → Type 0) : Type 0 where
  pub differ : (m : MatchState) → I m → AllDiffer m.book.resting
  pub showing : (m : MatchState) → I m → AllShow m.book.resting
  pub trades : (step : StepName) (s n : ℕ) (m : MatchState) → HasSlot s m.book.resting → n ≤ (order_of s m.book.resting).shown
      → Meets m.taker.order (order_of s m.book.resting) → n ≤ m.taker.order.leaves → I m → I (trade step s n m)
  pub marks : (s n : ℕ) (m : MatchState) → HasSlot s m.book.resting → n ≤ (order_of s m.book.resting).shown → I m → I (record m { book = book_share_noted s n m.book })

module _ (I : MatchState → Type 0) (kept : IsKeptByTrades I) (taker : Order) where
  -- an order of this instrument and side is matched
  record IsMatched (m : MatchState) : Type 0 where
    holds : I m
    instrument_is : m.taker.order.instrument ≡ taker.instrument
    side_is : m.taker.order.side ≡ taker.side

  -- an order that it meets, and that shows so many lots
  abbrev Gives : ℕ → Order → Type 0
  Gives n o = (n ≤ o.shown) × Meets taker o

  abbrev CanGive : List Entry → Share → Type 0
  CanGive es x = HoldsAt (Gives x.1) x.0 es

  gives-mark : (n : ℕ) (o : Order) (k : ℕ) → Gives n o → Gives n (record o { prorated = k })
  gives-mark n o k h = h

  matched-mark : (step : StepName) (s n : ℕ) (m : MatchState) → HoldsAt (Gives n) s m.book.resting → IsMatched m → IsMatched (share_noted step s n m)
  matched-mark step s n m gives h =
      let fits : Gives n (order_of s m.book.resting) = holds-order (Gives n) s m.book.resting gives.has gives.each in
      let go : (c : Bool) → IsMatched (record m { book = cond c (book_share_noted s n m.book) m.book }) = elim [
        | true ↦ record { holds = kept.marks s n m gives.has fits.0 h.holds; instrument_is = h.instrument_is; side_is = h.side_is }
        | false ↦ h
      ] in go (is_prorata step)

  matched-share : (step : StepName) (x : Share) (m : MatchState) → CanGive m.book.resting x → x.1 ≤ m.taker.order.leaves → IsMatched m → IsMatched (trade_share step x.0 x.1 m)
  matched-share step x m gives wanted h =
      let k = share_noted step x.0 x.1 m in
      let here = matched-mark step x.0 x.1 m gives h in
      let there = holds-marked (Gives x.1) (gives-mark x.1) step x.0 x.0 x.1 m gives in
      let fits : Gives x.1 (order_of x.0 k.book.resting) = holds-order (Gives x.1) x.0 k.book.resting there.has there.each in
      let go : (c : Bool) → IsMatched (cond c k (trade step x.0 x.1 k)) = elim [
        | true ↦ here
        | false ↦ record {
          holds = kept.trades step x.0 x.1 k there.has fits.0 (fits.1.0 ∙ sym h.instrument_is, fits.1.1 ∙ ap opposite (sym h.side_is)) wanted here.holds;
          instrument_is = h.instrument_is;
          side_is = h.side_is;
        }
      ] in go (x.1 == 0)

  matched-shares : (step : StepName) (xs : List Share) (m : MatchState) → AreApart xs → AllByRecursion (CanGive m.book.resting) xs → lots_of xs ≤ m.taker.order.leaves → IsMatched m → IsMatched (trade_shares step xs m)
  matched-shares step [] m apart give fit h = h
  matched-shares step (x ∷ xs) m apart give fit h =
      let k = trade_share step x.0 x.1 m in
      let Other = λ (y : Share). y.0 ≢ x.0 in
      let Before = CanGive m.book.resting in
      let left : AllByRecursion (CanGive k.book.resting) xs = all-with (λ y. Other y × Before y) (CanGive k.book.resting) (λ y a. holds-share (Gives y.1) (gives-mark y.1) step y.0 x.0 x.1 m a.0 a.1) xs (all-both Other Before xs apart.0 give.1) in
      matched-shares step xs k apart.1 left (omega (arith, lots-cons x xs, share-leaves step x.0 x.1 m, fit)) (matched-share step x m give.0 (omega (arith, lots-cons x xs, fit)) h)

  -- ---- a level

  module _ (price : Price) where
    level-gives : (m : MatchState) → IsMatched m → (x : Share) → IsGiven (level_now price m) x → CanGive m.book.resting x
    level-gives m h x given =
        let k = facing price m.taker in
        let es = m.book.resting in
        let d = kept.differ m h.holds in
        let there = all-passing (λ (e : Entry). level_of e.order ≡ k) (is_at k) (λ e at. is_level-same (level_of e.order) k at) es in
        let level : level_of (order_of x.0 (filter (is_at k) es)) ≡ k = orders-at (λ (o : Order). level_of o ≡ k) x.0 (filter (is_at k) es) there given.0 in
        let meets : Meets taker (order_of x.0 (filter (is_at k) es)) = (ap (λ (l : Level). l.instrument) level ∙ h.instrument_is, ap (λ (l : Level). l.side) level ∙ ap opposite h.side_is) in
        let gives : Gives x.1 (order_of x.0 es) = subst (Gives x.1) (order_of-filter (is_at k) x.0 es d given.0) (given.1, meets) in
        record { has = HasSlot-filter (is_at k) x.0 es given.0; each = at-slot (Gives x.1) x.0 es d gives }

    level-differ : (m : MatchState) → IsMatched m → AllDiffer (level_now price m)
    level-differ m h = AllDiffer-filter (is_at (facing price m.taker)) m.book.resting (kept.differ m h.holds)

    level-shows : (m : MatchState) → IsMatched m → AllShow (level_now price m)
    level-shows m h = all-filter (λ (e : Entry). 1 ≤ e.order.shown) (is_at (facing price m.taker)) m.book.resting (kept.showing m h.holds)

    matched-level : (step : StepName) (xs : List Share) (m : MatchState) → IsMatched m → AreOf (level_now price m) xs → lots_of xs ≤ m.taker.order.leaves → IsMatched (trade_shares step xs m)
    matched-level step xs m h of fit = matched-shares step xs m of.apart (all-with (IsGiven (level_now price m)) (CanGive m.book.resting) (level-gives m h) xs of.within) fit h

    matched-head : (es : List Entry) (m : MatchState) → ((x : Share) → IsGiven es x → CanGive m.book.resting x) → IsMatched m → IsMatched (trade_head es m)
    matched-head [] m give h = h
    matched-head (e ∷ es) m give h =
        let n = min m.taker.order.leaves e.order.shown in
        let most : n ≤ e.order.shown = omega arith in
        matched-share name.Fifo (e.slot, n) m (give (e.slot, n) (inl refl, subst (λ (b : Bool). n ≤ (cond b e.order (order_of e.slot es)).shown) (sym (same e.slot)) most)) (omega arith) h

    matched-fifo : (n : ℕ) (m : MatchState) → IsMatched m → IsMatched (fifo_rounds n price m)
    matched-fifo zero m h = h
    matched-fifo (suc n) m h = matched-fifo n (trade_head (level_now price m) m) (matched-head (level_now price m) m (level-gives m h) h)

    matched-step : (step : Step) (m : MatchState) → IsRightStep step → IsMatched m → IsMatched (after_step step price m)
    matched-step (Top rule) m right h =
        let q = m.taker.order.leaves in
        let es = level_now price m in
        let top = top_of m.taker.order.instrument (opposite m.taker.order.side) m.book.resting in
        let d = level-differ m h in
        matched-level name.Top (top_shares rule.max top q es) m h (top-of rule.max top q es d) (top-wanted rule.max top q es d)
    matched-step (Lmm shares) m right h =
        let q = m.taker.order.leaves in
        let es = level_now price m in
        matched-level name.Lmm (lmm_shares shares.items q es) m h (lmm-of shares.items q es right.firms_differ (level-differ m h)) (lmm-fits shares.items q es right)
    matched-step (Split percent) m right h =
        let q = m.taker.order.leaves in
        let es = level_now price m in
        let fit : lots_of (split_shares percent q es) ≤ q = omega (arith, spent-wanted (q * percent / 100) es, split-part q percent right.at_most) in
        matched-level name.Split (split_shares percent q es) m h (spent-of (q * percent / 100) es (level-differ m h)) fit
    matched-step (ProRata least) m right h =
        let q = m.taker.order.leaves in
        let es = level_now price m in
        let xs = prorata_shares least q es in
        let done : IsMatched (trade_shares name.ProRata xs m) = matched-level name.ProRata xs m h (prorata-of least q es (level-differ m h)) (prorata-wanted least q es) in
        let go : (c : Bool) → IsMatched (cond c m (trade_shares name.ProRata xs m)) = elim [ true ↦ h | false ↦ done ] in
        go (q == 0)
    matched-step Leveling m right h =
        let q = m.taker.order.leaves in
        let es = level_now price m in
        matched-level name.Leveling (leveling_shares q es) m h (leveling-of q es (level-shows m h) (level-differ m h)) (ones-wanted q (filter (λ (e : Entry). e.order.prorated == 0) es))
    matched-step Fifo m right h = matched-fifo m.taker.order.leaves m h

    matched-wanted : (step : Step) (m : MatchState) → IsRightStep step → IsMatched m → IsMatched (wanted_step step price m)
    matched-wanted step m right h =
        let go : (c : Bool) → IsMatched (cond c m (after_step step price m)) = elim [ true ↦ h | false ↦ matched-step step m right h ] in
        go (m.taker.order.leaves == 0)

    matched-match : (steps : List Step) (m : MatchState) → AllByRecursion IsRightStep steps → IsMatched m → IsMatched (level_match steps price m)
    matched-match [] m right h = h
    matched-match (step ∷ steps) m right h = matched-match steps (wanted_step step price m) right.1 (matched-wanted step m right.0 h)

  -- ---- a sweep

  module _ (steps : List Step) (limit : Price) (right : AllByRecursion IsRightStep steps) where
    matched-next : (next : Option Price) (m : MatchState) → IsMatched m → IsMatched (match_next steps next m)
    matched-next None m h = h
    matched-next (Some price) m h = matched-match price steps m right h

    matched-rounds : (n : ℕ) (m : MatchState) → IsMatched m → IsMatched (sweep_rounds n steps limit m)
    matched-rounds zero m h = h
    matched-rounds (suc n) m h =
        let next = next_price limit m.book m.taker in matched-rounds n (match_next steps next m) (matched-next next m h)

-- a whole sweep keeps it
pub kept-swept : (I : MatchState → Type 0) → IsKeptByTrades I → (steps : List Step) (limit : Price) → AllByRecursion IsRightStep steps → (m : MatchState) → I m → I (sweep steps limit m)
kept-swept I kept steps limit right m h = (matched-rounds I kept m.taker.order steps limit right m.taker.order.leaves m (record { holds = h; instrument_is = refl; side_is = refl })).holds
