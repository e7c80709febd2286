-- What holds of each trade and of each noted share holds of a whole sweep.
use Rattle.std.proofs.Common.{ℕ, Bool, true, false, cond, List, [], ◌∷◌, Option, Some, None}
use Prim.Native.Nat.{zero, suc}
use Rattle.std.specs.Prelude.{◌==◌}
use Rattle.gx_base.specs.declared.price.Price.{Price}
use Rattle.gx_base.specs.declared.event.Event.{Event}
use Rattle.gx_base.specs.declared.event.StepName.{StepName}
use Rattle.gx_base.specs.declared.event.StepName.TheVariants as name
use Rattle.step_config.specs.declared.step.Step.{Step}
use Rattle.step_config.specs.declared.step.Step.TheVariants.{Top, Lmm, Split, ProRata, Leveling, Fifo}
use Rattle.plain_book.specs.declared.entry.Entry.{Entry}
use Rattle.plain_book.specs.Orders.{opposite, top_of, order_of, traded, with_order}
use Rattle.plain_book.specs.Match.{MatchState, Share, trade, trade_if_any, is_prorata, book_share_noted, share_noted, trade_share, trade_shares}
use Rattle.plain_book.specs.Steps.{level_now, trade_head, fifo_rounds, prorata_shares, top_shares, lmm_shares, split_shares, leveling_shares}
use Rattle.plain_book.proofs.TradedShares.{with_events}
use Rattle.level_sweep.specs.Sweep.{after_step, wanted_step, level_match, next_price, match_next, sweep_rounds, sweep}

-- ---- the cases of a step

-- What holds of trading some shares, of FIFO's rounds, and where nothing is done, holds of a step. It may speak of the
-- same with other events before it.
module _ (P : MatchState → MatchState → Type 0) (price : Price) (es : List Event) (m : MatchState)
    (shares : (step : StepName) (xs : List Share) → P (trade_shares step xs (with_events es m)) (trade_shares step xs m))
    (rounds : P (fifo_rounds m.taker.order.leaves price (with_events es m)) (fifo_rounds m.taker.order.leaves price m))
    (none : P (with_events es m) m) where
  step-cases : (s : Step) → P (after_step s price (with_events es m)) (after_step s price m)
  step-cases (Top rule) = shares name.Top (top_shares rule.max (top_of m.taker.order.instrument (opposite m.taker.order.side) m.book.resting) m.taker.order.leaves (level_now price m))
  step-cases (Lmm lmms) = shares name.Lmm (lmm_shares lmms.items m.taker.order.leaves (level_now price m))
  step-cases (Split percent) = shares name.Split (split_shares percent m.taker.order.leaves (level_now price m))
  step-cases (ProRata least) =
      let xs = prorata_shares least m.taker.order.leaves (level_now price m) in
      let go : (c : Bool) → P (cond c (with_events es m) (trade_shares name.ProRata xs (with_events es m))) (cond c m (trade_shares name.ProRata xs m)) = elim [ true ↦ none | false ↦ shares name.ProRata xs ] in
      go (m.taker.order.leaves == 0)
  step-cases Leveling = shares name.Leveling (leveling_shares m.taker.order.leaves (level_now price m))
  step-cases Fifo = rounds

  pub wanted-cases : (s : Step) → P (wanted_step s price (with_events es m)) (wanted_step s price m)
  wanted-cases s =
      let go : (c : Bool) → P (cond c (with_events es m) (after_step s price (with_events es m))) (cond c m (after_step s price m)) = elim [ true ↦ none | false ↦ step-cases s ] in
      go (m.taker.order.leaves == 0)

-- ---- what is kept

-- how a state stands to one before it
abbrev pub Relation : Type 1
Relation = MatchState → MatchState → Type 0

pub record IsKept (R : Relation) : Type 0 where
  pub same : (m : MatchState) → R m m
  pub both : (a b c : MatchState) → R a b → R b c → R a c
  pub trades : (step : StepName) (s n : ℕ) (m : MatchState) → R m (trade step s n m)
  pub marks : (s n : ℕ) (m : MatchState) → R m (record m { book = book_share_noted s n m.book })

-- What holds of the resting orders, and still does when one of them trades or is share_noted.
module _ (A : List Entry → Type 0) where
  abbrev pub RestingStays : Relation
  RestingStays a b = A a.book.resting → A b.book.resting

  pub resting-kept : ((s n : ℕ) (es : List Entry) → A es → A (traded s n es)) → ((s n : ℕ) (es : List Entry) → A es → A (with_order s (record (order_of s es) { prorated = n }) es)) → IsKept RestingStays
  resting-kept trades marks = record {
    same = λ m a. a;
    both = λ a b c h k x. k (h x);
    trades = λ step s n m. trades s n m.book.resting;
    marks = λ s n m. marks s n m.book.resting;
  }

module _ (R : Relation) (kept : IsKept R) where
  abbrev Keeps : (MatchState → MatchState) → Type 0
  Keeps f = (m : MatchState) → R m (f m)

  each-any : (step : StepName) (s n : ℕ) → Keeps (trade_if_any step s n)
  each-any step s n m =
      let go : (c : Bool) → R m (cond c m (trade step s n m)) = elim [ true ↦ kept.same m | false ↦ kept.trades step s n m ] in
      go (n == 0)

  pub each-marked : (step : StepName) (s n : ℕ) → Keeps (share_noted step s n)
  each-marked step s n m =
      let go : (c : Bool) → R m (record m { book = cond c (book_share_noted s n m.book) m.book }) = elim [ true ↦ kept.marks s n m | false ↦ kept.same m ] in
      go (is_prorata step)

  pub each-share : (step : StepName) (s n : ℕ) → Keeps (trade_share step s n)
  each-share step s n m = let k = share_noted step s n m in kept.both m k (trade_share step s n m) (each-marked step s n m) (each-any step s n k)

  pub each-shares : (step : StepName) (xs : List Share) → Keeps (trade_shares step xs)
  each-shares step [] m = kept.same m
  each-shares step (x ∷ xs) m = let k = trade_share step x.0 x.1 m in kept.both m k (trade_shares step xs k) (each-share step x.0 x.1 m) (each-shares step xs k)

  pub each-head : (es : List Entry) → Keeps (trade_head es)
  each-head [] m = kept.same m
  each-head (e ∷ es) m = each-share name.Fifo e.slot _ m

  pub each-fifo : (price : Price) (n : ℕ) → Keeps (fifo_rounds n price)
  each-fifo price zero m = kept.same m
  each-fifo price (suc n) m =
      let k = trade_head (level_now price m) m in kept.both m k (fifo_rounds n price k) (each-head (level_now price m) m) (each-fifo price n k)

  pub each-wanted : (s : Step) (price : Price) → Keeps (wanted_step s price)
  each-wanted s price m = wanted-cases (λ _ n. R m n) price [] m (λ step xs. each-shares step xs m) (each-fifo price m.taker.order.leaves m) (kept.same m) s

  pub each-match : (steps : List Step) (price : Price) → Keeps (level_match steps price)
  each-match [] price m = kept.same m
  each-match (s ∷ ss) price m =
      let k = wanted_step s price m in kept.both m k (level_match ss price k) (each-wanted s price m) (each-match ss price k)

  each-next : (steps : List Step) (next : Option Price) → Keeps (match_next steps next)
  each-next steps None m = kept.same m
  each-next steps (Some price) m = each-match steps price m

  pub each-rounds : (n : ℕ) (steps : List Step) (limit : Price) → Keeps (sweep_rounds n steps limit)
  each-rounds zero steps limit m = kept.same m
  each-rounds (suc n) steps limit m =
      let next = next_price limit m.book m.taker in
      let k = match_next steps next m in kept.both m k (sweep_rounds n steps limit k) (each-next steps next m) (each-rounds n steps limit k)

  pub each-sweep : (steps : List Step) (limit : Price) → Keeps (sweep steps limit)
  each-sweep steps limit m = each-rounds m.taker.order.leaves steps limit m
