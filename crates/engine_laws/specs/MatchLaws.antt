-- What the laws of a match speak of: the shares that a step trades, and books that are not crossed.
use Rattle.std.specs.Prelude.{◌≡◌, ℕ, ◌≤◌, true, false, int_lt, List, [], ◌∷◌, sum_by}
use Rattle.std.specs.List.{AllByRecursion}
use Rattle.gx_base.specs.declared.order.Side.TheVariants.{Buy, Sell}
use Rattle.gx_base.specs.declared.event.StepName.{StepName}
use Rattle.gx_base.specs.declared.price.Price.{Price}
use Rattle.step_config.specs.Rules.{name_of, is_fifo}
use Rattle.step_config.specs.declared.step.Step.{Step}
use Rattle.plain_book.specs.declared.entry.Entry.{Entry}
use Rattle.plain_book.specs.Orders.{Level, level_of, HasSlot, order_of}
use Rattle.plain_book.specs.Match.{MatchState, Share, trade_share, trade_shares}
use Rattle.plain_book.specs.Steps.{level_now}
use Rattle.level_sweep.specs.Sweep.{after_step}

-- ---- the shares of a step

-- the lots of some shares
abbrev pub lots_shared : List Share → ℕ
lots_shared shares = sum_by (λ (s : Share). s.1) shares

-- what some orders show
abbrev pub shown_by : List Entry → ℕ
shown_by es = sum_by (λ (e : Entry). e.order.shown) es

-- a share that can be traded now: it is of an order at the price, and no more than this order shows and than is wanted
pub record IsFit (price : Price) (share : Share) (m : MatchState) : Type 0 where
  pub rests : HasSlot share.0 (level_now price m)
  pub shown : share.1 ≤ (order_of share.0 (level_now price m)).shown
  pub wanted : share.1 ≤ m.taker.order.leaves

-- each of some shares can be traded once those before it were
abbrev pub AreFit : StepName → Price → List Share → MatchState → Type 0
AreFit step price [] m = Unit {0}
AreFit step price (share ∷ shares) m = IsFit price share m × AreFit step price shares (trade_share step share.0 share.1 m)

-- What a step does is to trade shares that are fit, one after the other, in each round of FIFO too. They are together no more
-- than what is wanted as the step starts, and for each step but FIFO no more than what the level shows then.
pub record TradesFitShares (step : Step) (price : Price) (m : MatchState) : Type 0 where
  pub shares : List Share
  pub traded : after_step step price m ≡ trade_shares (name_of step) shares m
  pub fit : AreFit (name_of step) price shares m
  pub wanted : lots_shared shares ≤ m.taker.order.leaves
  pub shown : is_fifo step ≡ false → lots_shared shares ≤ shown_by (level_now price m)

-- ---- crossed books

-- where they are a buy and a sell of one instrument, the buy's price is below the sell's
abbrev pub AreApart : Level → Level → Type 0
AreApart a b = a.instrument ≡ b.instrument → a.side ≡ Buy → b.side ≡ Sell → int_lt a.price b.price ≡ true

-- no buy order could trade with a sell order
abbrev pub IsUncrossed : List Entry → Type 0
IsUncrossed es = AllByRecursion (λ (x : Entry). AllByRecursion (λ (y : Entry). AreApart (level_of x.order) (level_of y.order)) es) es
