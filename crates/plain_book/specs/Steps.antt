-- The shares that each step of a match gives, and what the step does: our own rule, after the exchange's published outline.
--
-- The shares are slots and lots, of q lots that are wanted as the step starts, and of the level as it stands then. They are
-- traded in this order. FIFO alone looks again after each trade.
use Rattle.std.specs.Prelude.{◌≡◌, ℕ, ◌-◌, ◌*◌, ◌/◌, ◌==◌, nat_lt, min, if◌then◌else◌, List, [], ◌∷◌, ◌++◌, filter, map, sum_by, Option, Some, None, ◌⊎◌}
use Prim.Native.Nat.{zero, suc}
use Rattle.gx_base.specs.declared.price.Price.{Price}
use Rattle.gx_base.specs.declared.order.Taker.{Taker}
use Rattle.gx_base.specs.declared.order.TopRule.{TopRule}
use Rattle.gx_base.specs.declared.order.LmmShare.{LmmShare}
use Rattle.gx_base.specs.declared.event.StepName.TheVariants.{Top, Lmm, Split, ProRata, Leveling, Fifo}
use Rattle.plain_book.specs.declared.entry.Entry.{Entry}
use Rattle.plain_book.specs.Orders.{Level, orders_at, opposite, top_of, is_slot}
use Rattle.plain_book.specs.Book.{Book}
use Rattle.plain_book.specs.Match.{MatchState, Share, trade_share, trade_shares}

-- the level at a price that the incoming order meets
abbrev pub facing : Price → Taker → Level
facing price t = record { instrument = t.order.instrument; side = opposite t.order.side; price = price.0 }

abbrev pub level_now : Price → MatchState → List Entry
level_now price m = orders_at (facing price m.taker) m.book.resting

-- ---- shares

-- lots are spent over orders in turn, each of which gives at most what it shows
abbrev pub spent : ℕ → List Entry → List Share
spent lots [] = []
spent lots (e ∷ es) = let n = min lots e.order.shown in (e.slot, n) ∷ spent (lots - n) es

-- a percentage of what is wanted, by priority
abbrev pub split_shares : ℕ → ℕ → List Entry → List Share
split_shares percent q es = spent (q * percent / 100) es

-- to the TOP order, where it stands in the level: at most so many lots
abbrev pub top_shares : ℕ → Option ℕ → ℕ → List Entry → List Share
top_shares most None q es = []
top_shares most (Some slot) q es = map (λ e. (e.slot, min q (min e.order.shown most))) (filter (is_slot slot) es)

-- each lead market maker's percentage of what is wanted goes to its own orders, by priority. What they cannot give is not
-- passed on
abbrev pub lmm_shares : List LmmShare → ℕ → List Entry → List Share
lmm_shares [] q es = []
lmm_shares (f ∷ fs) q es = spent (q * f.percent / 100) (filter (λ e. e.order.firm == f.firm) es) ++ lmm_shares fs q es

-- in proportion to what is shown of all that is shown, rounded down, and nothing where that is below the least
abbrev pub prorata_share : ℕ → ℕ → ℕ → ℕ → ℕ
prorata_share least pool total shown = let n = pool * shown / total in if nat_lt n least then 0 else n

abbrev pub prorata_shares : ℕ → ℕ → List Entry → List Share
prorata_shares least q es =
    let total = sum_by (λ e. e.order.shown) es in
    map (λ e. (e.slot, prorata_share least (min q total) total e.order.shown)) es

-- one lot each, while any are wanted
abbrev pub ones : ℕ → List Entry → List Share
ones q [] = []
ones q (e ∷ es) = (e.slot, min q 1) ∷ ones (q - 1) es

-- to each order that the pro rata step last gave nothing
abbrev pub leveling_shares : ℕ → List Entry → List Share
leveling_shares q es = ones q (filter (λ e. e.order.prorated == 0) es)

-- ---- the steps, at one price

abbrev pub split : ℕ → Price → MatchState → MatchState
split percent price m = trade_shares Split (split_shares percent m.taker.order.leaves (level_now price m)) m

abbrev pub top : TopRule → Price → MatchState → MatchState
top rule price m =
    trade_shares Top (top_shares rule.max (top_of m.taker.order.instrument (opposite m.taker.order.side) m.book.resting) m.taker.order.leaves (level_now price m)) m

abbrev pub lmm : List LmmShare → Price → MatchState → MatchState
lmm shares price m = trade_shares Lmm (lmm_shares shares m.taker.order.leaves (level_now price m)) m

abbrev pub leveling : Price → MatchState → MatchState
leveling price m = trade_shares Leveling (leveling_shares m.taker.order.leaves (level_now price m)) m

-- if nothing is wanted, no share is noted
abbrev pub prorata : ℕ → Price → MatchState → MatchState
prorata least price m =
    if m.taker.order.leaves == 0 then m
    else trade_shares ProRata (prorata_shares least m.taker.order.leaves (level_now price m)) m

-- the head of the queue trades what is wanted of it, as far as it is shown
abbrev pub trade_head : List Entry → MatchState → MatchState
trade_head [] m = m
trade_head (e ∷ es) m = trade_share Fifo e.slot (min m.taker.order.leaves e.order.shown) m

-- again and again with the queue as it then stands, until nothing is wanted or no order is left. Each trade takes at
-- least one lot, so as many rounds as lots are wanted are enough.
abbrev pub fifo_rounds : ℕ → Price → MatchState → MatchState
fifo_rounds zero price m = m
fifo_rounds (suc n) price m = fifo_rounds n price (trade_head (level_now price m) m)

abbrev pub fifo : Price → MatchState → MatchState
fifo price m = fifo_rounds m.taker.order.leaves price m

-- nothing more is wanted, or no order is left at the price
abbrev pub IsLevelDone : Price → Book → Taker → Type 0
IsLevelDone price b t = (t.order.leaves ≡ 0) ⊎ (orders_at (facing price t) b.resting ≡ [])
