-- Level matches and sweeps: our own rule, after the exchange's published outline.
use Rattle.std.specs.Prelude.{◌≡◌, ℕ, ◌==◌, if◌then◌else◌, List, [], ◌∷◌, Option, Some, None}
use Prim.Native.Nat.{zero, suc}
use Rattle.gx_base.specs.declared.price.Price.{Price}
use Rattle.gx_base.specs.declared.order.Side.{Side}
use Rattle.gx_base.specs.declared.order.Taker.{Taker}
use Rattle.step_config.specs.declared.step.Step.{Step}
use Rattle.step_config.specs.declared.step.Step.TheVariants.{Top, Lmm, Split, ProRata, Leveling, Fifo}
use Rattle.plain_book.specs.declared.entry.Entry.{Entry}
use Rattle.plain_book.specs.Orders.{best_of, is_within, opposite}
use Rattle.plain_book.specs.Book.{Book}
use Rattle.plain_book.specs.Match.{MatchState}
use Rattle.plain_book.specs.Steps.{top, lmm, split, prorata, leveling, fifo}

-- ---- a level match

-- one step at a price
abbrev pub after_step : Step → Price → MatchState → MatchState
after_step (Top rule) price m = top rule price m
after_step (Lmm shares) price m = lmm shares.items price m
after_step (Split percent) price m = split percent price m
after_step (ProRata least) price m = prorata least price m
after_step Leveling price m = leveling price m
after_step Fifo price m = fifo price m

-- a step does nothing where nothing is wanted
abbrev pub wanted_step : Step → Price → MatchState → MatchState
wanted_step step price m = if m.taker.order.leaves == 0 then m else after_step step price m

-- the steps in their order
abbrev pub level_match : List Step → Price → MatchState → MatchState
level_match [] price m = m
level_match (step ∷ steps) price m = level_match steps price (wanted_step step price m)

-- ---- a sweep

-- the best price that the incoming order meets
abbrev pub facing_best : Book → Taker → Option Price
facing_best b t = best_of t.order.instrument (opposite t.order.side) b.resting

-- a price of a side, if a limit allows it
abbrev pub within_limit : Side → Price → Option Price → Option Price
within_limit side limit None = None
within_limit side limit (Some price) = if is_within side limit.0 price.0 then Some price else None

-- the price of the next level match: the best opposite price, while lots are wanted and the limit allows it
abbrev pub next_price : Price → Book → Taker → Option Price
next_price limit b t = if t.order.leaves == 0 then None else within_limit (opposite t.order.side) limit (facing_best b t)

-- a level match there
abbrev pub match_next : List Step → Option Price → MatchState → MatchState
match_next steps None m = m
match_next steps (Some price) m = level_match steps price m

-- the same again, so many times
abbrev pub sweep_rounds : ℕ → List Step → Price → MatchState → MatchState
sweep_rounds zero steps limit m = m
sweep_rounds (suc n) steps limit m = sweep_rounds n steps limit (match_next steps (next_price limit m.book m.taker) m)

-- While lots are wanted and there is a best opposite price within the limit, a level match there: the law
-- `sweeps_go_on` says it so. Where FIFO stands last, each level match takes at least one lot, so as many rounds as
-- lots are wanted are enough.
abbrev pub sweep : List Step → Price → MatchState → MatchState
sweep steps limit m = sweep_rounds m.taker.order.leaves steps limit m

-- nothing more is wanted, or no price within the limit is left
abbrev pub IsSweepDone : Price → Book → Taker → Type 0
IsSweepDone limit b t = next_price limit b t ≡ None

-- a book with these resting orders, and else as it was
abbrev pub with_resting : List Entry → Book → Book
with_resting es b = record b { resting = es }
