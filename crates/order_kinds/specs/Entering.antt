-- Entering an order: it meets the other side, and what is left of it comes to rest or is cancelled. Our own rule, after the
-- exchange's published outline.
use Rattle.std.specs.Prelude.{ℕ, ◌==◌, nat_lt, if◌then◌else◌, List, [], ◌∷◌, slice_set, Option, Some, None, option_map}
use Rattle.gx_base.specs.declared.price.Price.{Price}
use Rattle.gx_base.specs.declared.order.Order.{Order}
use Rattle.gx_base.specs.declared.order.TopRule.{TopRule}
use Rattle.gx_base.specs.declared.event.Head.{Head}
use Rattle.gx_base.specs.declared.event.Cause.{Cause}
use Rattle.gx_base.specs.declared.event.Cause.TheVariants as cause
use Rattle.gx_base.specs.declared.event.Event.{Event}
use Rattle.gx_base.specs.declared.event.Event.TheVariants as event
use Rattle.step_config.specs.declared.step.Step.{Step}
use Rattle.step_config.specs.Rules.{top_rule_of}
use Rattle.plain_book.specs.Orders.{open_within, opposite}
use Rattle.plain_book.specs.Book.{book_placed}
pub use Rattle.plain_book.specs.Book.{as_limit}
use Rattle.plain_book.specs.Match.{MatchState, report}
use Rattle.level_sweep.specs.Sweep.{sweep}
use Rattle.order_kinds.specs.NewOrders.{may_rest}

-- ---- cancelled by the engine

-- the order as the report of its cancel or of its end at a close shows it: nothing is open or shown any more
abbrev pub closed : Order → Order
closed o = record o { leaves = 0; shown = 0 }

abbrev pub cancel_event : Cause → Head → Order → Event
cancel_event why head o = event.Cancelled head (closed o) o.leaves None why

-- what is open of the incoming order is cancelled, and reported
abbrev pub taker_cancelled : Cause → MatchState → MatchState
taker_cancelled why m = report (cancel_event why) m.taker.order m

-- ---- coming to rest

-- how many lots TOP asks of an order, where the steps have a TOP
abbrev pub top_min_of : List Step → Option ℕ
top_min_of steps = option_map (λ (rule : TopRule). rule.min) (top_rule_of steps)

-- What is open of the incoming order comes to rest under its number. (A core names it by its slot.)
abbrev pub taker_rested : ℕ → List Step → MatchState → MatchState
taker_rested name steps m = record m { book = book_placed name (as_limit m.taker.order) (top_min_of steps) m.book }

-- ---- entering

-- what becomes of the incoming order after its sweep
abbrev pub finished : ℕ → List Step → MatchState → MatchState
finished name steps m =
    if m.taker.order.leaves == 0 then m
    else if may_rest m.taker.order.life then taker_rested name steps m
    else taker_cancelled cause.Fak m

-- how much is open of the orders that the incoming one meets within its limit, whether it is shown or not
abbrev pub open_for : MatchState → ℕ
open_for m = let o = m.taker.order in open_within o.instrument (opposite o.side) o.price.0 m.book.resting

-- Where its minimum is not open, the order is cancelled whole. Else it sweeps the other side up to its limit, and what is
-- left of it comes to rest or is cancelled.
abbrev pub entered : ℕ → List Step → MatchState → MatchState
entered name steps m =
    if nat_lt (open_for m) m.taker.order.min then taker_cancelled cause.MinQty m
    else finished name steps (sweep steps m.taker.order.price m)

-- ---- the last trade price

-- the price of the last fill, or this one where there is none
abbrev pub last_fill_from : Option Price → List Event → Option Price
last_fill_from last [] = last
last_fill_from last (event.Fill head o lots price step trade ∷ events) = last_fill_from (Some price) events
last_fill_from last (_ ∷ events) = last_fill_from last events

abbrev pub last_fill : List Event → Option Price
last_fill events = last_fill_from None events

-- the last trade prices after these events of an instrument
abbrev pub last_after : ℕ → Option Price → List (Option Price) → List (Option Price)
last_after instrument None last = last
last_after instrument (Some price) last = slice_set last instrument (Some price)
