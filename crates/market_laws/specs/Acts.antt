-- What a message brings about, act by act, and the trades among the acts, each with the state in which it happens.
--
-- The definitions of a message say what comes of it as a whole. The laws of the market speak of what happens on the way: so a
-- law says that some acts lead from where the message starts to exactly what the definitions say, and that each of them is right.
use Rattle.std.specs.Prelude.{◌≡◌, ℕ, List, [], ◌∷◌, Option, Some, None, ◌⊎◌}
use Rattle.std.specs.List.{AllByRecursion}
use Rattle.gx_base.specs.declared.order.Order.{Order}
use Rattle.gx_base.specs.declared.event.StepName.{StepName}
use Rattle.gx_base.specs.declared.event.Cause.{Cause}
use Rattle.gx_base.specs.declared.event.Event.{Event}
use Rattle.gx_base.specs.declared.event.Event.TheVariants.{Accepted, Fill, Replaced}
use Rattle.step_config.specs.declared.step.Step.{Step}
use Rattle.product_file.specs.Products.{ProductLists}
use Rattle.plain_book.specs.declared.entry.Entry.{Entry}
use Rattle.plain_book.specs.Orders.{HasSlot, order_of}
use Rattle.plain_book.specs.Book.{live_orders, book_without}
use Rattle.plain_book.specs.Match.{MatchState, trade, book_share_noted}
use Rattle.order_kinds.specs.State.{State}
use Rattle.order_kinds.specs.Entering.{taker_cancelled, taker_rested}
use Rattle.order_kinds.specs.Stops.{stop_triggered, taker_waiting}
use Rattle.order_kinds.specs.Accepting.{after_match}
use Rattle.order_kinds.specs.Step.{with_message, step_of}
use Rattle.order_kinds.specs.Histories.{last_product, state_kept}
use Rattle.market_laws.specs.Streams.{OfEachHistory}

-- ---- acts

pub data Act : Type 0 where
  -- in a step, the order of a slot gives lots to the incoming one
  trades : StepName → ℕ → ℕ → Act
  -- a pro rata share is noted on the order of a slot
  notes : ℕ → ℕ → Act
  -- what is left of the incoming order comes to rest
  rests : List Step → Act
  -- what is left of it is cancelled
  cancels : Cause → Act
  -- the incoming stop waits
  waits : Act
  -- a waiting stop is triggered: it is the incoming order from here on
  triggers : Entry → Act

abbrev pub after : Act → MatchState → MatchState
after (trades step slot lots) m = trade step slot lots m
after (notes slot lots) m = record m { book = book_share_noted slot lots m.book }
after (rests steps) m = taker_rested m.taker.order.number steps m
after (cancels why) m = taker_cancelled why m
after waits m = taker_waiting m.taker.order.number m
after (triggers stop) m = stop_triggered stop m

abbrev pub after_acts : List Act → MatchState → MatchState
after_acts [] m = m
after_acts (act ∷ acts) m = after_acts acts (after act m)

-- each act is right in the state in which it happens
abbrev pub EachAct : (Act → MatchState → Type 0) → List Act → MatchState → Type 0
EachAct Law [] m = Unit {0}
EachAct Law (act ∷ acts) m = Law act m × EachAct Law acts (after act m)

-- ---- trades

-- one trade
pub record Trade : Type 0 where
  -- the book, the incoming order and what was reported, just before it
  pub before : MatchState
  pub step : StepName
  -- the resting order, by its number
  pub slot : ℕ
  pub lots : ℕ

-- its two orders, as they were just before it
abbrev pub resting : Trade → Order
resting t = order_of t.slot t.before.book.resting

abbrev pub incoming : Trade → Order
incoming t = t.before.taker.order

-- the trades among some acts, the first of which happens in this state
abbrev pub trades_among : List Act → MatchState → List Trade
trades_among [] m = []
trades_among (trades step slot lots ∷ acts) m = record { before = m; step = step; slot = slot; lots = lots } ∷ trades_among acts (trade step slot lots m)
trades_among (notes slot lots ∷ acts) m = trades_among acts (after (notes slot lots) m)
trades_among (rests steps ∷ acts) m = trades_among acts (after (rests steps) m)
trades_among (cancels why ∷ acts) m = trades_among acts (after (cancels why) m)
trades_among (waits ∷ acts) m = trades_among acts (after waits m)
trades_among (triggers stop ∷ acts) m = trades_among acts (after (triggers stop) m)

-- ---- messages

abbrev pub IsNoFill : Event → Type 0
IsNoFill (Fill head o lots price step trade) = ⊥
IsNoFill _ = Unit {0}

abbrev pub HasNoFill : List Event → Type 0
HasNoFill events = AllByRecursion IsNoFill events

-- the order that a report tells of as coming in: accepted, or replaced
abbrev pub announced : Event → Option Order
announced (Accepted head o) = Some o
announced (Replaced head o old before) = Some o
announced _ = None

-- The one report so far is that the incoming order comes in.
pub record IsAnnounced (start : MatchState) : Type 0 where
  pub event : Event
  pub is : start.events ≡ event ∷ []
  pub incoming : announced event ≡ Some start.taker.order

-- These acts are what a message does, which leads from a state to another one, with some events: an order comes in, which is
-- no live one any more if it was one, and is reported. After the acts the book, the counters and all events are as they are
-- after the message.
pub record AreActs (state : State) (step : State × List Event) (start : MatchState) (acts : List Act) : Type 0 where
  pub book : start.book ≡ book_without start.taker.order.number state.book
  pub reported : IsAnnounced start
  pub end : step ≡ after_match start.taker.order.instrument state (after_acts acts start)

-- a message does some acts, of which a law holds
pub record DoesActs (Law : List Act → MatchState → Type 0) (state : State) (step : State × List Event) : Type 0 where
  pub start : MatchState
  pub acts : List Act
  pub are : AreActs state step start acts
  pub law : Law acts start

-- No order comes in with a message: none of its reports is a fill, and each order that is live after it was live before.
pub record BringsNoOrder (old : State) (step : State × List Event) : Type 0 where
  pub fills : HasNoFill step.1
  pub live : (number : ℕ) → HasSlot number (live_orders step.0.book) → HasSlot number (live_orders old.book)

-- After any history, no order comes in with the next message, or it does acts of which a law of its product holds.
abbrev pub InEachMessage : (ProductLists → List Act → MatchState → Type 0) → Type 0
InEachMessage Law =
    (next : List ℕ) → OfEachHistory (λ history.
    let product = last_product history in
    let state = state_kept history in
    let step = step_of product state next in BringsNoOrder (with_message state) step ⊎ DoesActs (Law product) (with_message state) step)

-- a law holds of each trade of every history
abbrev pub OfEachTrade : (Trade → Type 0) → Type 0
OfEachTrade Law = InEachMessage (λ product acts start. AllByRecursion Law (trades_among acts start))
