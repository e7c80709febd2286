-- The laws of acts, each of one act and the state in which it happens.
use Rattle.std.specs.Prelude.{◌≡◌, ℕ, ◌≤◌, true, List, Some, ◌⊎◌}
use Rattle.std.specs.List.{AllByRecursion}
use Rattle.gx_base.specs.declared.order.Kind.TheVariants.{StopLimit}
use Rattle.gx_base.specs.declared.order.Life.TheVariants.{Fok}
use Rattle.gx_base.specs.declared.order.Order.{Order}
use Rattle.gx_base.specs.declared.event.Event.{Event}
use Rattle.gx_base.specs.declared.event.Event.TheVariants.{Cancelled, Expired}
use Rattle.step_config.specs.declared.step.Step.{Step}
use Rattle.plain_book.specs.declared.entry.Entry.{Entry}
use Rattle.plain_book.specs.Orders.{HasSlot, order_of, is_on, is_better, top_of}
use Rattle.plain_book.specs.Match.{MatchState}
use Rattle.order_kinds.specs.NewOrders.{may_rest}
use Rattle.order_kinds.specs.Entering.{taker_rested}
use Rattle.order_kinds.specs.Stops.{next_stop}
use Rattle.market_laws.specs.Acts.{Act}
use Rattle.market_laws.specs.Acts.Act.{trades, notes, rests, cancels, waits, triggers}
use Rattle.market_laws.specs.Trades.{IsFair}

-- ---- all or nothing

-- of an order that is no more open, nothing was filled, or its minimum was; of a FOK order that was not filled whole, nothing
pub record IsAllOrNothing (o : Order) : Type 0 where
  pub minimum : (o.filled ≡ 0) ⊎ (o.min ≤ o.filled)
  pub fok : o.life ≡ Fok → o.filled ≡ 0

-- so in the report of each cancel, by the engine or on demand, and of each order that expires
abbrev pub KeepsMinimum : Event → Type 0
KeepsMinimum (Cancelled head o gone by cause) = IsAllOrNothing o
KeepsMinimum (Expired head o gone) = IsAllOrNothing o
KeepsMinimum _ = Unit {0}

-- ---- each act

-- a share is noted on a resting order of the incoming one's instrument
pub record IsNoted (slot : ℕ) (m : MatchState) : Type 0 where
  pub rests : HasSlot slot m.book.resting
  pub instrument : (order_of slot m.book.resting).instrument ≡ m.taker.order.instrument

-- If an order comes to rest as TOP of its side, its price is better than that of every order there.
abbrev pub IsBetterThan : Order → Entry → Type 0
IsBetterThan o e = is_on o.instrument o.side e ≡ true → is_better o.side o.price.0 e.order.price.0 ≡ true

abbrev pub IsTopByPrice : Act → MatchState → Type 0
IsTopByPrice (rests steps) m =
    let o = m.taker.order in
    top_of o.instrument o.side (taker_rested o.number steps m).book.resting ≡ Some o.number → AllByRecursion (IsBetterThan o) m.book.resting
IsTopByPrice _ m = Unit {0}

-- what comes to rest is open, may rest, and is TOP only by a better price
pub record ComesToRest (steps : List Step) (m : MatchState) : Type 0 where
  pub open_lots : 1 ≤ m.taker.order.leaves
  pub life : may_rest m.taker.order.life ≡ true
  pub top : IsTopByPrice (rests steps) m

-- a trade is fair; what rests is open and may rest; what is cancelled is all or nothing; what waits is a stop; a stop that is
-- triggered is the first that a trade of the message reaches
abbrev pub IsRightAct : Act → MatchState → Type 0
IsRightAct (trades step slot lots) m = IsFair (record { before = m; step = step; slot = slot; lots = lots })
IsRightAct (notes slot lots) m = IsNoted slot m
IsRightAct (rests steps) m = ComesToRest steps m
IsRightAct (cancels why) m = IsAllOrNothing m.taker.order
IsRightAct waits m = m.taker.order.kind ≡ StopLimit
IsRightAct (triggers stop) m = next_stop m ≡ Some stop
