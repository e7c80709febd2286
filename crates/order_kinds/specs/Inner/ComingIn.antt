-- What an order is given to come in, and what that comes to.
use Rattle.std.specs.Prelude.{◌≡◌, ℕ, ◌+◌, ◌*◌, ◌≤◌, true, List, length, None}
use Rattle.gx_base.specs.declared.order.Kind.TheVariants.{StopLimit}
use Rattle.gx_base.specs.declared.order.Desk.{Desk}
use Rattle.gx_base.specs.declared.order.Taker.{Taker}
use Rattle.gx_base.specs.declared.event.Event.{Event}
use Rattle.plain_book.specs.Book.{Book}
use Rattle.plain_book.specs.Match.{match_start}
use Rattle.plain_book.specs.Matches.{CanTrade}
use Rattle.order_kinds.specs.Instruments.{ListedInstrument}
use Rattle.order_kinds.specs.State.{State}
use Rattle.order_kinds.specs.NewOrders.{may_rest}
use Rattle.order_kinds.specs.Stops.{Naming, come_in}
use Rattle.order_kinds.specs.Accepting.{after_match}
use Rattle.order_kinds.specs.Inner.Apart.{ComeApart}
use Rattle.order_kinds.specs.Inner.Taking.{CanRest}
use Rattle.order_kinds.specs.Inner.Triggering.{CanWait, HasRoomToComeIn}

-- an order that no rule refused can wait if it is a stop limit order, or else be entered, and rest where its life lets it
pub record CanComeIn (b : Book) (desk : Desk) (taker : Taker) : Type 0 where
  pub waits : taker.order.kind ≡ StopLimit → CanWait b taker.order
  pub can : CanTrade b desk taker
  pub rests : (taker.order.kind ≡ StopLimit → ⊥) → may_rest taker.order.life ≡ true → CanRest b taker.order
  pub some : 1 ≤ taker.order.leaves
  pub no_range : taker.range ≡ None
  pub room : HasRoomToComeIn b desk

-- it comes in, and the price of its last trade becomes that of its instrument
abbrev pub brought_in : Naming → ListedInstrument → Taker → State → State × List Event
brought_in naming instrument taker state =
    after_match instrument.number state (come_in naming instrument.rule.steps (match_start state.book state.desk taker))

abbrev pub BroughtApart : ListedInstrument → Taker → State → Naming → Type 0
BroughtApart instrument taker state naming = ComeApart naming instrument.rule.steps (match_start state.book state.desk taker)

-- how many reports and trades that can make
abbrev pub most_reports : Taker → Book → ℕ
most_reports taker b = 2 * taker.order.leaves + 1 + 2000000 * length b.waiting
