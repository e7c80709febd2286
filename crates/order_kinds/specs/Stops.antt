-- Stop limit orders: they wait until a trade reaches their stop price, and are then entered as limit orders. Our own rule.
use Rattle.std.specs.Prelude.{ℕ, ◌+◌, List, [], ◌∷◌, length, Option, Some, None, pos}
use Prim.Native.Nat.{zero, suc}
use Rattle.gx_base.specs.declared.price.Price.{Price}
use Rattle.gx_base.specs.declared.order.Kind.{Kind}
use Rattle.gx_base.specs.declared.order.Kind.TheVariants.{Limit, Market, StopLimit}
use Rattle.gx_base.specs.declared.order.Order.{Order}
use Rattle.gx_base.specs.declared.event.Event.{Event}
use Rattle.gx_base.specs.declared.event.Event.TheVariants.{Fill, Triggered}
use Rattle.step_config.specs.declared.step.Step.{Step}
use Rattle.plain_book.specs.declared.entry.Entry.{Entry}
pub use Rattle.plain_book.specs.Waiting.{stop_end, is_reached_by, reached_stops}
use Rattle.plain_book.specs.Book.{book_without, book_waited}
use Rattle.plain_book.specs.Match.{MatchState, report, lengthened}
use Rattle.order_kinds.specs.Entering.{entered}

-- ---- the range of a message

-- the least and the greatest price of these and of all fills of these events, or none where there is no fill
abbrev pub fill_range_from : Option (Price × Price) → List Event → Option (Price × Price)
fill_range_from range [] = range
fill_range_from range (Fill head o lots price step trade ∷ events) = fill_range_from (lengthened price range) events
fill_range_from range (_ ∷ events) = fill_range_from range events

abbrev pub fill_range : List Event → Option (Price × Price)
fill_range events = fill_range_from None events

-- ---- stops that are reached

abbrev pub first_entry : List Entry → Option Entry
first_entry [] = None
first_entry (e ∷ es) = Some e

-- the first waiting stop of an instrument that a range reaches, if there is one
abbrev pub first_reached : ℕ → Option (Price × Price) → List Entry → Option Entry
first_reached instrument None waiting = None
first_reached instrument (Some range) waiting = first_entry (reached_stops instrument range waiting)

-- the next stop that is triggered: the first that the fills of the message so far reach
abbrev pub next_stop : MatchState → Option Entry
next_stop m = first_reached m.taker.order.instrument (fill_range m.events) m.book.waiting

-- ---- triggering

-- a triggered stop is a limit order
abbrev pub as_triggered : Order → Order
as_triggered o = record o { kind = Limit; trigger = record { 0 = pos 0 } }

-- a stop waits no more, is reported, and is the order that comes in next
abbrev pub stop_triggered : Entry → MatchState → MatchState
stop_triggered e m =
    let o = as_triggered e.order in
    report Triggered o (record m { book = book_without e.slot m.book; taker = record { order = o; time = m.taker.time; range = None } })

-- The name under which an order comes to rest or waits, by how many orders of the message came in before it and by its number. Read it as
-- *its number*, which it is in the state of the engine (`by_number`). A core names an order by the slot that its book gives, so the rules
-- take the name from outside.
abbrev pub Naming : Type 0
Naming = ℕ → ℕ → ℕ

abbrev pub by_number : Naming
by_number before number = number

-- a stop is triggered, and entered
abbrev pub stop_entered : Option Entry → (ℕ → ℕ) → List Step → MatchState → MatchState
stop_entered None name steps m = m
stop_entered (Some e) name steps m = entered (name e.order.number) steps (stop_triggered e m)

-- the next stop, so many times
abbrev pub stop_rounds : ℕ → Naming → List Step → MatchState → MatchState
stop_rounds zero naming steps m = m
stop_rounds (suc n) naming steps m = let before = stop_rounds n naming steps m in stop_entered (next_stop before) (naming n) steps before

-- Until none is reached, the next stop is triggered and entered: the laws `stops_go_on` and `stops_end` say it so. Each round
-- takes one stop out, so as many rounds as stops wait are enough.
abbrev pub stops_entered : Naming → List Step → MatchState → MatchState
stops_entered naming steps m = stop_rounds (length m.book.waiting) naming steps m

-- ---- an order comes in

-- an order is entered, and then each stop that a trade reaches
abbrev pub entered_with_stops : Naming → List Step → MatchState → MatchState
entered_with_stops naming steps m =
    stops_entered (λ before. naming (before + 1)) steps (entered (naming 0 m.taker.order.number) steps m)

-- a stop waits after the stops of its instrument
abbrev pub taker_waiting : ℕ → MatchState → MatchState
taker_waiting name m = record m { book = book_waited name m.taker.order m.book }

-- a stop limit order waits, any other is entered
abbrev pub come_in_as : Kind → Naming → List Step → MatchState → MatchState
come_in_as StopLimit naming steps m = taker_waiting (naming 0 m.taker.order.number) m
come_in_as Limit naming steps m = entered_with_stops naming steps m
come_in_as Market naming steps m = entered_with_stops naming steps m

abbrev pub come_in : Naming → List Step → MatchState → MatchState
come_in naming steps m = come_in_as m.taker.order.kind naming steps m
