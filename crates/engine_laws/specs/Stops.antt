-- What the laws of stops speak of: the stops that still wait, and the prices of a message's fills.
use Rattle.std.specs.Prelude.{◌≡◌, ℕ, false, List, [], ◌∷◌}
use Rattle.std.specs.List.{AllByRecursion}
use Rattle.gx_base.specs.declared.price.Price.{Price}
use Rattle.gx_base.specs.declared.event.Event.{Event}
use Rattle.gx_base.specs.declared.event.Event.TheVariants.{Fill}
use Rattle.plain_book.specs.declared.entry.Entry.{Entry}
use Rattle.order_kinds.specs.OrderRules.{is_reached}
use Rattle.order_kinds.specs.State.{State}

-- a trade of this instrument at this price does not reach the stop price of a stop
abbrev pub IsUnreached : ℕ → Price → Entry → Type 0
IsUnreached instrument price e = e.order.instrument ≡ instrument → is_reached e.order.side e.order.trigger price ≡ false

-- none of the fills among these events, which are fills of one instrument, reaches the stop price of a stop that waits
abbrev pub NoStopIsLeft : ℕ → List Event → List Entry → Type 0
NoStopIsLeft instrument [] waiting = Unit {0}
NoStopIsLeft instrument (Fill head o lots price step trade ∷ events) waiting =
    AllByRecursion (IsUnreached instrument price) waiting × NoStopIsLeft instrument events waiting
NoStopIsLeft instrument (_ ∷ events) waiting = NoStopIsLeft instrument events waiting

-- a message, whose fills are of one instrument, leaves no such stop
abbrev pub LeavesNoStop : ℕ → State × List Event → Type 0
LeavesNoStop instrument after = NoStopIsLeft instrument after.1 after.0.book.waiting
