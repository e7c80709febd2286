-- The line of the resting orders: who may come to stand before whom.
use Rattle.std.specs.Prelude.{◌≡◌, ◌≢◌, ℕ, ◌<◌, List, [], ◌∷◌, ◌⊎◌}
use Rattle.gx_base.specs.declared.order.Order.{Order}
use Rattle.gx_base.specs.declared.event.Event.{Event}
use Rattle.gx_base.specs.declared.event.Event.TheVariants.{Fill, Replaced}
use Rattle.plain_book.specs.declared.entry.Entry.{Entry}
use Rattle.plain_book.specs.Orders.{HasSlot, order_of}
use Rattle.order_kinds.specs.State.{State}

-- among these orders the one of number a stands before that of number b
abbrev pub StandsBefore : ℕ → ℕ → List Entry → Type 0
StandsBefore a b [] = ⊥
StandsBefore a b (e ∷ es) = ((e.slot ≡ a) × HasSlot b es) ⊎ StandsBefore a b es

-- an order that rested is replaced by one of a greater quantity, or of another price
abbrev pub LosesPlace : Order → Order → Type 0
LosesPlace was now = (was.quantity < now.quantity) ⊎ (was.price ≢ now.price)

-- A report says why b may come to stand before a, where these orders rested before the message: nothing of a is shown any more, or one of
-- them was replaced so that it loses its place.
abbrev pub LetsPass : List Entry → ℕ → ℕ → Event → Type 0
LetsPass es a b (Fill head o lots price step trade) = (o.number ≡ a) × (o.shown ≡ 0)
LetsPass es a b (Replaced head o old before) = ((o.number ≡ a) ⊎ (o.number ≡ b)) × LosesPlace (order_of o.number es) o
LetsPass es a b _ = ⊥

-- some report is such
abbrev pub HasReport : (Event → Type 0) → List Event → Type 0
HasReport P [] = ⊥
HasReport P (event ∷ events) = P event ⊎ HasReport P events

-- Nobody is overtaken: of two orders that rest before and after a message, the one that stood before the other one still does, but for
-- what its reports say.
abbrev pub KeepsTheLine : State → State × List Event → Type 0
KeepsTheLine old step =
    (a b : ℕ) → StandsBefore a b old.book.resting → HasSlot a step.0.book.resting → HasSlot b step.0.book.resting
    → StandsBefore a b step.0.book.resting ⊎ HasReport (LetsPass old.book.resting a b) step.1
