-- The stops that wait, of each instrument in the order in which they came, and those that trades reach. Our own rule.
use Rattle.std.specs.Prelude.{◌≢◌, ℕ, ◌==◌, Bool, not, List, [], ◌∷◌, ◌++◌, filter, replicate, slice_index_or, Option, Some, None}
use Rattle.std.specs.List.{AllByRecursion}
use Rattle.gx_base.specs.declared.price.Price.{Price}
use Rattle.gx_base.specs.declared.order.Slot.{Slot}
use Rattle.book_order.specs.Reached.{is_in_reach}
use Rattle.waiting_stops.specs.declared.queue.Wait.{Wait}

pub record StopLists : Type 0 where
  -- the greatest number of stops of an instrument
  pub capacity : ℕ
  -- the stops of each instrument, the one that came first in front
  pub lists : List (List Wait)

abbrev pub no_stops : ℕ → ℕ → StopLists
no_stops capacity instruments = record { capacity = capacity; lists = replicate instruments [] }

-- the stops of this instrument
abbrev pub list_at : List (List Wait) → ℕ → List Wait
list_at lists instrument = slice_index_or lists instrument []

abbrev pub slot_number : Slot → ℕ
slot_number slot = slot.0

-- ---- what is asked of the stops of an instrument

-- some trade price of the range reaches the stop
abbrev pub is_reached_wait : Price × Price → Wait → Bool
is_reached_wait range w = is_in_reach range w.side w.trigger

abbrev pub first_slot : List Wait → Option ℕ
first_slot [] = None
first_slot (w ∷ ws) = Some w.slot.0

-- no slot is there twice
abbrev pub SlotsDiffer : List Wait → Type 0
SlotsDiffer [] = Unit {0}
SlotsDiffer (w ∷ ws) = AllByRecursion (λ (v : Wait). v.slot.0 ≢ w.slot.0) ws × SlotsDiffer ws

-- ---- what they become

-- a stop comes
abbrev pub with_wait : Wait → List Wait → List Wait
with_wait w ws = ws ++ w ∷ []

-- the stop of a slot leaves
abbrev pub without_slot : ℕ → List Wait → List Wait
without_slot slot ws = filter (λ w. not (w.slot.0 == slot)) ws
