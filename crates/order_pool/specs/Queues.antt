-- Queues of orders, what the calls of a pool make of them, and what is true of them at every moment.
use Rattle.std.specs.Prelude.{◌≡◌, ℕ, ◌<◌, ◌==◌, not, if◌then◌else◌, List, [], ◌∷◌, ◌++◌, length, map, filter, sum_by, slice_index_or, slice_set, replicate, ◌⊎◌, Option, Some, None, codes}
use Rattle.gx_base.specs.declared.order.Order.{Order}
use Rattle.gx_base.specs.declared.order.Kind.TheVariants.{Limit}
use Rattle.gx_base.specs.Orders.{blank_order}
use Rattle.gx_base.specs.declared.order.Slot.{Slot}

abbrev pub slot_number : Slot → ℕ
slot_number s = s.0

-- a slot and its order
abbrev pub Entry : Type 0
Entry = ℕ × Order

-- what a pool has
pub record Queues : Type 0 where
  -- the greatest number of orders in all queues together
  pub capacity : ℕ
  pub queues : List (List Entry)

abbrev pub empty_queues : ℕ → ℕ → Queues
empty_queues capacity queues = record { capacity = capacity; queues = replicate queues [] }

-- the entries of a queue, first in front
abbrev pub entries_at : List (List Entry) → ℕ → List Entry
entries_at qs q = slice_index_or qs q []

abbrev pub HasSlot : ℕ → List Entry → Type 0
HasSlot i [] = ⊥
HasSlot i (e ∷ es) = (i ≡ e.0) ⊎ HasSlot i es

-- slot i is in queue q
abbrev pub IsIn : Queues → ℕ → ℕ → Type 0
IsIn b i q = (q < length b.queues) × HasSlot i (entries_at b.queues q)

-- slot i is in some queue
abbrev pub IsLive : Queues → ℕ → Type 0
IsLive b i = (q : ℕ) × IsIn b i q

-- how many slots are in queues
abbrev pub live_of : Queues → ℕ
live_of b = sum_by length b.queues

abbrev pub no_order : Order
no_order = blank_order (codes "UNKNOWN")

-- the order of a slot, or `no_order` where it is not there
abbrev pub order_of : ℕ → List Entry → Order
order_of i [] = no_order
order_of i (e ∷ es) = if e.0 == i then e.1 else order_of i es

-- the first slot, if there is one
abbrev pub first_slot : List Entry → Option ℕ
first_slot [] = None
first_slot (e ∷ es) = Some e.0

-- the slot after slot i, if there is one
abbrev pub next_slot : ℕ → List Entry → Option ℕ
next_slot i [] = None
next_slot i (e ∷ es) = if e.0 == i then first_slot es else next_slot i es

-- ---- what the calls make of them

-- an entry comes to the end of queue q
abbrev pub appended : ℕ → Entry → List (List Entry) → List (List Entry)
appended q e qs = slice_set qs q (entries_at qs q ++ e ∷ [])

abbrev pub without_slot : ℕ → List Entry → List Entry
without_slot i es = filter (λ e. not (e.0 == i)) es

-- slot i leaves its queue
abbrev pub removed : ℕ → List (List Entry) → List (List Entry)
removed i qs = map (without_slot i) qs

-- slot i has the order o, in its place
abbrev pub with_entry : ℕ → Order → List Entry → List Entry
with_entry i o es = map (λ e. (e.0, if e.0 == i then o else e.1)) es

-- so much of an order is filled, open and shown
abbrev pub opened : ℕ → ℕ → ℕ → Order → Order
opened filled leaves shown o = record o { filled = filled; leaves = leaves; shown = shown }

-- an order has such a share in a pro rata step
abbrev pub with_share : ℕ → Order → Order
with_share share o = record o { prorated = share }

-- an order as it comes to rest: a limit order without a minimum, of which so much is shown
abbrev pub rested : ℕ → Order → Order
rested shown o = record o { kind = Limit; min = 0; shown = shown }

-- ---- what is true of them

abbrev pub NoRepeat : List Entry → Type 0
NoRepeat [] = Unit {0}
NoRepeat (e ∷ es) = (HasSlot e.0 es → ⊥) × NoRepeat es

-- each slot is in one place at most
pub record SlotsDiffer (b : Queues) : Type 0 where
  pub across : (i q r : ℕ) → IsIn b i q → IsIn b i r → q ≡ r
  pub within : (q : ℕ) → q < length b.queues → NoRepeat (entries_at b.queues q)
  pub below : (i : ℕ) → IsLive b i → i < b.capacity
