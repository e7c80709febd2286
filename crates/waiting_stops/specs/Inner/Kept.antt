-- The stops of an instrument in their places, and the bounds on them.
use Rattle.std.specs.Prelude.{◌≡◌, ℕ, ◌+◌, ◌*◌, ◌/◌, ◌<◌, ◌≤◌, ◌^◌, ◌==◌, true, false, Bool, List, [], ◌∷◌, map, length, min, slice_index_or, Option, Some, None, option_map, pos, vec_capacity}
use Rattle.std.specs.List.{AllByRecursion}
use Rattle.waiting_stops.specs.declared.bound.Bound.{Bound}
use Rattle.waiting_stops.specs.declared.place.Place.{Place}
use Rattle.waiting_stops.specs.declared.queue.StopQueue.{StopQueue}
use Rattle.waiting_stops.specs.declared.queue.Wait.{Wait}
use Rattle.waiting_stops.specs.Inner.Bounds.{IsCovered, IsPlaceCovered}

-- ---- places

-- the stop that stands in a place
abbrev pub wait_at : Place → Option Wait
wait_at p = option_map (λ side. record { slot = p.slot; side = side; trigger = p.trigger }) p.side

abbrev pub no_place : Place
no_place = record { slot = record { 0 = 0 }; side = None; trigger = record { 0 = pos 0 } }

-- the stop of each place, if one stands there
abbrev pub stops_at : List Place → List (Option Wait)
stops_at places = map wait_at places

-- the stops that stand in these places
abbrev pub waits_in : List (Option Wait) → List Wait
waits_in [] = []
waits_in (None ∷ places) = waits_in places
waits_in (Some w ∷ places) = w ∷ waits_in places

abbrev pub place_at : List (Option Wait) → ℕ → Option Wait
place_at places k = slice_index_or places k None

-- the stop of this slot stands in the place
abbrev pub is_place_of : ℕ → Option Wait → Bool
is_place_of slot None = false
is_place_of slot (Some w) = w.slot.0 == slot

-- the stop of this slot stands in this place
pub record IsPlaceOf (slot : ℕ) (places : List (Option Wait)) (k : ℕ) : Type 0 where
  pub within : k < length places
  pub is : is_place_of slot (place_at places k) ≡ true

-- ---- bounds

-- how many places share a bound
abbrev pub block : ℕ
block = 512

-- the bound of each block covers the stops of the block, and there are as many blocks as the places need
pub record AreBlocks (blocks : List Bound) (places : List (Option Wait)) : Type 0 where
  pub enough : length places ≤ block * length blocks
  pub few : block * length blocks < length places + block
  pub covered : (k : ℕ) (d : Bound) → k < length places → IsPlaceCovered (slice_index_or blocks (k / block) d) (place_at places k)

-- the bound covers the stops of all places
pub record IsBoundOf (bound : Bound) (places : List (Option Wait)) : Type 0 where
  pub covered : (k : ℕ) → k < length places → IsPlaceCovered bound (place_at places k)

-- the bound covers what any of the bounds covers
pub record IsJoined (bound : Bound) (bounds : List Bound) : Type 0 where
  pub covered : (k : ℕ) (d : Bound) (w : Wait) → k < length bounds → IsCovered (slice_index_or bounds k d) w → IsCovered bound w

-- the bound of the block of the next place covers one stop more
pub record AreWidened (old new : List Bound) (next : ℕ) (wait : Wait) : Type 0 where
  pub enough : next + 1 ≤ block * length new
  pub few : block * length new < next + 1 + block
  pub added : (d : Bound) → IsCovered (slice_index_or new (next / block) d) wait
  pub others : (k : ℕ) (d : Bound) (w : Wait) → k < length old → IsCovered (slice_index_or old k d) w → IsCovered (slice_index_or new k d) w

-- ---- the queue of an instrument

abbrev pub waits_of : StopQueue → List Wait
waits_of q = waits_in (stops_at q.places.items)

-- what is true of a queue at every moment
pub record IsQueue (q : StopQueue) : Type 0 where
  pub blocks : AreBlocks q.blocks.items (stops_at q.places.items)
  pub whole : IsBoundOf q.whole (stops_at q.places.items)
  pub count : q.waiting ≡ length (waits_of q)
  pub roomy : vec_capacity q.places < 2 ^ 32
  pub blocks_roomy : vec_capacity q.blocks ≡ vec_capacity q.places / block + 1

-- ---- the queues of all instruments

abbrev pub lists_of : List StopQueue → List (List Wait)
lists_of queues = map waits_of queues

-- how many places there are for so many stops: at least a ninth of them is empty, so that the empty ones seldom go
abbrev pub room : ℕ → ℕ
room capacity = min (capacity + capacity / 8 + 1) 4294967295

-- what is true of each queue at every moment
pub record HasRoom (capacity : ℕ) (q : StopQueue) : Type 0 where
  pub queue : IsQueue q
  pub roomy : vec_capacity q.places ≡ room capacity

abbrev pub AreKept : ℕ → List StopQueue → Type 0
AreKept capacity queues = AllByRecursion (HasRoom capacity) queues
