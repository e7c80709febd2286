use Rattle.std.proofs.Common.{ℕ, ◌<◌, slice_index_or}
use Rattle.waiting_stops.specs.Inner.Bounds.{IsPlaceCovered}
use Rattle.waiting_stops.specs.Inner.Kept.{wait_at, no_place}
use Rattle.waiting_stops.proofs.bound.bound_of.Given as goal

abbrev pub invariant-loop-place : goal.invariant-loop-place
invariant-loop-place l = (k : ℕ) → k < l.place-index → IsPlaceCovered l.bound (wait_at (slice_index_or l.places k no_place))
