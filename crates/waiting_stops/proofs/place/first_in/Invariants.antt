use Rattle.std.proofs.Common.{◌≡◌, ℕ, ◌<◌, false, slice_index_or}
use Rattle.waiting_stops.proofs.Places.{is_place}
use Rattle.waiting_stops.specs.Waits.{is_reached_wait}
use Rattle.waiting_stops.specs.Inner.Kept.{wait_at, no_place}
use Rattle.waiting_stops.proofs.place.first_in.Given as goal

abbrev pub invariant-loop-place : goal.invariant-loop-place
invariant-loop-place l = (k : ℕ) → k < l.place-index → is_place (is_reached_wait (l.fn.least, l.fn.greatest)) (wait_at (slice_index_or l.places k no_place)) ≡ false
