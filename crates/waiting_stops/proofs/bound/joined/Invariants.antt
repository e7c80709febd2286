use Rattle.std.proofs.Common.{ℕ, ◌<◌, slice_index_or}
use Rattle.waiting_stops.specs.declared.bound.Bound.{Bound}
use Rattle.waiting_stops.specs.declared.queue.Wait.{Wait}
use Rattle.waiting_stops.specs.Inner.Bounds.{IsCovered}
use Rattle.waiting_stops.proofs.bound.joined.Given as goal

abbrev pub invariant-loop-bound : goal.invariant-loop-bound
invariant-loop-bound l = (k : ℕ) (d : Bound) (w : Wait) → k < l.bound-index → IsCovered (slice_index_or l.bounds k d) w → IsCovered l.all w
