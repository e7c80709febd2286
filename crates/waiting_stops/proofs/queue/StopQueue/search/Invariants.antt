use Rattle.std.proofs.Common.{◌≡◌, ◌*◌, [], filter, take}
use Rattle.waiting_stops.specs.Waits.{is_reached_wait}
use Rattle.waiting_stops.specs.Inner.Kept.{stops_at, waits_in}
use Rattle.waiting_stops.proofs.queue.StopQueue.search.Given as goal

abbrev pub invariant-loop-k : goal.invariant-loop-k
invariant-loop-k l = filter (is_reached_wait (l.fn.least, l.fn.greatest)) (waits_in (take (512 * l.k) (stops_at l.self.places.items))) ≡ []
