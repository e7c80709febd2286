use Rattle.std.proofs.Common.{◌≡◌, [], replicate, vec_len, vec_capacity}
use Rattle.waiting_stops.specs.Inner.Kept.{lists_of, AreKept}
use Rattle.waiting_stops.proofs.stops.empty_queues.Given as goal

abbrev pub invariant-loop-queue : goal.invariant-loop-queue
invariant-loop-queue l = record {
  count : vec_len l.queues ≡ l._queue;
  room : vec_capacity l.queues ≡ l.count;
  kept : AreKept l.capacity l.queues.items;
  none : lists_of l.queues.items ≡ replicate l._queue [];
}
