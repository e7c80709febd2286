use Rattle.std.proofs.Common.{◌≡◌, ℕ, ◌<◌, ◌*◌, ◌/◌, length, slice_index_or, vec_len, vec_capacity}
use Rattle.waiting_stops.specs.declared.bound.Bound.{Bound}
use Rattle.waiting_stops.specs.Inner.Bounds.{IsPlaceCovered}
use Rattle.waiting_stops.specs.Inner.Kept.{stops_at, place_at}
use Rattle.waiting_stops.proofs.queue.fill_blocks.Given as goal

abbrev pub invariant-loop-k : goal.invariant-loop-k
invariant-loop-k l = record {
  count : vec_len l.blocks ≡ l.k;
  room : vec_capacity l.blocks ≡ vec_capacity l.fn.blocks;
  covered : (j : ℕ) (d : Bound) → j < 512 * l.k → j < length (stops_at l.places) → IsPlaceCovered (slice_index_or l.blocks.items (j / 512) d) (place_at (stops_at l.places) j);
}
