use Rattle.std.proofs.Common.{◌≡◌, vec_len, vec_capacity}
use Rattle.waiting_stops.proofs.place.note_spots.Given as goal

abbrev pub invariant-loop-k : goal.invariant-loop-k
invariant-loop-k l = record { long : vec_len l.spots ≡ vec_len l.fn.spots; room : vec_capacity l.spots ≡ vec_capacity l.fn.spots }
