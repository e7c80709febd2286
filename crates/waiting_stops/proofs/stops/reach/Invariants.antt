use Rattle.std.proofs.Common.{◌≡◌, vec_len, vec_capacity}
use Rattle.waiting_stops.proofs.stops.reach.Given as goal

abbrev pub invariant-loop : goal.invariant-loop
invariant-loop l = (vec_len l.spots ≡ l.counter) × (vec_capacity l.spots ≡ vec_capacity l.fn.spots)
