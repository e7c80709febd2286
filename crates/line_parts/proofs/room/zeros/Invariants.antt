use Rattle.std.proofs.Common.{◌≡◌, vec_len, vec_capacity}
use Rattle.line_parts.proofs.room.zeros.Given as goal

abbrev pub invariant-loop : goal.invariant-loop
invariant-loop l = (vec_len l.bytes ≡ l.counter) × (vec_capacity l.bytes ≡ l.count)
