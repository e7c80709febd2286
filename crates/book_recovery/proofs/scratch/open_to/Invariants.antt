use Rattle.std.proofs.Common.{◌≡◌, vec_len, vec_capacity}
use Rattle.book_recovery.proofs.scratch.open_to.Given as goal

abbrev pub invariant-loop : goal.invariant-loop
invariant-loop l = (vec_len l.payload ≡ l.counter) × (vec_capacity l.payload ≡ vec_capacity l.fn.payload)
