use Rattle.std.proofs.Common.{◌≡◌, ℕ, vec_len, vec_capacity}
use Rattle.order_pool.specs.Inner.Block.{no_ends, ends_or}
use Rattle.order_pool.proofs.node.write_ends.Given as goal

abbrev pub invariant-loop-queue : goal.invariant-loop-queue
invariant-loop-queue l = record {
  same : (q : ℕ) → ends_or (no_ends l.past) l.ends.items q ≡ ends_or (no_ends l.past) l.fn.ends.items q;
  count : vec_len l.ends ≡ l._queue;
  room : vec_capacity l.ends ≡ vec_capacity l.fn.ends;
}
