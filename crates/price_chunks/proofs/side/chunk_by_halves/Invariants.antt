use Rattle.price_chunks.specs.Inner.Pool.{chunks_at}
use Rattle.std.proofs.Common.{◌≡◌, ℕ, ◌+◌, ◌-◌, ◌<◌, ◌≤◌, length, take, true, false}
use Rattle.std.specs.List.{AllByRecursion}
use Rattle.price_chunks.specs.declared.place.Step.{Step}
use Rattle.price_chunks.proofs.side.chunk_by_halves.Given as goal
use Rattle.price_chunks.specs.Steps.{step_at, is_worse_step}
use Rattle.price_chunks.specs.Inner.Chunks.{flat, chunk_at}

abbrev pub invariant-loop-low : goal.invariant-loop-low
invariant-loop-low l = record {
  apart : l.low ≤ l.high;
  within : l.high + 1 ≤ length (chunks_at l.pool.sides l.side_at);
  before : AllByRecursion (λ (s : Step). is_worse_step l.side l.price s ≡ true) (flat (take l.low (chunks_at l.pool.sides l.side_at)));
  here : (n : ℕ) → l.high + 1 < length (chunks_at l.pool.sides l.side_at) → n + 1 ≡ length (chunk_at (chunks_at l.pool.sides l.side_at) l.high) → is_worse_step l.side l.price (step_at (chunk_at (chunks_at l.pool.sides l.side_at) l.high) n) ≡ false;
}

abbrev pub decreases-loop-low : goal.decreases-loop-low
decreases-loop-low l = l.high - l.low
