use Rattle.std.proofs.Common.{◌≡◌, ℕ, ◌<◌, ◌≤◌, ◌-◌, length, true, false}
use Rattle.book_order.specs.Levels.{is_better}
use Rattle.price_chunks.proofs.place.place_by_halves.Given as goal
use Rattle.price_chunks.specs.Steps.{step_at}

abbrev pub invariant-loop-low : goal.invariant-loop-low
invariant-loop-low l = record {
  apart : l.low ≤ l.high;
  within : l.high ≤ length l.steps;
  worse : (k : ℕ) → k < l.low → is_better l.side l.price.0 (step_at l.steps k).price.0 ≡ true;
  rest : (k : ℕ) → l.high ≤ k → k < length l.steps → is_better l.side l.price.0 (step_at l.steps k).price.0 ≡ false;
}

abbrev pub decreases-loop-low : goal.decreases-loop-low
decreases-loop-low l = l.high - l.low
