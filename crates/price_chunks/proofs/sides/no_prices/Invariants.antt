use Rattle.std.proofs.Common.{◌≡◌, None, replicate, vec_capacity}
use Rattle.price_chunks.proofs.sides.no_prices.Given as goal

abbrev pub invariant-loop : goal.invariant-loop
invariant-loop l = (l.prices.items ≡ replicate l.counter None) × (vec_capacity l.prices ≡ l.count)
