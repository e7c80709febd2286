use Rattle.price_chunks.specs.Inner.Pool.{chunks_at}
use Rattle.std.proofs.Common.{◌≡◌, ◌+◌, drop}
use Rattle.std.specs.List.{filter}
use Rattle.price_chunks.proofs.side.open_lots.Given as goal
use Rattle.price_chunks.specs.Steps.{is_open_step, open_at}
use Rattle.price_chunks.specs.Inner.Chunks.{flat}

abbrev pub invariant-loop-i : goal.invariant-loop-i
invariant-loop-i l = l.total + open_at (flat (drop l.i (chunks_at l.pool.sides l.side_at))) ≡ open_at (filter (is_open_step l.fn.side l.fn.limit) (flat (chunks_at l.pool.sides l.side_at)))
