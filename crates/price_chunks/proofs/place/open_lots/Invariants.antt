use Rattle.std.proofs.Common.{◌≡◌, ◌+◌, drop}
use Rattle.std.specs.List.{sum_by, filter}
use Rattle.price_chunks.specs.declared.place.Step.{Step}
use Rattle.price_chunks.proofs.place.open_lots.Given as goal
use Rattle.price_chunks.specs.Steps.{is_open_step}

abbrev pub invariant-loop-i : goal.invariant-loop-i
invariant-loop-i l =
    l.total + sum_by (λ (s : Step). s.leaves) (drop l.i l.steps) ≡ sum_by (λ (s : Step). s.leaves) (filter (is_open_step l.fn.side l.fn.limit) l.steps)
