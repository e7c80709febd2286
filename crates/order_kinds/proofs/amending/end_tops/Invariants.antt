use Rattle.std.proofs.Common.{◌≡◌, map}
use Rattle.order_kinds.proofs.EndedTops.{untopped_before}
use Rattle.order_kinds.proofs.amending.end_tops.Given as goal

-- TOP has ended on the instruments before this one that have no TOP step
abbrev pub invariant-loop-instrument : goal.invariant-loop-instrument
invariant-loop-instrument g l =
    let b = g.B.Book.book l.fn.book in
    g.B.Book.book l.book ≡ record b { resting = map (untopped_before l.product l.instrument) b.resting }
