use Rattle.std.proofs.Common.{◌+◌, ◌-◌, length, vec_capacity}
use Rattle.level_feed.proofs.Merging.{Merged}
use Rattle.level_feed.proofs.settling.merge.Given as goal

abbrev pub invariant-loop-at : goal.invariant-loop-at
invariant-loop-at l = Merged l.settled l.changes l.at l.next l.into.items (vec_capacity l.initial.into) (vec_capacity l.into)

abbrev pub decreases-loop-at : goal.decreases-loop-at
decreases-loop-at l = (length l.settled - l.at) + (length l.changes - l.next)
