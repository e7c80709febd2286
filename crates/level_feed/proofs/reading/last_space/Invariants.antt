use Rattle.std.proofs.Common.{◌≤◌, length, drop}
use Rattle.gx_base.proofs.NumberTexts.{Lacks}
use Rattle.level_feed.proofs.reading.last_space.Given as goal

abbrev pub invariant-loop-end : goal.invariant-loop-end
invariant-loop-end l = record { within : l.end ≤ length l.text; lacks : Lacks 32 (drop l.end l.text) }

abbrev pub decreases-loop-end : goal.decreases-loop-end
decreases-loop-end l = l.end
