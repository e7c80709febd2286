use Rattle.std.proofs.Common.{◌≡◌, ◌+◌, drop}
use Rattle.match_journal.specs.Classes.{first_difference}
use Rattle.match_journal.proofs.class.common_front.Given as goal

abbrev pub invariant-loop-i : goal.invariant-loop-i
invariant-loop-i l = first_difference l.a l.b ≡ l.i + first_difference (drop l.i l.a) (drop l.i l.b)
