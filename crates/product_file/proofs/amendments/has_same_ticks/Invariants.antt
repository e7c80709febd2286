use Rattle.std.proofs.Common.{◌≡◌, drop}
use Rattle.product_file.specs.Amendments.{are_same, has_same_tick}
use Rattle.product_file.proofs.amendments.has_same_ticks.Given as goal

-- the rules from this number on decide
abbrev pub invariant-loop-number : goal.invariant-loop-number
invariant-loop-number l = are_same has_same_tick l.before l.after ≡ are_same has_same_tick (drop l.number l.before) (drop l.number l.after)
