use Rattle.std.proofs.Common.{◌≡◌, drop}
use Rattle.product_file.specs.Amendments.{are_same, is_same_listed}
use Rattle.product_file.proofs.amendments.has_same_listed.Given as goal

-- the instruments from this number on decide
abbrev pub invariant-loop-number : goal.invariant-loop-number
invariant-loop-number l = are_same is_same_listed l.before.instruments l.after.instruments ≡ are_same is_same_listed (drop l.number l.before.instruments) (drop l.number l.after.instruments)
