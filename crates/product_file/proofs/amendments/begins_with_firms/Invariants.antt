use Rattle.std.proofs.Common.{◌≡◌, drop, bytes_eq}
use Rattle.product_file.specs.Amendments.{begins_with}
use Rattle.product_file.proofs.amendments.begins_with_firms.Given as goal

-- the firms from this number on decide
abbrev pub invariant-loop-number : goal.invariant-loop-number
invariant-loop-number l = begins_with bytes_eq l.before.firms l.after.firms ≡ begins_with bytes_eq (drop l.number l.before.firms) (drop l.number l.after.firms)
