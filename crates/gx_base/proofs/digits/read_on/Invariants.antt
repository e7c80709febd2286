use Rattle.std.proofs.Common.{◌≡◌, min, take}
use Rattle.std.specs.Str.Parse.{digits_value_after}
use Rattle.gx_base.specs.declared.digits.TheConstants.{CEILING}
use Rattle.gx_base.proofs.digits.read_on.Given as goal

abbrev pub invariant-loop-digit : goal.invariant-loop-digit
invariant-loop-digit l = l.number ≡ min CEILING (digits_value_after 10 l.front (take l.digit-index l.digits))
