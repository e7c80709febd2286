use Rattle.std.proofs.Common.{◌≡◌, ◌*◌, ◌^◌, min}
use Rattle.gx_base.specs.declared.digits.TheConstants.{CEILING}
use Rattle.gx_base.proofs.price.with_zeros.Given as goal

abbrev pub invariant-loop : goal.invariant-loop
invariant-loop l = l.longer ≡ min CEILING (l.number * 10 ^ l.counter)
