use Rattle.std.proofs.Common.{arith}
use Rattle.std.proofs.lemmas.Bool.Decides.{nat_tests}
use Rattle.gx_base.specs.declared.digits.TheConstants.{CEILING}
use Rattle.gx_base.proofs.Capped.{one_zero_more}
use Rattle.gx_base.proofs.price.with_zeros.Goals as goal

pub loop-preserved : goal.loop-preserved
loop-preserved c = let h = one_zero_more CEILING c.args.number c.loop.counter c.loop.longer c.loop.invariant in grind (arith, nat_tests)
