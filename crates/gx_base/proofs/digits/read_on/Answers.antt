use Rattle.std.proofs.Common.{arith}
use Rattle.std.proofs.lemmas.Bool.Decides.{nat_tests}
use Rattle.gx_base.specs.declared.digits.TheConstants.{CEILING}
use Rattle.gx_base.proofs.Capped.{capped_more, digit_at}
use Rattle.gx_base.proofs.digits.read_on.Goals as goal

pub loop-digit-preserved : goal.loop-digit-preserved
loop-digit-preserved c = let h = capped_more CEILING c.args.front c.args.digits.now c.loop-digit.digit-index c.loop-digit.number (digit_at c.args.digits.now c.loop-digit.digit-index c.requires.digits c.loop-digit-test.true) c.loop-digit-test.true c.loop-digit.invariant in grind (arith, nat_tests)
