use Rattle.std.proofs.Common.{arith}
use Rattle.gx_base.proofs.Capped.{short_below}
use Rattle.gx_base.proofs.digits.read_digits.Goals as goal

pub overflow_cast-result : goal.overflow_cast-result
overflow_cast-result c = omega (arith, short_below c.args.digits.now c.requires.digits c.requires.short)

pub returns : goal.returns
returns c = omega (arith, short_below c.args.digits.now c.requires.digits c.requires.short)
