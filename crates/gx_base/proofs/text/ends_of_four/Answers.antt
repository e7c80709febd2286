use Rattle.std.proofs.Common.{refl}
use Rattle.gx_base.proofs.Ends.{joined}
use Rattle.gx_base.proofs.text.ends_of_four.Goals as goal

pub returns : goal.returns
returns c = joined 4 8 c.args.bytes.now c.requires refl
