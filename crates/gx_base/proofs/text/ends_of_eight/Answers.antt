use Rattle.std.proofs.Common.{refl}
use Rattle.gx_base.proofs.Ends.{joined}
use Rattle.gx_base.proofs.text.ends_of_eight.Goals as goal

pub returns : goal.returns
returns c = joined 8 16 c.args.bytes.now c.requires refl
