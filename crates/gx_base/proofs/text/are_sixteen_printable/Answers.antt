use Rattle.std.proofs.Common.{arith}
use Rattle.gx_base.proofs.Blocks.{tried}
use Rattle.gx_base.proofs.text.are_sixteen_printable.Goals as goal

pub returns : goal.returns
returns c = tried 16 c.args.block c.fits-block.0 (omega arith)
