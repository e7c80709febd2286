use Rattle.std.proofs.Common.{arith}
use Rattle.match_journal.proofs.Texts.{fd_end}
use Rattle.match_journal.proofs.class.common_front.Goals as goal

pub returns : goal.returns
returns c = record { value = fd_end c.args.a.now c.args.b.now c.min-most.result c.loop-i.i c.min-most.ensures (omega arith) (omega arith) c.loop-i.invariant }
