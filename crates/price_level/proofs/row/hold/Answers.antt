use Rattle.std.proofs.Common.{arith}
use Rattle.price_level.specs.declared.row.Held.{Held}
use Rattle.price_level.proofs.Table.{held_used}
use Rattle.price_level.proofs.row.hold.Goals as goal

pub returns-then-queue-len-clause-rows : goal.returns-then-queue-len-clause-rows
returns-then-queue-len-clause-rows c =
    let held : Held = record { row = c.args.row; spot = c.args.spot } in
    held_used c.args.all.now.items c.args.queue held (omega (arith, c.if-queue-len.true, c.len.ensures, c.args.all.now.ok.0))
