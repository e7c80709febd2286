use Rattle.std.proofs.Common.{arith}
use Rattle.order_pool.proofs.Starts.{has_free, taken_again, taken_anew}
use Rattle.order_pool.proofs.pool.take_slot.Goals as goal

pub take-requires : goal.take-requires
take-requires c = has_free c.args.block.now c.args.block.now c.requires.pool.0 c.requires.pool.1 0 c.args.order.now (omega (arith, c.freed.ensures, c.if-freed-gt0.true))

pub returns-then-freed-gt0-clause-taken : goal.returns-then-freed-gt0-clause-taken
returns-then-freed-gt0-clause-taken c = taken_again c.args.block.now c.take.new.self c.requires.pool.0 c.requires.pool.1 c.take.result c.args.order.now (omega (arith, c.freed.ensures, c.if-freed-gt0.true)) c.take.ensures.slot c.take.ensures.block

pub returns-else-freed-gt0-clause-taken : goal.returns-else-freed-gt0-clause-taken
returns-else-freed-gt0-clause-taken c =
    let old = c.args.block.now in (
      c.requires.pool.0,
      taken_anew old c.lend.new.self c.requires.pool.0 c.requires.pool.1 c.lend.result c.args.order.now (omega (arith, c.freed.ensures, c.if-freed-gt0.false, c.requires.some)) c.lend.ensures.slot c.lend.ensures.block,
    )
