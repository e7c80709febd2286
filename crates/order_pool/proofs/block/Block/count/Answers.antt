use Rattle.std.proofs.Common.{arith}
use Rattle.order_pool.proofs.Cells.{queue-in, count-now, unused-count}
use Rattle.order_pool.proofs.block.Block.count.Goals as goal

pub returns-then-queue-len : goal.returns-then-queue-len
returns-then-queue-len c =
    let b = c.self.inside in
    count-now b.slots b.queues b.past b.free b.freed b.nodes b.ends c.self.invariant c.self.view_is c.args.queue c.index.result.now (omega (arith, c.if-queue-len.true, c.len.ensures, b.ends.ok.0)) c.index.ensures

pub returns-else-queue-len : goal.returns-else-queue-len
returns-else-queue-len c =
    let b = c.self.inside in
    unused-count b.slots b.queues b.past b.free b.freed b.nodes b.ends c.self.invariant c.self.view_is c.args.queue (queue-in b.slots b.queues b.past b.free b.freed b.nodes b.ends c.self.invariant c.self.view_is c.args.queue c.requires) (omega (arith, c.if-queue-len.false, c.len.ensures, b.ends.ok.0))
