use Rattle.order_pool.proofs.Cells.{order-now}
use Rattle.order_pool.proofs.block.Block.order.Goals as goal

pub returns : goal.returns
returns c = let b = c.self.inside in order-now b.slots b.queues b.past b.free b.freed b.nodes b.ends c.self.invariant c.self.view_is c.args.slot c.index.result.now c.requires c.index.ensures
