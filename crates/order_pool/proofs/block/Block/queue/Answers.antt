use Rattle.std.proofs.Common.{sym, ap}
use Rattle.order_pool.specs.Inner.Block.{Cell}
use Rattle.order_pool.proofs.Cells.{node-now}
use Rattle.order_pool.proofs.block.Block.queue.Goals as goal

pub returns : goal.returns
returns c = let b = c.self.inside in sym (ap (λ (x : Cell). x.queue) (node-now b.slots b.queues b.past b.free b.freed b.nodes b.ends c.self.invariant c.self.view_is c.args.slot c.index.result.now c.requires c.index.ensures))
