use Rattle.order_pool.proofs.Cells.{left, IsBlock-left}
use Rattle.order_pool.proofs.block.Block.leave.Goals as goal

pub invariant_of-self : goal.invariant_of-self
invariant_of-self c = let b = c.self.inside in IsBlock-left b.slots b.queues b.past b.free b.freed b.nodes b.ends c.self.invariant c.self.view_is c.args.slot c.index_mut-node.result.now c.requires.slot_in c.index_mut-node.ensures.value c.pointer_to-here.result c.pointer_to-here.ensures.value

pub returns : goal.returns
returns c = let b = c.self.inside in left b.slots b.queues b.past b.free b.freed b.nodes b.ends c.self.invariant c.self.view_is c.args.slot c.index_mut-node.result.now c.requires.slot_in c.index_mut-node.ensures.value c.pointer_to-here.result c.pointer_to-here.ensures.value
