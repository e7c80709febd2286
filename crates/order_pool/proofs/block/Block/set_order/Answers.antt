use Rattle.std.proofs.Common.{refl}
use Rattle.order_pool.proofs.Cells.{order-changed, IsBlock-kept}
use Rattle.order_pool.proofs.block.Block.set_order.Goals as goal

pub invariant_of-self : goal.invariant_of-self
invariant_of-self c =
    let b = c.self.inside in
    let n = c.index_mut.result.now in
    IsBlock-kept b.slots b.queues b.past b.free b.freed b.nodes b.ends c.self.invariant c.self.view_is c.args.slot n (record n { order = c.args.order.now }) c.requires c.index_mut.ensures.value refl refl refl

pub returns : goal.returns
returns c = let b = c.self.inside in order-changed b.slots b.queues b.past b.free b.freed b.nodes b.ends c.self.invariant c.self.view_is c.args.slot c.index_mut.result.now c.args.order.now c.requires c.index_mut.ensures.value
