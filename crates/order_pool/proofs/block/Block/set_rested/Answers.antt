use Rattle.std.proofs.Common.{refl, ap, ◌∙◌}
use Rattle.gx_base.specs.declared.order.Order.{Order}
use Rattle.order_pool.specs.Inner.Block.{with_order}
use Rattle.order_pool.specs.Queues.{rested}
use Rattle.order_pool.proofs.Cells.{order-now, order-changed, IsBlock-kept}
use Rattle.order_pool.proofs.block.Block.set_rested.Goals as goal

pub invariant_of-self : goal.invariant_of-self
invariant_of-self c =
    let b = c.self.inside in
    let a = c.args in
    let n = c.index_mut.result.now in
    IsBlock-kept b.slots b.queues b.past b.free b.freed b.nodes b.ends c.self.invariant c.self.view_is a.slot n (record n { order = rested a.shown n.order }) c.requires c.index_mut.ensures.value refl refl refl

pub returns : goal.returns
returns c =
    let b = c.self.inside in
    let a = c.args in
    let n = c.index_mut.result.now in
    order-changed b.slots b.queues b.past b.free b.freed b.nodes b.ends c.self.invariant c.self.view_is a.slot n (rested a.shown n.order) c.requires c.index_mut.ensures.value
    ∙ ap (λ (o : Order). record a.self.now { cells = with_order a.self.now.cells a.slot (rested a.shown o) }) (order-now b.slots b.queues b.past b.free b.freed b.nodes b.ends c.self.invariant c.self.view_is a.slot n c.requires c.index_mut.ensures.value)
