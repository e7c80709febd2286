use Rattle.std.proofs.Common.{◌+◌, ℕ, arith}
use Rattle.order_pool.proofs.Cells.{used-is, count-now, count-changed}
use Rattle.order_pool.proofs.block.Block.raise.Goals as goal

pub index_mut-requires : goal.index_mut-requires
index_mut-requires c = let b = c.self.inside in let u = used-is b.slots b.queues b.past b.free b.freed b.nodes b.ends c.self.invariant c.self.view_is c.args.queue c.requires.queue_in in omega (arith, u, b.ends.ok.0)

pub overflow_add-index_mut : goal.overflow_add-index_mut
overflow_add-index_mut c =
    let b = c.self.inside in
    let u = used-is b.slots b.queues b.past b.free b.freed b.nodes b.ends c.self.invariant c.self.view_is c.args.queue c.requires.queue_in in
    let is = count-now b.slots b.queues b.past b.free b.freed b.nodes b.ends c.self.invariant c.self.view_is c.args.queue c.index_mut.result.now u c.index_mut.ensures.value in
    omega (arith, is, c.requires.fits)

pub returns : goal.returns
returns c =
    let b = c.self.inside in
    let u = used-is b.slots b.queues b.past b.free b.freed b.nodes b.ends c.self.invariant c.self.view_is c.args.queue c.requires.queue_in in
    count-changed b.slots b.queues b.past b.free b.freed b.nodes b.ends c.self.invariant c.self.view_is c.args.queue c.index_mut.result.now (λ (n : ℕ). n + 1) u c.index_mut.ensures.value
