use Rattle.std.proofs.Common.{◌-◌, ℕ, arith, inr}
use Rattle.order_pool.proofs.Cells.{used-is, count-now, count-changed}
use Rattle.order_pool.proofs.block.Block.lower.Goals as goal

pub index_mut-requires : goal.index_mut-requires
index_mut-requires c = let b = c.self.inside in let u = used-is b.slots b.queues b.past b.free b.freed b.nodes b.ends c.self.invariant c.self.view_is c.args.queue (c.requires.queue_in, inr c.requires.some) in omega (arith, u, b.ends.ok.0)

pub overflow_sub-index_mut : goal.overflow_sub-index_mut
overflow_sub-index_mut c =
    let b = c.self.inside in
    let u = used-is b.slots b.queues b.past b.free b.freed b.nodes b.ends c.self.invariant c.self.view_is c.args.queue (c.requires.queue_in, inr c.requires.some) in
    let is = count-now b.slots b.queues b.past b.free b.freed b.nodes b.ends c.self.invariant c.self.view_is c.args.queue c.index_mut.result.now u c.index_mut.ensures.value in
    omega (arith, is, c.requires.some)

pub returns : goal.returns
returns c =
    let b = c.self.inside in
    let u = used-is b.slots b.queues b.past b.free b.freed b.nodes b.ends c.self.invariant c.self.view_is c.args.queue (c.requires.queue_in, inr c.requires.some) in
    count-changed b.slots b.queues b.past b.free b.freed b.nodes b.ends c.self.invariant c.self.view_is c.args.queue c.index_mut.result.now (λ (n : ℕ). n - 1) u c.index_mut.ensures.value
