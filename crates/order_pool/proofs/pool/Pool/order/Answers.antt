use Rattle.std.proofs.Common.{sym, ◌∙◌}
use Rattle.order_pool.proofs.Pools.{order_of-seen}
use Rattle.order_pool.proofs.Calls.{in_queue}
use Rattle.order_pool.proofs.pool.Pool.order.Goals as goal

pub order-requires : goal.order-requires
order-requires c = let p = c.self.inside in (in_queue p.block c.self.invariant.0 c.self.invariant.1 c.args.self.now c.self.view_is c.args.slot.0 c.requires.0 c.requires.1).slot

pub returns : goal.returns
returns c = λ q h.
    let p = c.self.inside in
    let b = p.block in
    c.order.ensures ∙ sym (order_of-seen b.cells b.slots b.queues _ c.self.invariant.1.whole _ c.args.slot.0 q c.self.view_is (in_queue p.block c.self.invariant.0 c.self.invariant.1 c.args.self.now c.self.view_is c.args.slot.0 q h))
