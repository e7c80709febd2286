use Rattle.order_pool.proofs.Calls.{in_queue, reset}
use Rattle.order_pool.proofs.pool.Pool.set.Goals as goal

pub set_order-requires : goal.set_order-requires
set_order-requires c = let p = c.self.inside in (in_queue p.block c.self.invariant.0 c.self.invariant.1 c.args.self.now c.self.view_is c.args.slot.0 c.requires.0 c.requires.1).slot

pub invariant_of-self : goal.invariant_of-self
invariant_of-self c =
    let p = c.self.inside in
    let after = reset p.block c.self.invariant.0 c.self.invariant.1 c.args.self.now c.self.view_is c.args.slot.0 c.requires.0 c.requires.1 c.args.order.now c.set_order.new.self c.set_order.ensures in
    (c.self.invariant.0, after.kept)

pub returns : goal.returns
returns c =
    let p = c.self.inside in
    let after = reset p.block c.self.invariant.0 c.self.invariant.1 c.args.self.now c.self.view_is c.args.slot.0 c.requires.0 c.requires.1 c.args.order.now c.set_order.new.self c.set_order.ensures in
    record { queues = after.is; live = after.same }
