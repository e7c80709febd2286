use Rattle.order_pool.specs.Queues.{opened}
use Rattle.order_pool.proofs.Calls.{in_queue, changed}
use Rattle.order_pool.proofs.pool.Pool.set_open.Goals as goal

pub set_open-requires : goal.set_open-requires
set_open-requires c = let p = c.self.inside in (in_queue p.block c.self.invariant.0 c.self.invariant.1 c.args.self.now c.self.view_is c.args.slot.0 c.requires.0 c.requires.1).slot

pub invariant_of-self : goal.invariant_of-self
invariant_of-self c =
    let p = c.self.inside in
    let a = c.args in
    let after = changed p.block c.self.invariant.0 c.self.invariant.1 a.self.now c.self.view_is a.slot.0 c.requires.0 c.requires.1 (opened a.filled a.leaves a.shown) c.set_open.new.self c.set_open.ensures in
    (c.self.invariant.0, after.kept)

pub returns : goal.returns
returns c =
    let p = c.self.inside in
    let a = c.args in
    let after = changed p.block c.self.invariant.0 c.self.invariant.1 a.self.now c.self.view_is a.slot.0 c.requires.0 c.requires.1 (opened a.filled a.leaves a.shown) c.set_open.new.self c.set_open.ensures in
    record { queues = after.is; live = after.same }
