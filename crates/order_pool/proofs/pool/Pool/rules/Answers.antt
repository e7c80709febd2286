use Rattle.order_pool.proofs.Shown.{rules}
use Rattle.order_pool.proofs.pool.Pool.rules.Goals as goal

pub returns : goal.returns
returns c =
    let b = c.self.inside.block in
    rules b.cells b.slots b.queues _ c.self.invariant.1.whole c.args.self.now c.self.view_is
