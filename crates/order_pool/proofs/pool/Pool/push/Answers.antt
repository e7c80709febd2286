use Rattle.std.proofs.Common.{arith}
use Rattle.order_pool.specs.Inner.Rings.{coming}
use Rattle.order_pool.proofs.Calls.{live, capacity, put_pushed}
use Rattle.order_pool.proofs.pool.Pool.push.Goals as goal

pub put_at_end-requires-clause-some : goal.put_at_end-requires-clause-some
put_at_end-requires-clause-some c = let p = c.self.inside in omega (arith, c.self.invariant.1.chained.many, live p.block c.self.invariant.0 c.self.invariant.1 c.args.self.now c.self.view_is, capacity p.block c.self.invariant.0 c.self.invariant.1 c.args.self.now c.self.view_is, c.requires.room)

pub put_at_end-requires-clause-pool : goal.put_at_end-requires-clause-pool
put_at_end-requires-clause-pool c = c.self.invariant

pub invariant_of-self : goal.invariant_of-self
invariant_of-self c =
    let p = c.self.inside in
    let n = c.put_at_end.ensures in
    let after = put_pushed p.block c.self.invariant.0 c.self.invariant.1 c.args.self.now c.self.view_is c.put_at_end.result c.args.queue (coming c.args.shown c.args.order.now) c.put_at_end.new.block n.0 n.1 c.requires.queue_in in
    (n.0, after.kept)

pub returns : goal.returns
returns c =
    let p = c.self.inside in
    let after = put_pushed p.block c.self.invariant.0 c.self.invariant.1 c.args.self.now c.self.view_is c.put_at_end.result c.args.queue (coming c.args.shown c.args.order.now) c.put_at_end.new.block c.put_at_end.ensures.0 c.put_at_end.ensures.1 c.requires.queue_in in
    record { fresh = after.fresh; queues = after.is; live = after.more; placed = after.placed }
