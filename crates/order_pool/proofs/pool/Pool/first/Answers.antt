use Rattle.std.proofs.Common.{refl}
use Rattle.order_pool.proofs.Calls.{first_some, first_none}
use Rattle.order_pool.proofs.pool.Pool.first.Goals as goal

pub returns-in-Some : goal.returns-in-Some
returns-in-Some c =
    let p = c.self.inside in
    let n = c.in-Some.first in
    let first = first_some p.block c.self.invariant.0 c.self.invariant.1 c.args.self.now c.self.view_is c.args.queue n c.requires c.in-Some.ensures.0 c.in-Some.ensures.1 in
    record { value = first.0; live = first.1 }

pub returns-in_default-clause-value : goal.returns-in_default-clause-value
returns-in_default-clause-value c = let p = c.self.inside in first_none p.block c.self.invariant.0 c.self.invariant.1 c.args.self.now c.self.view_is c.args.queue _ c.requires refl c.in_default.ensures
