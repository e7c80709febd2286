use Rattle.std.proofs.Common.{refl}
use Rattle.order_pool.proofs.Calls.{in_queue, next_some, next_none}
use Rattle.order_pool.proofs.pool.Pool.next.Goals as goal

pub next-requires : goal.next-requires
next-requires c = let p = c.self.inside in (in_queue p.block c.self.invariant.0 c.self.invariant.1 c.args.self.now c.self.view_is c.args.slot.0 c.requires.0 c.requires.1).slot

pub returns-in-Some : goal.returns-in-Some
returns-in-Some c =
    let p = c.self.inside in
    let n = c.in-Some.next in
    let next = next_some p.block c.self.invariant.0 c.self.invariant.1 c.args.self.now c.self.view_is c.args.slot.0 in
    record {
      value = λ q h. (next q n h c.in-Some.ensures.0 c.in-Some.ensures.1).0;
      live = λ q h. (next q n h c.in-Some.ensures.0 c.in-Some.ensures.1).1;
    }

pub returns-in_default-clause-value : goal.returns-in_default-clause-value
returns-in_default-clause-value c = λ q h. let p = c.self.inside in next_none p.block c.self.invariant.0 c.self.invariant.1 c.args.self.now c.self.view_is c.args.slot.0 q _ h refl c.in_default.ensures
