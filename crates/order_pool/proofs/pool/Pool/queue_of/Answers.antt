use Rattle.std.proofs.Common.{ℕ, sym, subst, ◌∙◌}
use Rattle.order_pool.specs.Queues.{IsIn}
use Rattle.order_pool.proofs.Calls.{in_queue}
use Rattle.order_pool.proofs.pool.Pool.queue_of.Goals as goal

pub queue-requires : goal.queue-requires
queue-requires c = let p = c.self.inside in (in_queue p.block c.self.invariant.0 c.self.invariant.1 c.args.self.now c.self.view_is c.args.slot.0 c.requires.0 c.requires.1).slot

pub returns : goal.returns
returns c =
    let p = c.self.inside in
    let s = in_queue p.block c.self.invariant.0 c.self.invariant.1 c.args.self.now c.self.view_is c.args.slot.0 c.requires.0 c.requires.1 in
    subst (λ (q : ℕ). IsIn c.args.self.now c.args.slot.0 q) (sym (c.queue.ensures ∙ s.tag)) c.requires.1
