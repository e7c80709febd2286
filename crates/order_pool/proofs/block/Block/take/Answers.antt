use Rattle.std.proofs.Common.{ℕ, sym, subst}
use Rattle.order_pool.specs.Inner.Block.{node_size}
use Rattle.order_pool.specs.Inner.Places.{IsPlace}
use Rattle.order_pool.proofs.Cells.{free-place, slot-taken, taken-is, IsBlock-taken}
use Rattle.order_pool.proofs.block.Block.take.Goals as goal

pub follow_mut-node-requires : goal.follow_mut-node-requires
follow_mut-node-requires c = let b = c.self.inside in subst (λ (n : ℕ). IsPlace node_size b.nodes.ptr n b.free) (sym b.nodes.ok.0) (free-place b.slots b.queues b.past b.free b.freed b.nodes b.ends c.self.invariant c.self.view_is c.requires)

pub invariant_of-self : goal.invariant_of-self
invariant_of-self c = let b = c.self.inside in IsBlock-taken b.slots b.queues b.past b.free b.freed b.nodes b.ends c.self.invariant c.self.view_is c.requires c.follow_mut-node.result.now c.follow_mut-node.ensures.value c.args.order.now

pub returns : goal.returns
returns c =
    let b = c.self.inside in
    record {
      slot = slot-taken b.slots b.queues b.past b.free b.freed b.nodes b.ends c.self.invariant c.self.view_is c.requires c.follow_mut-node.result.now c.follow_mut-node.ensures.value c.args.order.now;
      block = taken-is b.slots b.queues b.past b.free b.freed b.nodes b.ends c.self.invariant c.self.view_is c.requires c.follow_mut-node.result.now c.follow_mut-node.ensures.value c.args.order.now;
    }
