use Rattle.std.proofs.Common.{◌<◌, length, subst, sym, arith}
use Rattle.std.specs.declared.vec.Vec.{Vec}
use Rattle.order_pool.proofs.Cells.{queue_in, queue_in_still, IsBlock-detached, detached-is}
use Rattle.order_pool.proofs.block.Block.detach.Goals as goal

pub set_next-requires-clause-queue_in : goal.set_next-requires-clause-queue_in
set_next-requires-clause-queue_in c =
    let b = c.self.inside in
    let h = queue_in b.slots b.queues b.past b.free b.freed b.nodes b.ends c.self.invariant c.self.view_is c.args.slot c.index-node.result.now c.requires.slot c.index-node.ensures c.requires in
    omega (arith, h, b.ends.ok.0)

pub set_prev-requires-clause-queue_in : goal.set_prev-requires-clause-queue_in
set_prev-requires-clause-queue_in c =
    let b = c.self.inside in
    let x = c.set_next.new.ends in
    let n = c.index-node.result.now in
    let h = queue_in_still b.slots b.queues b.past b.free b.freed b.nodes b.ends c.self.invariant c.self.view_is c.args.slot n c.requires.slot c.index-node.ensures c.requires in
    let e : n.queue < length x.items = subst (λ (u : Vec _ _). n.queue < length u.items) (sym c.set_next.ensures.ends) h in
    omega (arith, e, x.ok.0)

pub invariant_of-self : goal.invariant_of-self
invariant_of-self c =
    let b = c.self.inside in
    IsBlock-detached b.slots b.queues b.past b.free b.freed b.nodes b.ends c.self.invariant c.self.view_is c.args.slot c.index-node.result.now c.requires.slot c.index-node.ensures c.requires
    c.set_next.new.nodes c.set_prev.new.nodes c.set_next.new.ends c.set_prev.new.ends c.set_next.ensures.nodes c.set_next.ensures.ends c.set_prev.ensures.nodes c.set_prev.ensures.ends

pub returns : goal.returns
returns c =
    let b = c.self.inside in
    detached-is b.slots b.queues b.past b.free b.freed b.nodes b.ends c.self.invariant c.self.view_is c.args.slot c.index-node.result.now c.requires.slot c.index-node.ensures c.requires
    c.set_next.new.nodes c.set_prev.new.nodes c.set_next.new.ends c.set_prev.new.ends c.set_next.ensures.nodes c.set_next.ensures.ends c.set_prev.ensures.nodes c.set_prev.ensures.ends
