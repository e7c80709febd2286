use Rattle.std.proofs.Common.{◌<◌, ℕ, length, subst, sym, arith}
use Rattle.std.specs.declared.vec.Vec.{Vec}
use Rattle.order_pool.specs.Inner.Block.{IsLink}
use Rattle.order_pool.proofs.Cells.{used-is, queue_at_still, last_is_link, IsBlock-attached, attached-is}
use Rattle.order_pool.proofs.block.Block.attach.Goals as goal

pub index-requires : goal.index-requires
index-requires c = let b = c.self.inside in let u = used-is b.slots b.queues b.past b.free b.freed b.nodes b.ends c.self.invariant c.self.view_is c.args.queue c.requires.queue_in in omega (arith, u, b.ends.ok.0)

pub set_next-requires-clause-link : goal.set_next-requires-clause-link
set_next-requires-clause-link c =
    let b = c.self.inside in
    let h = last_is_link b.slots b.queues b.past b.free b.freed b.nodes b.ends c.self.invariant c.self.view_is c.args.slot c.args.queue c.requires.slot_in c.requires.queue_in c.pointer_to-here.result c.pointer_to-here.ensures.value c.index.result.now c.index.ensures in
    subst (λ (n : ℕ). IsLink b.nodes.ptr n b.nodes.len c.index.result.now.last) (sym c.self.invariant.nodes_room) (subst (λ (n : ℕ). IsLink b.nodes.ptr b.slots n c.index.result.now.last) (sym b.nodes.ok.0) h)

pub set_next-requires-clause-queue_in : goal.set_next-requires-clause-queue_in
set_next-requires-clause-queue_in c = let b = c.self.inside in let u = used-is b.slots b.queues b.past b.free b.freed b.nodes b.ends c.self.invariant c.self.view_is c.args.queue c.requires.queue_in in omega (arith, u, b.ends.ok.0)

pub set_last-requires : goal.set_last-requires
set_last-requires c =
    let b = c.self.inside in
    let x = c.set_next.new.ends in
    let h = queue_at_still b.slots b.queues b.past b.free b.freed b.nodes b.ends c.self.invariant c.self.view_is c.args.slot c.args.queue c.requires.slot_in c.requires.queue_in c.pointer_to-here.result c.pointer_to-here.ensures.value c.index.result.now c.index.ensures in
    let e : c.args.queue < length x.items = subst (λ (u : Vec _ _). c.args.queue < length u.items) (sym c.set_next.ensures.ends) h in
    omega (arith, e, x.ok.0)

pub invariant_of-self : goal.invariant_of-self
invariant_of-self c =
    let b = c.self.inside in
    IsBlock-attached b.slots b.queues b.past b.free b.freed b.nodes b.ends c.self.invariant c.self.view_is c.args.slot c.args.queue c.requires.slot_in c.requires.queue_in c.pointer_to-here.result c.pointer_to-here.ensures.value c.index.result.now c.index.ensures
    c.set_next.new.nodes c.relink.new.nodes c.set_next.new.ends c.set_last.new.ends c.set_next.ensures.nodes c.set_next.ensures.ends c.relink.ensures c.set_last.ensures

pub returns : goal.returns
returns c =
    let b = c.self.inside in
    attached-is b.slots b.queues b.past b.free b.freed b.nodes b.ends c.self.invariant c.self.view_is c.args.slot c.args.queue c.requires.slot_in c.requires.queue_in c.pointer_to-here.result c.pointer_to-here.ensures.value c.index.result.now c.index.ensures
    c.set_next.new.nodes c.relink.new.nodes c.set_next.new.ends c.set_last.new.ends c.set_next.ensures.nodes c.set_next.ensures.ends c.relink.ensures c.set_last.ensures
