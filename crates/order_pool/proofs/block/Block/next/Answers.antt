use Rattle.std.proofs.Common.{◌+◌, ℕ, sym, ap, subst, arith}
use Rattle.order_pool.specs.Inner.Block.{Cell, cell_at, IsLead}
use Rattle.order_pool.proofs.Cells.{node-now, links-node, lead-is, slots-now}
use Rattle.order_pool.proofs.block.Block.next.Goals as goal

pub returns : goal.returns
returns c =
    let b = c.self.inside in
    let n = c.index.result.now in
    let links = links-node b.slots b.queues b.past b.free b.freed b.nodes b.ends c.self.invariant c.self.view_is c.args.slot n c.requires c.index.ensures in
    let is = lead-is b.slots b.queues b.past b.free b.freed b.nodes b.ends c.self.invariant c.self.view_is (b.slots + n.queue) n.next c.number_of.result (omega arith) links.1 c.number_of.ensures in
    subst (λ (s : ℕ). IsLead s c.number_of.result (cell_at c.args.self.now.cells c.args.slot).next) (slots-now b.slots b.queues b.past b.free b.freed b.nodes b.ends c.self.invariant c.self.view_is)
    (subst (IsLead b.slots c.number_of.result) (sym (ap (λ (x : Cell). x.next) (node-now b.slots b.queues b.past b.free b.freed b.nodes b.ends c.self.invariant c.self.view_is c.args.slot n c.requires c.index.ensures))) is)
