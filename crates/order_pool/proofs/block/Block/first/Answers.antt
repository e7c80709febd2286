use Rattle.std.proofs.Common.{◌<◌, ◌+◌, ℕ, length, sym, ap, subst, arith}
use Rattle.order_pool.specs.Inner.Block.{Cell, Cells, cell_at, IsLead}
use Rattle.order_pool.proofs.Cells.{queue-in, ends-now, links-ends, lead-is, slots-now, unused-now}
use Rattle.order_pool.proofs.block.Block.first.Goals as goal

pub returns-then-queue-len : goal.returns-then-queue-len
returns-then-queue-len c =
    let b = c.self.inside in
    let e = c.index.result.now in
    let q = c.args.queue in
    let lt : q < length b.ends.items = omega (arith, c.if-queue-len.true, c.len.ensures, b.ends.ok.0) in
    let links = links-ends b.slots b.queues b.past b.free b.freed b.nodes b.ends c.self.invariant c.self.view_is q e lt c.index.ensures in
    let is = lead-is b.slots b.queues b.past b.free b.freed b.nodes b.ends c.self.invariant c.self.view_is (b.slots + q) e.first c.number_of.result (omega arith) links.0 c.number_of.ensures in
    subst (λ (s : ℕ). IsLead s c.number_of.result (cell_at c.args.self.now.cells (c.args.self.now.slots + q)).next) (slots-now b.slots b.queues b.past b.free b.freed b.nodes b.ends c.self.invariant c.self.view_is)
    (subst (IsLead b.slots c.number_of.result) (sym (ap (λ (x : Cell). x.next) (ends-now b.slots b.queues b.past b.free b.freed b.nodes b.ends c.self.invariant c.self.view_is q e lt c.index.ensures))) is)

pub returns-else-queue-len : goal.returns-else-queue-len
returns-else-queue-len c =
    let b = c.self.inside in
    let q = c.args.queue in
    let s = ap {B = ℕ} (λ (x : Cells). x.slots) c.self.view_is in
    let e = unused-now b.slots b.queues b.past b.free b.freed b.nodes b.ends c.self.invariant c.self.view_is q (queue-in b.slots b.queues b.past b.free b.freed b.nodes b.ends c.self.invariant c.self.view_is q c.requires) (omega (arith, c.if-queue-len.false, c.len.ensures, b.ends.ok.0)) in
    omega (arith, s, e)
