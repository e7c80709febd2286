use Rattle.std.proofs.Common.{◌≤◌, length, arith}
use Rattle.order_pool.proofs.Cells.{opened, IsBlock-opened}
use Rattle.order_pool.proofs.block.Block.open.Goals as goal

pub invariant_of-self : goal.invariant_of-self
invariant_of-self c =
    let b = c.self.inside in
    let w = c.write_ends.new.ends in
    let more : length b.ends.items ≤ length w.items = omega (arith, b.ends.ok.0, w.ok.0, c.write_ends.ensures.long, c.ends_past-end.ensures.more, c.len.ensures, c.if-len-queue.true) in
    IsBlock-opened b.slots b.queues b.past b.free b.freed b.nodes b.ends c.self.invariant c.self.view_is w more c.write_ends.ensures.same c.write_ends.ensures.capacity

pub returns-then-len-queue : goal.returns-then-len-queue
returns-then-len-queue c =
    let b = c.self.inside in
    let w = c.write_ends.new.ends in
    let more : length b.ends.items ≤ length w.items = omega (arith, b.ends.ok.0, w.ok.0, c.write_ends.ensures.long, c.ends_past-end.ensures.more, c.len.ensures, c.if-len-queue.true) in
    opened b.slots b.queues b.past b.free b.freed b.nodes b.ends c.self.invariant c.self.view_is w more c.write_ends.ensures.same c.args.queue (omega (arith, w.ok.0, c.write_ends.ensures.long, c.ends_past-end.ensures.more))
