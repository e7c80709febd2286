use Rattle.std.proofs.Common.{◌+◌, ◌-◌, ◌<◌, ◌∷◌, ℕ, get_or, ap, sym, subst, ◌∙◌, arith, slice_set}
use Rattle.order_pool.specs.Inner.Block.{Cells, detached, relinked}
use Rattle.order_pool.specs.Inner.Rings.{queues_in}
use Rattle.order_pool.specs.Queues.{live_of}
use Rattle.order_pool.proofs.Calls.{in_queue, among, some_live, some_count, unlinked}
use Rattle.order_pool.proofs.pool.Pool.unlink.Goals as goal

pub queue-queue-requires : goal.queue-queue-requires
queue-queue-requires c = let p = c.self.inside in (in_queue p.block c.self.invariant.0 c.self.invariant.1 c.args.self.now c.self.view_is c.args.slot.0 c.requires.0 c.requires.1).slot

pub detach-requires : goal.detach-requires
detach-requires c = let p = c.self.inside in among p.block c.self.invariant.0 c.self.invariant.1 c.args.self.now c.self.view_is c.args.slot.0 c.requires.0 c.requires.1

pub leave-requires : goal.leave-requires
leave-requires c =
    let p = c.self.inside in
    let e = sym c.detach.ensures in
    record {
      slot_in = subst (λ (x : Cells). c.args.slot.0 < x.lent) e (in_queue p.block c.self.invariant.0 c.self.invariant.1 c.args.self.now c.self.view_is c.args.slot.0 c.requires.0 c.requires.1).slot;
      fits = subst (λ (x : Cells). x.freed < x.lent) e (some_live p.block c.self.invariant.0 c.self.invariant.1 c.args.self.now c.self.view_is c.args.slot.0 c.requires.0 c.requires.1);
    }

pub lower-requires : goal.lower-requires
lower-requires c =
    let p = c.self.inside in
    let i = c.args.slot.0 in
    let q = c.queue-queue.result in
    let s = in_queue p.block c.self.invariant.0 c.self.invariant.1 c.args.self.now c.self.view_is i c.requires.0 c.requires.1 in
    let l = c.leave.ensures in
    let e₂ = l.is ∙ ap (λ (x : Cells). record x { cells = relinked x.cells i l.prev x.free x.queues; free = i; freed = x.freed + 1 }) c.detach.ensures in
    record {
      queue_in = subst (λ (x : Cells). q < x.queues) (sym e₂) (omega (arith, c.queue-queue.ensures, s.tag, s.queue));
      some = subst (λ (x : Cells). 0 < get_or x.counts q 0) (sym e₂) (subst (λ (r : ℕ). 0 < get_or p.block.counts r 0) (sym c.queue-queue.ensures) (some_count p.block c.self.invariant.0 c.self.invariant.1 c.args.self.now c.self.view_is i c.requires.0 c.requires.1));
    }

pub invariant_of-self : goal.invariant_of-self
invariant_of-self c =
    let p = c.self.inside in
    let i = c.args.slot.0 in
    let q = c.queue-queue.result in
    let l = c.leave.ensures in
    let e₂ = l.is ∙ ap (λ (x : Cells). record x { cells = relinked x.cells i l.prev x.free x.queues; free = i; freed = x.freed + 1 }) c.detach.ensures in
    let e = c.lower.ensures ∙ ap (λ (x : Cells). record x { counts = slice_set x.counts q (get_or x.counts q 0 - 1) }) e₂
    ∙ ap (λ (r : ℕ). record p.block { cells = relinked (detached p.block.cells i) i l.prev p.block.free p.block.queues; counts = slice_set p.block.counts r (get_or p.block.counts r 0 - 1); free = i; freed = p.block.freed + 1 }) c.queue-queue.ensures in
    let after = unlinked p.block c.self.invariant.0 c.self.invariant.1 c.args.self.now c.self.view_is i c.requires.0 c.requires.1 l.prev c.lower.new.self e in
    (i ∷ c.self.invariant.0, after.kept)

pub returns : goal.returns
returns c =
    let p = c.self.inside in
    let i = c.args.slot.0 in
    let q = c.queue-queue.result in
    let l = c.leave.ensures in
    let e₂ = l.is ∙ ap (λ (x : Cells). record x { cells = relinked x.cells i l.prev x.free x.queues; free = i; freed = x.freed + 1 }) c.detach.ensures in
    let e = c.lower.ensures ∙ ap (λ (x : Cells). record x { counts = slice_set x.counts q (get_or x.counts q 0 - 1) }) e₂
    ∙ ap (λ (r : ℕ). record p.block { cells = relinked (detached p.block.cells i) i l.prev p.block.free p.block.queues; counts = slice_set p.block.counts r (get_or p.block.counts r 0 - 1); free = i; freed = p.block.freed + 1 }) c.queue-queue.ensures in
    let after = unlinked p.block c.self.invariant.0 c.self.invariant.1 c.args.self.now c.self.view_is i c.requires.0 c.requires.1 l.prev c.lower.new.self e in
    record {
      queues = after.is;
      live = after.fewer;
      room = subst (λ (n : ℕ). live_of (queues_in c.lower.new.self) < n) (sym (ap (λ (x : Cells). x.slots) e)) after.room;
    }
