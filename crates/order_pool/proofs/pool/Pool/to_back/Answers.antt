use Rattle.std.proofs.Common.{◌+◌, ◌<◌, ℕ, get_or, ap, subst, sym, ◌∙◌, arith, inr}
use Rattle.order_pool.specs.Inner.Block.{Cells, detached, attached, IsUsed}
use Rattle.order_pool.proofs.Calls.{in_queue, among, some_count, sent_back}
use Rattle.order_pool.proofs.pool.Pool.to_back.Goals as goal

pub queue-queue-requires : goal.queue-queue-requires
queue-queue-requires c = let p = c.self.inside in (in_queue p.block c.self.invariant.0 c.self.invariant.1 c.args.self.now c.self.view_is c.args.slot.0 c.requires.0 c.requires.1).slot

pub detach-requires : goal.detach-requires
detach-requires c = let p = c.self.inside in among p.block c.self.invariant.0 c.self.invariant.1 c.args.self.now c.self.view_is c.args.slot.0 c.requires.0 c.requires.1

pub attach-requires : goal.attach-requires
attach-requires c =
    let p = c.self.inside in
    let s = in_queue p.block c.self.invariant.0 c.self.invariant.1 c.args.self.now c.self.view_is c.args.slot.0 c.requires.0 c.requires.1 in
    let e = sym c.detach.ensures in
    let used : IsUsed p.block c.queue-queue.result = (
      omega (arith, c.queue-queue.ensures, s.tag, s.queue),
      inr (subst (λ (q : ℕ). 0 < get_or p.block.counts q 0) (sym c.queue-queue.ensures) (some_count p.block c.self.invariant.0 c.self.invariant.1 c.args.self.now c.self.view_is c.args.slot.0 c.requires.0 c.requires.1)),
    ) in
    record {
      slot_in = subst (λ (x : Cells). c.args.slot.0 < x.lent) e s.slot;
      queue_in = subst (λ (x : Cells). IsUsed x c.queue-queue.result) e used;
    }

pub invariant_of-self : goal.invariant_of-self
invariant_of-self c =
    let p = c.self.inside in
    let i = c.args.slot.0 in
    let e = c.attach.ensures ∙ ap (λ (x : Cells). record x { cells = attached x.cells i (x.slots + c.queue-queue.result) c.queue-queue.result }) c.detach.ensures
    ∙ ap (λ (q : ℕ). record p.block { cells = attached (detached p.block.cells i) i (p.block.slots + q) q }) c.queue-queue.ensures in
    let after = sent_back p.block c.self.invariant.0 c.self.invariant.1 c.args.self.now c.self.view_is i c.requires.0 c.requires.1 c.attach.new.self e in
    (c.self.invariant.0, after.kept)

pub returns : goal.returns
returns c =
    let p = c.self.inside in
    let i = c.args.slot.0 in
    let e = c.attach.ensures ∙ ap (λ (x : Cells). record x { cells = attached x.cells i (x.slots + c.queue-queue.result) c.queue-queue.result }) c.detach.ensures
    ∙ ap (λ (q : ℕ). record p.block { cells = attached (detached p.block.cells i) i (p.block.slots + q) q }) c.queue-queue.ensures in
    let after = sent_back p.block c.self.invariant.0 c.self.invariant.1 c.args.self.now c.self.view_is i c.requires.0 c.requires.1 c.attach.new.self e in
    record { queues = after.is; live = after.same }
