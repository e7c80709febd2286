use Rattle.std.proofs.Common.{◌+◌, ◌<◌, ◌^◌, ℕ, List, get_or, refl, sym, ap, subst, ◌∙◌, arith, inl}
use Rattle.order_pool.specs.Inner.Block.{Cells, IsUsed}
use Rattle.order_pool.specs.Inner.Rings.{queues_in, coming}
use Rattle.order_pool.proofs.Calls.{fits_count}
use Rattle.order_pool.proofs.pool.put.Goals as goal

pub take_slot_for-slot-requires : goal.take_slot_for-slot-requires
take_slot_for-slot-requires c = record { pool = c.requires.pool; some = c.requires.some }

pub attach-requires : goal.attach-requires
attach-requires c =
    let t = c.take_slot_for-slot.ensures.1 in
    let q = c.requires.queue_in in
    record { slot_in = t.out.slot; queue_in = (omega (arith, q, t.queues), inl (omega (arith, c.requires.opened, t.more))) }

pub raise-requires : goal.raise-requires
raise-requires c =
    let b = c.args.block.now in
    let q = c.args.queue in
    let t = c.take_slot_for-slot.ensures.1 in
    let low = c.requires.queue_in in
    let ns = ap (λ (x : Cells). x.counts) c.attach.ensures ∙ t.counts in
    record {
      queue_in = subst (λ (x : Cells). IsUsed x q) (sym c.attach.ensures) (omega (arith, low, t.queues), inl (omega (arith, c.requires.opened, t.more)));
      fits = subst (λ (xs : List ℕ). get_or xs q 0 + 1 < 2 ^ 32) (sym ns)
          (fits_count b c.requires.pool.0 c.requires.pool.1 (queues_in b) refl c.take_slot_for-slot.result (coming c.args.shown c.args.order.now) c.take_slot_for-slot.new.block c.take_slot_for-slot.ensures.0 t q low);
    }
