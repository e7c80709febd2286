use Rattle.std.proofs.Common.{ℕ, Option, subst, sym}
use Rattle.gx_base.specs.declared.order.Order.{Order}
use Rattle.order_pool.specs.Queues.{rested}
use Rattle.order_pool.specs.Inner.Rings.{order_at, HasTaken, coming}
use Rattle.order_pool.proofs.Starts.{taken_changed}
use Rattle.order_pool.proofs.pool.take_slot_for.Goals as goal

pub returns-in-Some : goal.returns-in-Some
returns-in-Some c =
    let t = c.take_slot-slot.ensures.taken.1 in
    let i = c.take_slot-slot.result in
    let free = c.take_slot-slot.ensures.taken.0 in
    let o = rested c.in-Some.shown (order_at c.take_slot-slot.new.block.cells i) in (
      free,
      subst (λ (x : Option ℕ). HasTaken c.args.block.now c.set_rested.new.self free i (coming x c.args.order.now)) (sym c.in-Some.is)
          (subst (λ (x : Order). HasTaken c.args.block.now c.set_rested.new.self free i (rested c.in-Some.shown x)) t.order
          (taken_changed c.args.block.now c.take_slot-slot.new.block c.set_rested.new.self free i c.args.order.now o t c.set_rested.ensures)),
    )
