use Rattle.std.proofs.Common.{◌≤◌, ◌+◌, List, ℕ, sym, subst, arith}
use Rattle.std.specs.Prelude.{vec_capacity}
use Rattle.plain_book.specs.Inner.FreeSlots.{IsFreeList}
use Rattle.plain_book.proofs.Kept.{free_list-more}
use Rattle.plain_book.proofs.plain.refill.Goals as goal

pub give_slot-requires : goal.give_slot-requires
give_slot-requires c = omega (arith, c.loop-slot.invariant.slots.all, c.loop-slot.invariant.room)

pub loop-slot-preserved : goal.loop-slot-preserved
loop-slot-preserved c =
    let k = c.loop-slot.slot in
    let room : c.args.count ≤ vec_capacity c.give_slot.new.free = omega (arith, c.give_slot.ensures.capacity, c.loop-slot.invariant.room) in
    record {
      slots = subst (λ (q : List ℕ). IsFreeList (k + 1) q (vec_capacity c.give_slot.new.free)) (sym c.give_slot.ensures.free)
          (free_list-more k c.loop-slot.slots.items (vec_capacity c.loop-slot.slots) (vec_capacity c.give_slot.new.free) c.loop-slot.invariant.slots (omega (arith, room)));
      room = room;
    }

pub returns : goal.returns
returns c = record { free = subst (λ (k : ℕ). IsFreeList k c.loop-slot.slots.items (vec_capacity c.loop-slot.slots)) (omega arith) c.loop-slot.invariant.slots }
