use Rattle.std.proofs.Common.{◌≤◌}
use Rattle.std.specs.Prelude.{vec_capacity}
use Rattle.plain_book.specs.Inner.FreeSlots.{IsFreeList}
use Rattle.plain_book.proofs.plain.refill.Given as goal

abbrev pub invariant-loop-slot : goal.invariant-loop-slot
invariant-loop-slot l = record {
  slots : IsFreeList l.slot l.slots.items (vec_capacity l.slots);
  room : l.count ≤ vec_capacity l.slots;
}
