-- What callers of a pool cite: an entry that came is there.
use Rattle.std.proofs.Common.{ℕ, ◌<◌, List, [], ◌∷◌, ◌++◌, length, refl, sym, subst, arith, inl, inr}
use Rattle.std.proofs.lemmas.List.{length-set}
use Rattle.std.proofs.lemmas.Grind.{get_or-set_at}
use Rattle.gx_base.specs.declared.order.Order.{Order}
use Rattle.order_pool.specs.Queues.{Queues, Entry, HasSlot, IsIn, entries_at, appended}

has_slot-push : (i : ℕ) (o : Order) (es : List Entry) → HasSlot i (es ++ (i, o) ∷ [])
has_slot-push i o [] = inl refl
has_slot-push i o (e ∷ es) = inr (has_slot-push i o es)

pub IsIn-appended : (b : Queues) (q i : ℕ) (o : Order) → q < length b.queues → IsIn (record b { queues = appended q (i, o) b.queues }) i q
IsIn-appended b q i o lq = (
  omega (arith, length-set b.queues q (entries_at b.queues q ++ (i, o) ∷ [])),
  subst (HasSlot i) (sym (get_or-set_at b.queues q q (entries_at b.queues q ++ (i, o) ∷ []) [] refl lq)) (has_slot-push i o (entries_at b.queues q)),
)
