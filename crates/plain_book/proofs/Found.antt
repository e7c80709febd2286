-- Orders that are found rest in the book; and counters that stand at 0.
use Rattle.std.proofs.Common.{◌≡◌, ℕ, List, Option, Some, sym, ap, ◌∙◌, slice_index, replicate, refl}
use Prim.Native.Nat.{zero, suc}
use Rattle.std.specs.Prelude.{option_map}
use Rattle.gx_base.specs.declared.order.Slot.{Slot}
use Rattle.plain_book.specs.declared.entry.Entry.{Entry}
use Rattle.plain_book.specs.Orders.{Level, is_at, orders_at, HasSlot, slot_of, slot_after}
use Rattle.plain_book.specs.Book.{slot_number}
use Rattle.plain_book.proofs.Live.{first-has, after-has}
use Rattle.plain_book.proofs.Levels.{HasSlot-filter}

pub first-rests : (k : Level) (es : List Entry) (at : Option Slot) (s : Slot) → option_map slot_number at ≡ slot_of (orders_at k es) → at ≡ Some s → HasSlot s.0 es
first-rests k es at s found is = HasSlot-filter (is_at k) s.0 es (first-has s.0 (orders_at k es) (sym found ∙ ap (option_map slot_number) is))

pub next-rests : (k : Level) (slot : ℕ) (es : List Entry) (at : Option Slot) (s : Slot) → option_map slot_number at ≡ slot_after slot (orders_at k es) → at ≡ Some s → HasSlot s.0 es
next-rests k slot es at s found is = HasSlot-filter (is_at k) s.0 es (after-has slot s.0 (orders_at k es) (sym found ∙ ap (option_map slot_number) is))

pub all-zero : (n i : ℕ) → slice_index (replicate n 0) i ≡ 0
all-zero zero i = refl
all-zero (suc n) zero = refl
all-zero (suc n) (suc i) = all-zero n i
