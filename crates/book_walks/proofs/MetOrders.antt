-- What a walk by slots meets: the order of a level or of a side, or the waiting stop, that it stands at.
use Rattle.std.proofs.Common.{◌≡◌, ℕ, ◌<◌, List, [], ◌++◌, Option, Some, None, option_map, ap, ◌∙◌}
use Rattle.gx_base.specs.declared.order.Slot.{Slot}
use Rattle.gx_base.specs.declared.order.Side.{Side}
use Rattle.gx_base.specs.declared.price.Price.{Price}
use Rattle.plain_book.specs.declared.entry.Entry.{Entry}
use Rattle.plain_book.specs.Orders.{level, level_of, HasSlot, order_of, slot_of, slot_after, side_of, orders_at, stops_of}
use Rattle.plain_book.specs.Book.{Book, IsRight, live_orders, slot_number}
use Rattle.book_walks.proofs.OrderWalks.{Next, next-of, none-of, fewer-behind, left_from, level-differ, level-has, level-live, level-order, level-next, stops-differ, stop-waits, stop-has, stop-live, stop-next, side-differ, side-rests, side-live, side-order, side-next}

-- The walk goes over `orders`, which are among `own` and so among `all`. It stands at a slot, and these are to come.
-- `after` is the slot after it.
pub record Met (orders own all : List Entry) (at : Option Slot) (after : Option ℕ) (rest : List Entry) (slot : ℕ) : Type 0 where
  pub next : Next rest slot
  pub kept : HasSlot slot own
  pub live : HasSlot slot all
  pub order : order_of slot all ≡ next.e.order
  pub behind : after ≡ slot_of next.behind
  pub fewer : (then : Option Slot) → option_map slot_number then ≡ after → left_from (option_map slot_number then) orders < left_from (option_map slot_number at) orders

-- an order of a level
abbrev pub MetAtLevel : ℕ → Side → Price → Book → Option Slot → List Entry → ℕ → Type 0
MetAtLevel i s p b at rest slot = Met (orders_at (level i s p) b.resting) b.resting (live_orders b) at (slot_after slot (orders_at (level_of (order_of slot b.resting)) b.resting)) rest slot

pub met-at-level : (i : ℕ) (s : Side) (p : Price) (b : Book) → IsRight b → (done rest : List Entry) (at : Option Slot) (slot : Slot)
    → orders_at (level i s p) b.resting ≡ done ++ rest → option_map slot_number at ≡ slot_of rest → at ≡ Some slot → MetAtLevel i s p b at rest slot.0
met-at-level i s p b r done rest at slot whole here is =
    let n = next-of (option_map slot_number at) slot.0 rest here (ap (option_map slot_number) is) in
    record {
      next = n;
      kept = level-has i s p b r done rest slot.0 whole n;
      live = level-live i s p b r done rest slot.0 whole n;
      order = level-order i s p b r done rest slot.0 whole n;
      behind = level-next i s p b r done rest slot.0 whole n;
      fewer = λ then e. fewer-behind (orders_at (level i s p) b.resting) done rest slot.0 (option_map slot_number at) (option_map slot_number then)
          (level-differ i s p b r) whole here n (e ∙ level-next i s p b r done rest slot.0 whole n);
    }

-- a waiting stop of an instrument
abbrev pub MetStop : ℕ → Book → Option Slot → List Entry → ℕ → Type 0
MetStop i b at rest slot = Met (stops_of i b.waiting) b.waiting (live_orders b) at (slot_after slot (stops_of (order_of slot b.waiting).instrument b.waiting)) rest slot

pub met-stop : (i : ℕ) (b : Book) → IsRight b → (done rest : List Entry) (at : Option Slot) (slot : Slot)
    → stops_of i b.waiting ≡ done ++ rest → option_map slot_number at ≡ slot_of rest → at ≡ Some slot → MetStop i b at rest slot.0
met-stop i b r done rest at slot whole here is =
    let n = next-of (option_map slot_number at) slot.0 rest here (ap (option_map slot_number) is) in
    record {
      next = n;
      kept = stop-waits i b r done rest slot.0 whole n;
      live = stop-has i b r done rest slot.0 whole n;
      order = stop-live i b r done rest slot.0 whole n;
      behind = stop-next i b r done rest slot.0 whole n;
      fewer = λ then e. fewer-behind (stops_of i b.waiting) done rest slot.0 (option_map slot_number at) (option_map slot_number then)
          (stops-differ i b r) whole here n (e ∙ stop-next i b r done rest slot.0 whole n);
    }

-- an order of a side
abbrev pub MetOnSide : ℕ → Side → Book → Option Slot → List Entry → ℕ → Type 0
MetOnSide i s b at rest slot =
    Met (side_of i s b.resting) b.resting (live_orders b) at (slot_after slot (side_of (order_of slot b.resting).instrument (order_of slot b.resting).side b.resting)) rest slot

pub met-on-side : (i : ℕ) (s : Side) (b : Book) → IsRight b → (done rest : List Entry) (at : Option Slot) (slot : Slot)
    → side_of i s b.resting ≡ done ++ rest → option_map slot_number at ≡ slot_of rest → at ≡ Some slot → MetOnSide i s b at rest slot.0
met-on-side i s b r done rest at slot whole here is =
    let n = next-of (option_map slot_number at) slot.0 rest here (ap (option_map slot_number) is) in
    record {
      next = n;
      kept = side-rests i s b r done rest slot.0 whole n;
      live = side-live i s b r done rest slot.0 whole n;
      order = side-order i s b r done rest slot.0 whole n;
      behind = side-next i s b r done rest slot.0 whole n;
      fewer = λ then e. fewer-behind (side_of i s b.resting) done rest slot.0 (option_map slot_number at) (option_map slot_number then)
          (side-differ i s b r) whole here n (e ∙ side-next i s b r done rest slot.0 whole n);
    }

-- none is to come where the walk stands at no slot
pub none-to-come : (at : Option Slot) (rest : List Entry) → option_map slot_number at ≡ slot_of rest → at ≡ None → rest ≡ []
none-to-come at rest here is = none-of (option_map slot_number at) rest here (ap (option_map slot_number) is)
