-- The first order of a level, as a book finds it.
use Rattle.std.proofs.Common.{◌≡◌, ℕ, List, [], ◌∷◌, refl, sym, ap, subst, ◌∙◌, Option, Some, None}
use Rattle.std.specs.Prelude.{option_map}
use Rattle.gx_base.specs.declared.price.Price.{Price}
use Rattle.gx_base.specs.declared.order.Side.{Side}
use Rattle.gx_base.specs.declared.order.Slot.{Slot}
use Rattle.gx_base.specs.declared.order.Taker.{Taker}
use Rattle.plain_book.specs.declared.entry.Entry.{Entry}
use Rattle.plain_book.specs.Orders.{Level, level, orders_at, opposite, HasSlot, order_of, slot_of}
use Rattle.plain_book.specs.Book.{Book, IsRight, IsResting, live_orders, slot_number}
use Rattle.plain_book.specs.Steps.{facing}
use Rattle.plain_book.proofs.Live.{fit_of}
use Rattle.plain_book.proofs.Levels.{AllDiffer-front, HasSlot-left, order_of-left}
use Rattle.plain_book.proofs.Walks.{Stands, stands-has, stands-order}

-- the first order of a level
pub record IsHead (k : Level) (b : Book) (slot : ℕ) : Type 0 where
  pub entry : Entry
  pub rest : List Entry
  pub is : orders_at k b.resting ≡ entry ∷ rest
  pub slot_is : entry.slot ≡ slot
  pub has : HasSlot slot b.resting
  pub live : HasSlot slot (live_orders b)
  pub order : order_of slot b.resting ≡ entry.order
  pub live_order : order_of slot (live_orders b) ≡ entry.order
  pub fit : IsResting b.instruments entry.order

abbrev Cut : List Entry → ℕ → Type 0
Cut es slot = (e : Entry) × ((rest : List Entry) × ((es ≡ e ∷ rest) × (e.slot ≡ slot)))

cut_of : (es : List Entry) (slot : ℕ) → Some slot ≡ slot_of es → Cut es slot
cut_of [] slot h = absurd (let k : Some slot ≡ None = h in cc)
cut_of (e ∷ es) slot h = (e, (es, (refl, (let k : Some slot ≡ Some e.slot = h in let r : slot ≡ e.slot = cc in sym r))))

head_of : (k : Level) (b : Book) (slot : ℕ) → IsRight b → Some slot ≡ slot_of (orders_at k b.resting) → IsHead k b slot
head_of k b slot right h =
    let c = cut_of (orders_at k b.resting) slot h in
    let e = c.0 in
    let rest = c.1.0 in
    let is = c.1.1.0 in
    let slot_is = c.1.1.1 in
    let s : Stands k b.resting [] e rest = record { differ = AllDiffer-front b.resting b.waiting right.differ; is = is } in
    let has : HasSlot slot b.resting = subst (λ (x : ℕ). HasSlot x b.resting) slot_is (stands-has s) in
    let order : order_of slot b.resting ≡ e.order = ap (λ (x : ℕ). order_of x b.resting) (sym slot_is) ∙ stands-order s in
    record {
      entry = e;
      rest = rest;
      is = is;
      slot_is = slot_is;
      has = has;
      live = HasSlot-left slot b.resting b.waiting has;
      order = order;
      live_order = order_of-left slot b.resting b.waiting has ∙ order;
      fit = subst (IsResting b.instruments) order (fit_of b.instruments slot b.resting right.rest has);
    }

none_first : (es : List Entry) → None ≡ slot_of es → es ≡ []
none_first [] h = refl
none_first (e ∷ es) h = absurd (let k : None ≡ Some e.slot = h in cc)

module _ (price : Price) (t0 t : Taker) (side : Side) (b : Book) (at : Option Slot) where
  -- where the side was taken of the incoming order as it was before
  now-first : facing price t ≡ facing price t0 → side ≡ opposite t0.order.side → option_map slot_number at ≡ slot_of (orders_at (level t0.order.instrument side price) b.resting)
      → option_map slot_number at ≡ slot_of (orders_at (facing price t) b.resting)
  now-first faces s first = first ∙ ap (λ (d : Side). slot_of (orders_at (level t0.order.instrument d price) b.resting)) s ∙ ap (λ (k : Level). slot_of (orders_at k b.resting)) (sym faces)

  -- the first order that a book found at a price, which has this slot
  pub found : (slot : Slot) → facing price t ≡ facing price t0 → side ≡ opposite t0.order.side → option_map slot_number at ≡ slot_of (orders_at (level t0.order.instrument side price) b.resting)
      → at ≡ Some slot → IsRight b → IsHead (facing price t) b slot.0
  found slot faces s first is right = head_of (facing price t) b slot.0 right (sym (ap (option_map slot_number) is) ∙ now-first faces s first)

  -- it found none
  pub found_none : facing price t ≡ facing price t0 → side ≡ opposite t0.order.side → option_map slot_number at ≡ slot_of (orders_at (level t0.order.instrument side price) b.resting)
      → at ≡ None → orders_at (facing price t) b.resting ≡ []
  found_none faces s first is = none_first (orders_at (facing price t) b.resting) (sym (ap (option_map slot_number) is) ∙ now-first faces s first)
