-- A walk along a level takes the firms out of a set that it meets.
use Rattle.std.proofs.Common.{◌≡◌, ℕ, ◌<◌, ◌==◌, ◌&&◌, ◌||◌, Bool, true, false, not, cond, List, [], ◌∷◌, ◌++◌, length, Option, Some, None, refl, sym, ap, subst, ◌∙◌, append_assoc, arith}
use Prim.Native.Nat.{suc}
use Rattle.std.proofs.lemmas.List.Folds.{list_any-append}
use Rattle.plain_book.specs.declared.entry.Entry.{Entry}
use Rattle.plain_book.specs.Orders.{Level, level_of, is_at, orders_at, HasSlot, order_of, slot_of, slot_after}
use Rattle.plain_book.specs.Book.{Book, IsRight, AllDiffer, live_orders}
use Rattle.plain_book.proofs.LeftFrom.{left_from, left-is}
use Rattle.plain_book.proofs.Levels.{AllDiffer-filter, AllDiffer-front, HasSlot-left, order_of-left}
use Rattle.plain_book.proofs.Walks.{Stands, stands-has, stands-order, stands-after}
use Rattle.gx_base.specs.declared.order.Order.{Order}
use Rattle.lmm_pass.specs.FirmSets.{has_firm, has_order}
use Rattle.lmm_pass.specs.declared.firms.FirmSet.{FirmSet}
use Rattle.lmm_pass.proofs.FirmSets.{none-has}
use Rattle.lmm_pass.proofs.Spends.{is_of_firm, orders_of}

-- ---- the order that a walk stands at

-- of the orders of a level that a walk has still to meet, the first has this slot
pub record Turn (k : Level) (b : Book) (done rest : List Entry) (slot : ℕ) : Type 0 where
  pub entry : Entry
  pub behind : List Entry
  pub is : rest ≡ entry ∷ behind
  pub has : HasSlot slot b.resting
  pub live : HasSlot slot (live_orders b)
  pub order : order_of slot (live_orders b) ≡ entry.order
  pub next : slot_after slot (orders_at (level_of (order_of slot b.resting)) b.resting) ≡ slot_of behind

abbrev Cut : List Entry → ℕ → Type 0
Cut es slot = (e : Entry) × ((behind : List Entry) × ((es ≡ e ∷ behind) × (e.slot ≡ slot)))

cut_of : (es : List Entry) (slot : ℕ) → Some slot ≡ slot_of es → Cut es slot
cut_of [] slot h = absurd (let k : Some slot ≡ None = h in cc)
cut_of (e ∷ es) slot h = (e, (es, (refl, (let k : Some slot ≡ Some e.slot = h in let r : slot ≡ e.slot = cc in sym r))))

-- ---- the firms that were not met

-- each firm of a set is still in it exactly where none of the orders is its own that the walk met
pub record IsMeeting (orders : List Entry) (firms absent : FirmSet) (at : Option ℕ) : Type 0 where
  pub done : List Entry
  pub rest : List Entry
  pub whole : orders ≡ done ++ rest
  pub next : at ≡ slot_of rest
  pub unmet : (f : ℕ) → has_firm absent f ≡ (has_firm firms f && not (has_order f done))

met-one : (h d c : Bool) → ((h && not d) && not c) ≡ (h && not (d || (c || false)))
met-one true true true = refl
met-one true true false = refl
met-one true false true = refl
met-one true false false = refl
met-one false d c = refl

none-more : (h d r : Bool) → (h && not d) ≡ false → (h && not (d || r)) ≡ false
none-more true true r e = refl
none-more true false r e = absurd (let k : true ≡ false = e in cc)
none-more false d r e = refl

not-both : (h o : Bool) → (h && not o) ≡ true → o ≡ false
not-both true true e = absurd (let k : false ≡ true = e in cc)
not-both true false e = refl
not-both false o e = absurd (let k : false ≡ true = e in cc)

-- no firm is looked for
pub none-due : (firms : FirmSet) (orders : List Entry) → firms.bits ≡ 0 → (f : ℕ) → has_firm firms f ≡ (has_firm firms f && not (has_order f orders))
none-due firms orders none f = none-has firms none f ∙ sym (ap (λ (h : Bool). h && not (has_order f orders)) (none-has firms none f))

module _ (k : Level) (b : Book) {firms absent : FirmSet} {at : Option ℕ} (w : IsMeeting (orders_at k b.resting) firms absent at) where
  pub meeting-turn : (slot : ℕ) → IsRight b → at ≡ Some slot → Turn k b w.done w.rest slot
  meeting-turn slot right is =
      let c = cut_of w.rest slot (sym is ∙ w.next) in
      let e = c.0 in
      let s : Stands k b.resting w.done e c.1.0 = record { differ = AllDiffer-front b.resting b.waiting right.differ; is = w.whole ∙ ap (λ (xs : List Entry). w.done ++ xs) c.1.1.0 } in
      let has : HasSlot slot b.resting = subst (λ (x : ℕ). HasSlot x b.resting) c.1.1.1 (stands-has s) in
      record {
        entry = e;
        behind = c.1.0;
        is = c.1.1.0;
        has = has;
        live = HasSlot-left slot b.resting b.waiting has;
        order = order_of-left slot b.resting b.waiting has ∙ ap (λ (x : ℕ). order_of x b.resting) (sym c.1.1.1) ∙ stands-order s;
        next = ap (λ (x : ℕ). slot_after x (orders_at (level_of (order_of x b.resting)) b.resting)) (sym c.1.1.1) ∙ stands-after s;
      }

  -- the firm of the next order is met
  pub meeting-more : (slot : ℕ) (t : Turn k b w.done w.rest slot) (met : Order) (left : FirmSet) (then : Option ℕ) → met ≡ order_of slot (live_orders b)
      → ((f : ℕ) → has_firm left f ≡ (has_firm absent f && not (met.firm == f))) → then ≡ slot_of t.behind → IsMeeting (orders_at k b.resting) firms left then
  meeting-more slot t met left then order out behind = record {
    done = w.done ++ t.entry ∷ [];
    rest = t.behind;
    whole = w.whole ∙ ap (λ (xs : List Entry). w.done ++ xs) t.is ∙ sym (append_assoc w.done (t.entry ∷ []) t.behind);
    next = behind;
    unmet = λ f. out f
        ∙ ap (λ (o : Order). has_firm absent f && not (o.firm == f)) (order ∙ t.order)
        ∙ ap (λ (h : Bool). h && not (t.entry.order.firm == f)) (w.unmet f)
        ∙ met-one (has_firm firms f) (has_order f w.done) (t.entry.order.firm == f)
        ∙ ap (λ (o : Bool). has_firm firms f && not o) (sym (list_any-append (is_of_firm f) w.done (t.entry ∷ [])));
  }

  -- each firm was met
  pub meeting-over : absent.bits ≡ 0 → (f : ℕ) → has_firm absent f ≡ (has_firm firms f && not (has_order f (orders_at k b.resting)))
  meeting-over none f =
      let met = none-has absent none f in
      met ∙ sym (ap (λ (xs : List Entry). has_firm firms f && not (has_order f xs)) w.whole
      ∙ ap (λ (o : Bool). has_firm firms f && not o) (list_any-append (is_of_firm f) w.done w.rest)
      ∙ none-more (has_firm firms f) (has_order f w.done) (has_order f w.rest) (sym (w.unmet f) ∙ met))

  -- fewer orders are to come
  pub meeting-fewer : (slot : ℕ) (t : Turn k b w.done w.rest slot) (then : Option ℕ) → IsRight b → then ≡ slot_of t.behind → left_from then (orders_at k b.resting) < left_from at (orders_at k b.resting)
  meeting-fewer slot t then right behind =
      let es = orders_at k b.resting in
      let differ : AllDiffer es = AllDiffer-filter (is_at k) b.resting (AllDiffer-front b.resting b.waiting right.differ) in
      let past : es ≡ (w.done ++ t.entry ∷ []) ++ t.behind = w.whole ∙ ap (λ (xs : List Entry). w.done ++ xs) t.is ∙ sym (append_assoc w.done (t.entry ∷ []) t.behind) in
      let now : left_from at es ≡ length w.rest = ap (λ (a : Option ℕ). left_from a es) w.next ∙ ap (left_from (slot_of w.rest)) w.whole ∙ left-is w.done w.rest (subst AllDiffer w.whole differ) in
      let one : length w.rest ≡ suc (length t.behind) = ap (λ (xs : List Entry). length xs) t.is in
      let later : left_from then es ≡ length t.behind = ap (λ (a : Option ℕ). left_from a es) behind ∙ ap (left_from (slot_of t.behind)) past ∙ left-is (w.done ++ t.entry ∷ []) t.behind (subst AllDiffer past differ) in
      omega (arith, now, one, later)

-- ---- a firm without an order

none-of-firm : (f : ℕ) (es : List Entry) → has_order f es ≡ false → orders_of f es ≡ []
none-of-firm f [] h = refl
none-of-firm f (e ∷ es) h = let go : (c : Bool) → (c || has_order f es) ≡ false → cond c (e ∷ orders_of f es) (orders_of f es) ≡ [] = elim [
  | true ↦ λ k. absurd (let t : true ≡ false = k in cc)
  | false ↦ λ k. none-of-firm f es k
] in go (e.order.firm == f) h

pub absent-none : (firms absent : FirmSet) (f : ℕ) (es : List Entry) → has_firm absent f ≡ (has_firm firms f && not (has_order f es)) → has_firm absent f ≡ true → orders_of f es ≡ []
absent-none firms absent f es is h = none-of-firm f es (not-both (has_firm firms f) (has_order f es) (sym is ∙ h))
