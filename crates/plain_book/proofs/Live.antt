-- What holds of the orders of a list, when one of them changes or is settled.
use Rattle.std.proofs.Common.{◌≡◌, ℕ, Bool, true, false, cond, not, ◌&&◌, List, [], ◌∷◌, ◌++◌, filter, refl, sym, ap, subst, ◌∙◌, inl, inr, ◌||◌, Some, None}
use Rattle.std.proofs.lemmas.Bool.Decides.{eqb_tells}
use Rattle.std.specs.Prelude.{◌==◌, bytes_eq}
use Rattle.std.specs.List.{AllByRecursion}
use Rattle.gx_base.specs.declared.order.Order.{Order}
use Rattle.plain_book.specs.declared.entry.Entry.{Entry}
use Rattle.plain_book.specs.Orders.{HasSlot, order_of, slot_of, slot_after, slot_named, is_named, is_live, is_at_earlier_level, without, with_order, placed, settled, refreshed, filled_by}
use Rattle.plain_book.specs.Book.{Book, live_orders, book_traded, book_with_order, AllRest, IsResting}
use Rattle.plain_book.proofs.Pairs.{all-filter, all-append, all-front, all-back, none-any, any-none}
use Rattle.plain_book.proofs.Levels.{renewed}

module _ (P : Order → Type 0) where
  abbrev pub AllOrders : List Entry → Type 0
  AllOrders es = AllByRecursion (λ (e : Entry). P e.order) es

  -- it holds of the order of a slot
  pub orders-at : (s : ℕ) (es : List Entry) → AllOrders es → HasSlot s es → P (order_of s es)
  orders-at s [] a h = absurd h
  orders-at s (e ∷ es) a h = elim (eqb_tells e.slot s) [
    | inl t ↦ subst (λ (b : Bool). P (cond b e.order (order_of s es))) (sym t.0) a.0
    | inr t ↦ subst (λ (b : Bool). P (cond b e.order (order_of s es))) (sym t.0) (orders-at s es a.1 (elim h [ inl x ↦ absurd (t.1 x) | inr x ↦ x ]))
  ]

  pub orders-with_order : (s : ℕ) (o : Order) (es : List Entry) → (HasSlot s es → P o) → AllOrders es → AllOrders (with_order s o es)
  orders-with_order s o [] h a = tt
  orders-with_order s o (e ∷ es) h a = (
    elim (eqb_tells e.slot s) [
      | inl t ↦ subst (λ (b : Bool). P (cond b (renewed e o) e).order) (sym t.0) (h (inl t.1))
      | inr t ↦ subst (λ (b : Bool). P (cond b (renewed e o) e).order) (sym t.0) a.0
    ],
    orders-with_order s o es (λ k. h (inr k)) a.1,
  )

  pub orders-placed : (n : Entry) (es : List Entry) → P n.order → AllOrders es → AllOrders (placed n es)
  orders-placed n es h a =
      let Q = λ (e : Entry). P e.order in
      all-append Q (filter (λ e. not (is_at_earlier_level n e)) es) (n ∷ filter (is_at_earlier_level n) es) (all-filter Q (λ e. not (is_at_earlier_level n e)) es a) (h, all-filter Q (is_at_earlier_level n) es a)

  pub orders-settled : (s : ℕ) (o : Order) (es : List Entry) → P o → P (refreshed o) → AllOrders es → AllOrders (settled s o es)
  orders-settled s o es h k a =
      let n : Entry = record { slot = s; order = refreshed o; is_top = false } in
      let gone : AllOrders (without s es) = all-filter (λ (e : Entry). P e.order) (λ e. not (e.slot == s)) es a in
      let go : (x y : Bool) → AllOrders (cond x (without s es) (cond y (placed n (without s es)) (with_order s o es))) = elim [
        | true ↦ λ y. gone
        | false ↦ elim [ true ↦ orders-placed n (without s es) k gone | false ↦ orders-with_order s o es (λ _. h) a ]
      ] in go (o.leaves == 0) (o.shown == 0)

-- every order of a book is as it has to be to rest
pub fit_of : (n s : ℕ) (es : List Entry) → AllRest n es → HasSlot s es → IsResting n (order_of s es)
fit_of n s es f h = orders-at (IsResting n) s es f h

-- ---- no order has a firm and id

abbrev pub IsUnnamed : ℕ → List ℕ → Order → Type 0
IsUnnamed firm id o = ((o.firm == firm) && bytes_eq o.id id) ≡ false

module _ (firm : ℕ) (id : List ℕ) (b : Book) (h : is_live firm id (live_orders b) ≡ false) where
  all-unnamed : AllOrders (IsUnnamed firm id) (live_orders b)
  all-unnamed = none-any (is_named firm id) (live_orders b) h

  with-resting : (es : List Entry) → AllOrders (IsUnnamed firm id) es → is_live firm id (live_orders (record b { resting = es })) ≡ false
  with-resting es a =
      let Q = λ (e : Entry). IsUnnamed firm id e.order in
      any-none (is_named firm id) (es ++ b.waiting) (all-append Q es b.waiting a (all-back Q b.resting b.waiting all-unnamed))

  resting-unnamed : AllOrders (IsUnnamed firm id) b.resting
  resting-unnamed = all-front (λ (e : Entry). IsUnnamed firm id e.order) b.resting b.waiting all-unnamed

  -- a trade gives no order another name
  pub unnamed-traded : (s n : ℕ) → HasSlot s b.resting → is_live firm id (live_orders (book_traded s n b)) ≡ false
  unnamed-traded s n has =
      let u = orders-at (IsUnnamed firm id) s b.resting resting-unnamed has in
      let o : Order = filled_by n (order_of s b.resting) in
      with-resting (settled s o b.resting) (orders-settled (IsUnnamed firm id) s o b.resting u u resting-unnamed)

  -- nor does a change that keeps firm and id
  pub unnamed-with_order : (s : ℕ) (o : Order) → HasSlot s b.resting → o.firm ≡ (order_of s b.resting).firm → o.id ≡ (order_of s b.resting).id → is_live firm id (live_orders (book_with_order s o b)) ≡ false
  unnamed-with_order s o has f i =
      let old = order_of s b.resting in
      let u : IsUnnamed firm id old = orders-at (IsUnnamed firm id) s b.resting resting-unnamed has in
      let n : IsUnnamed firm id o = ap (λ (x : ℕ). (x == firm) && bytes_eq o.id id) f ∙ ap (λ (x : List ℕ). (old.firm == firm) && bytes_eq x id) i ∙ u in
      with-resting (with_order s o b.resting) (orders-with_order (IsUnnamed firm id) s o b.resting (λ _. n) resting-unnamed)

-- ---- what is found in a list

pub unnamed-none : (firm : ℕ) (id : List ℕ) (es : List Entry) → slot_named firm id es ≡ None → is_live firm id es ≡ false
unnamed-none firm id [] h = refl
unnamed-none firm id (e ∷ es) h =
    let go : (c : Bool) → slot_of (cond c (e ∷ filter (is_named firm id) es) (filter (is_named firm id) es)) ≡ None → (c || is_live firm id es) ≡ false = elim [
      | true ↦ λ k. absurd (let f : Some e.slot ≡ None = k in cc)
      | false ↦ λ k. unnamed-none firm id es k
    ] in go (is_named firm id e) h

-- the first of a list
pub first-has : (s : ℕ) (es : List Entry) → slot_of es ≡ Some s → HasSlot s es
first-has s [] h = absurd (let f : None ≡ Some s = h in cc)
first-has s (e ∷ es) h = inl (let f : Some e.slot ≡ Some s = h in cc)

-- the next one
pub after-has : (s t : ℕ) (es : List Entry) → slot_after s es ≡ Some t → HasSlot t es
after-has s t [] h = absurd (let f : None ≡ Some t = h in cc)
after-has s t (e ∷ es) h =
    let go : (c : Bool) → cond c (slot_of es) (slot_after s es) ≡ Some t → HasSlot t (e ∷ es) = elim [
      | true ↦ λ k. inr (first-has t es k)
      | false ↦ λ k. inr (after-has s t es k)
    ] in go (e.slot == s) h
