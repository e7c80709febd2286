-- A walk along a level while its orders trade: what is still to come stays in its place.
use Rattle.std.proofs.Common.{◌≡◌, ℕ, Option, Bool, true, false, cond, not, List, [], ◌∷◌, ◌++◌, filter, refl, sym, ap, subst, ◌∙◌, inl, inr}
use Rattle.std.proofs.lemmas.Bool.Decides.{eqb_tells}
use Rattle.std.specs.Prelude.{◌==◌}
use Rattle.gx_base.specs.declared.order.Order.{Order}
use Rattle.plain_book.specs.declared.entry.Entry.{Entry}
use Rattle.plain_book.specs.Orders.{Level, level_of, is_at, orders_at, HasSlot, order_of, slot_of, slot_after, without, with_order, reordered, placed}
use Rattle.plain_book.specs.Book.{AllDiffer}
use Rattle.plain_book.proofs.Filters.{filter-comm}
use Rattle.plain_book.proofs.Levels.{HasSlot-filter, AllDiffer-filter, HasSlot-middle, order_of-middle, order_of-filter, slot_after-middle, without-middle, with_order-middle, with_order-level, placed-level, is_level-same, renewed}

-- the order e stands in the level k of es, after xs and before ys
pub record Stands (k : Level) (es xs : List Entry) (e : Entry) (ys : List Entry) : Type 0 where
  pub differ : AllDiffer es
  pub is : orders_at k es ≡ xs ++ e ∷ ys

-- the orders that a walk has still to meet stand in the level before those that it refreshed, of which the first has this
-- slot
pub record Remains (k : Level) (es rest : List Entry) (end : Option ℕ) : Type 0 where
  pub before : List Entry
  pub behind : List Entry
  pub is : orders_at k es ≡ before ++ (rest ++ behind)
  pub ends : end ≡ slot_of behind

abbrev Passes : (Entry → Bool) → List Entry → Type 0
Passes p [] = Unit {0}
Passes p (e ∷ es) = (p e ≡ true) × Passes p es

Passes-filter : (p : Entry → Bool) (es : List Entry) → Passes p (filter p es)
Passes-filter p [] = tt
Passes-filter p (e ∷ es) =
    let go : (b : Bool) → p e ≡ b → Passes p (cond b (e ∷ filter p es) (filter p es)) = elim [ true ↦ λ h. (h, Passes-filter p es) | false ↦ λ h. Passes-filter p es ] in
    go (p e) refl

Passes-middle : (p : Entry → Bool) (xs ys : List Entry) (e : Entry) → Passes p (xs ++ e ∷ ys) → p e ≡ true
Passes-middle p [] ys e h = h.0
Passes-middle p (x ∷ xs) ys e h = Passes-middle p xs ys e h.1

module _ {k : Level} {es xs : List Entry} {e : Entry} {ys : List Entry} (s : Stands k es xs e ys) where
  pub stands-differ : AllDiffer (xs ++ e ∷ ys)
  stands-differ = subst AllDiffer s.is (AllDiffer-filter (is_at k) es s.differ)

  pub stands-has : HasSlot e.slot es
  stands-has = HasSlot-filter (is_at k) e.slot es (subst (HasSlot e.slot) (sym s.is) (HasSlot-middle xs ys e))

  pub stands-order : order_of e.slot es ≡ e.order
  stands-order =
      sym (order_of-filter (is_at k) e.slot es s.differ (subst (HasSlot e.slot) (sym s.is) (HasSlot-middle xs ys e)))
      ∙ ap (order_of e.slot) s.is ∙ order_of-middle xs ys e stands-differ

  pub stands-level : level_of e.order ≡ k
  stands-level = is_level-same _ _ (Passes-middle (is_at k) xs ys e (subst (Passes (is_at k)) s.is (Passes-filter (is_at k) es)))

  pub stands-after : slot_after e.slot (orders_at (level_of (order_of e.slot es)) es) ≡ slot_of ys
  stands-after = ap (λ (q : Level). slot_after e.slot (orders_at q es)) (ap level_of stands-order ∙ stands-level) ∙ ap (slot_after e.slot) s.is ∙ slot_after-middle xs ys e stands-differ

  -- the order changes, and stays
  pub stands-with_order : (o : Order) → level_of o ≡ level_of e.order → orders_at k (with_order e.slot o es) ≡ xs ++ renewed e o ∷ ys
  stands-with_order o l = with_order-level k e.slot o es s.differ (l ∙ ap level_of (sym stands-order)) ∙ ap (with_order e.slot o) s.is ∙ with_order-middle xs ys e o stands-differ

  pub stands-without : orders_at k (without e.slot es) ≡ xs ++ ys
  stands-without = filter-comm (is_at k) (λ x. not (x.slot == e.slot)) es ∙ ap (without e.slot) s.is ∙ without-middle xs ys e stands-differ

  -- the order comes to stand last
  pub stands-last : (n : Entry) → level_of n.order ≡ level_of e.order → orders_at k (placed n (without e.slot es)) ≡ (xs ++ ys) ++ n ∷ []
  stands-last n l =
      ap (λ (q : Level). orders_at q (placed n (without e.slot es))) (sym (l ∙ stands-level))
      ∙ placed-level n (without e.slot es)
      ∙ ap (λ (q : Level). orders_at q (without e.slot es) ++ n ∷ []) (l ∙ stands-level)
      ∙ ap (λ (q : List Entry). q ++ n ∷ []) stands-without

-- ---- an order that is marked

pub slot-reordered : (s : ℕ) (o : Order) (e : Entry) → (reordered s o e).slot ≡ e.slot
slot-reordered s o e = elim (e.slot == s) as (λ b. (cond b (renewed e o) e).slot ≡ e.slot) [ true ↦ refl | false ↦ refl ]

pub HasSlot-with_order : (s t : ℕ) (o : Order) (es : List Entry) → HasSlot t es → HasSlot t (with_order s o es)
HasSlot-with_order s t o [] h = h
HasSlot-with_order s t o (e ∷ es) h = elim h [ inl a ↦ inl (slot-reordered s o e ∙ a) | inr a ↦ inr (HasSlot-with_order s t o es a) ]

pub HasSlot-before : (s t : ℕ) (o : Order) (es : List Entry) → HasSlot t (with_order s o es) → HasSlot t es
HasSlot-before s t o [] h = h
HasSlot-before s t o (e ∷ es) h = elim h [ inl a ↦ inl (sym (slot-reordered s o e) ∙ a) | inr a ↦ inr (HasSlot-before s t o es a) ]

pub AllDiffer-with_order : (s : ℕ) (o : Order) (es : List Entry) → AllDiffer es → AllDiffer (with_order s o es)
AllDiffer-with_order s o [] d = d
AllDiffer-with_order s o (e ∷ es) d =
    ((λ h. d.0 (HasSlot-before s e.slot o es (subst (λ (n : ℕ). HasSlot n (with_order s o es)) (slot-reordered s o e) h))), AllDiffer-with_order s o es d.1)

pub order_of-with_order : (s : ℕ) (o : Order) (es : List Entry) → HasSlot s es → order_of s (with_order s o es) ≡ o
order_of-with_order s o [] h = absurd h
order_of-with_order s o (e ∷ es) h = elim (eqb_tells e.slot s) [
  | inl t ↦ ap (λ (x : Entry). cond (x.slot == s) x.order (order_of s (with_order s o es))) (ap (λ (b : Bool). cond b (renewed e o) e) t.0) ∙ ap (λ (b : Bool). cond b o (order_of s (with_order s o es))) t.0
  | inr t ↦
      ap (λ (x : Entry). cond (x.slot == s) x.order (order_of s (with_order s o es))) (ap (λ (b : Bool). cond b (renewed e o) e) t.0)
      ∙ ap (λ (b : Bool). cond b e.order (order_of s (with_order s o es))) t.0
      ∙ order_of-with_order s o es (elim h [ inl a ↦ absurd (t.1 a) | inr a ↦ a ])
]
