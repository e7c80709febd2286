-- What holds of each order, and still does when one of them trades or a share is noted on it, holds of each order after a whole sweep.
use Rattle.std.proofs.Common.{◌≡◌, ◌≢◌, ℕ, ◌-◌, Bool, false, cond, not, List, [], ◌∷◌, filter, refl, sym, ap, subst, ◌∙◌, arith, inl, inr, ◌⊎◌}
use Rattle.std.specs.Prelude.{◌==◌}
use Rattle.std.specs.List.{AllByRecursion}
use Rattle.std.proofs.lemmas.Bool.Decides.{eqb_tells}
use Rattle.gx_base.specs.declared.order.Order.{Order}
use Rattle.plain_book.specs.declared.entry.Entry.{Entry}
use Rattle.plain_book.specs.Orders.{HasSlot, order_of, no_order, without, with_order, placed, settled, traded, refreshed, filled_by, is_at_earlier_level}
use Rattle.plain_book.proofs.Levels.{renewed, with_order-none}
use Rattle.plain_book.proofs.Pairs.{all-filter, all-append}
use Rattle.level_sweep.proofs.EachTrade.{Relation, IsKept, RestingStays, resting-kept}

-- where there is no order, nothing is traded
pub none-traded : (s t n : ℕ) (es xs : List Entry) → order_of s es ≡ no_order → settled t (filled_by n (order_of s es)) xs ≡ without t xs
none-traded s t n es xs h =
    let o : Order = filled_by n (order_of s es) in
    let z : o.leaves ≡ 0 = ap (λ (x : Order). x.leaves - n) h ∙ omega arith in
    ap (λ (k : ℕ). cond (k == 0) (without t xs) (cond (o.shown == 0) (placed (record { slot = t; order = refreshed o; is_top = false }) (without t xs)) (with_order t o xs))) z

-- the entry that has become an order, and stands after its price
abbrev pub behind : ℕ → Order → Entry
behind s o = record { slot = s; order = refreshed o; is_top = false }

-- The order e trades n lots or a share is noted on it, and Q holds of what then stands in the place of x, which has its slot.
pub record StaysTrue (Q : Entry → Type 0) : Type 0 where
  pub fills : (n : ℕ) (e x : Entry) → Q e → Q x → x.slot ≡ e.slot → e.order.shown - n ≢ 0 → Q (renewed x (filled_by n e.order))
  pub refreshes : (n : ℕ) (e : Entry) → Q e → e.order.leaves - n ≢ 0 → e.order.shown - n ≡ 0 → Q (behind e.slot (filled_by n e.order))
  pub marks : (n : ℕ) (e x : Entry) → Q e → Q x → x.slot ≡ e.slot → Q (renewed x (record e.order { prorated = n }))

module _ (Q : Entry → Type 0) where
  abbrev All : List Entry → Type 0
  All es = AllByRecursion Q es

  -- the order of a slot, of which Q holds
  pub record IsFound (s : ℕ) (es : List Entry) : Type 0 where
    pub entry : Entry
    pub slot : entry.slot ≡ s
    pub order : entry.order ≡ order_of s es
    pub holds : Q entry

  abbrev pub FoundOrNone : ℕ → List Entry → Type 0
  FoundOrNone s es = ((HasSlot s es → ⊥) × (order_of s es ≡ no_order)) ⊎ IsFound s es

  pub found : (s : ℕ) (es : List Entry) → All es → FoundOrNone s es
  found s [] h = inl ((λ k. k), refl)
  found s (e ∷ es) h = elim (eqb_tells e.slot s) [
    | inl t ↦ inr (record { entry = e; slot = t.1; order = sym (ap (λ (b : Bool). cond b e.order (order_of s es)) t.0); holds = h.0 })
    | inr t ↦
        let is : order_of s (e ∷ es) ≡ order_of s es = ap (λ (b : Bool). cond b e.order (order_of s es)) t.0 in
        elim (found s es h.1) [
          | inl g ↦ inl ((λ k. elim k [ inl a ↦ t.1 a | inr a ↦ g.0 a ]), is ∙ g.1)
          | inr f ↦ inr (record { entry = f.entry; slot = f.slot; order = f.order ∙ sym is; holds = f.holds })
        ]
  ]

  all-with_order : (s : ℕ) (o : Order) (es : List Entry) → ((x : Entry) → Q x → x.slot ≡ s → Q (renewed x o)) → All es → All (with_order s o es)
  all-with_order s o [] h a = tt
  all-with_order s o (e ∷ es) h a = (
    elim (eqb_tells e.slot s) [
      | inl t ↦ subst (λ (b : Bool). Q (cond b (renewed e o) e)) (sym t.0) (h e a.0 t.1)
      | inr t ↦ subst (λ (b : Bool). Q (cond b (renewed e o) e)) (sym t.0) a.0
    ],
    all-with_order s o es h a.1,
  )

  all-without : (s : ℕ) (es : List Entry) → All es → All (without s es)
  all-without s es a = all-filter Q (λ e. not (e.slot == s)) es a

  all-placed : (n : Entry) (es : List Entry) → Q n → All es → All (placed n es)
  all-placed n es h a =
      all-append Q (filter (λ e. not (is_at_earlier_level n e)) es) (n ∷ filter (is_at_earlier_level n) es) (all-filter Q (λ e. not (is_at_earlier_level n e)) es a) (h, all-filter Q (is_at_earlier_level n) es a)

  module _ (stays : StaysTrue Q) where
    all-settled : (n : ℕ) (e : Entry) (es : List Entry) → Q e → All es → All (settled e.slot (filled_by n e.order) es)
    all-settled n e es h a =
        let o : Order = filled_by n e.order in
        let left = without e.slot es in
        let gone : All left = all-without e.slot es a in
        let By = λ (x y : Bool). All (cond x left (cond y (placed (behind e.slot o) left) (with_order e.slot o es))) in
        elim (eqb_tells o.leaves 0) [
          | inl t ↦ subst (λ (x : Bool). By x (o.shown == 0)) (sym t.0) gone
          | inr t ↦ subst (λ (x : Bool). By x (o.shown == 0)) (sym t.0) (elim (eqb_tells o.shown 0) [
            | inl u ↦ subst (λ (y : Bool). By false y) (sym u.0) (all-placed (behind e.slot o) left (stays.refreshes n e h t.1 u.1) gone)
            | inr u ↦ subst (λ (y : Bool). By false y) (sym u.0) (all-with_order e.slot o es (λ x q is. stays.fills n e x h q is u.1) a)
          ])
        ]

    pub all-traded : (s n : ℕ) (es : List Entry) → All es → All (traded s n es)
    all-traded s n es a = elim (found s es a) [
      | inl g ↦ subst All (sym (none-traded s s n es es g.1)) (all-without s es a)
      | inr f ↦ subst (λ (o : Order). All (settled s (filled_by n o) es)) f.order (subst (λ (k : ℕ). All (settled k (filled_by n f.entry.order) es)) f.slot (all-settled n f.entry es f.holds a))
    ]

    pub all-marked : (s n : ℕ) (es : List Entry) → All es → All (with_order s (record (order_of s es) { prorated = n }) es)
    all-marked s n es a = elim (found s es a) [
      | inl g ↦ subst All (sym (with_order-none s (record (order_of s es) { prorated = n }) es g.0)) a
      | inr f ↦ subst (λ (o : Order). All (with_order s (record o { prorated = n }) es)) f.order (all-with_order s (record f.entry.order { prorated = n }) es (λ x q is. stays.marks n f.entry x f.holds q (is ∙ sym f.slot)) a)
    ]

    abbrev pub AllStay : Relation
    AllStay = RestingStays All

    pub all-kept : IsKept AllStay
    all-kept = resting-kept All all-traded all-marked
