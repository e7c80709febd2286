-- What a sweep keeps: there are no more orders than before, and of the incoming order only what is filled and open changes.
use Rattle.std.proofs.Common.{◌≡◌, ℕ, ◌+◌, ◌≤◌, Bool, true, false, cond, not, List, [], ◌∷◌, filter, length, refl, sym, ap, subst, ◌∙◌, arith, inl, inr, ◌⊎◌, length-append}
use Prim.Native.Nat.{suc}
use Rattle.std.specs.Prelude.{◌==◌}
use Rattle.std.proofs.lemmas.Bool.Decides.{eqb_tells}
use Rattle.gx_base.specs.declared.price.Price.{Price}
use Rattle.gx_base.specs.declared.order.Order.{Order}
use Rattle.step_config.specs.declared.step.Step.{Step}
use Rattle.plain_book.specs.declared.entry.Entry.{Entry}
use Rattle.plain_book.specs.Orders.{HasSlot, order_of, no_order, without, with_order, placed, settled, traded, refreshed, filled_by, is_at_earlier_level}
use Rattle.plain_book.specs.Match.{MatchState}
use Rattle.level_sweep.specs.Sweep.{sweep}
use Rattle.level_sweep.proofs.EachTrade.{Relation, IsKept, each-sweep}
use Rattle.level_sweep.proofs.EachOrder.{none-traded}

-- ---- the number of orders

shorter : (p : Entry → Bool) (es : List Entry) → length (filter p es) ≤ length es
shorter p [] = omega arith
shorter p (e ∷ es) =
    let go : (b : Bool) → length (cond b (e ∷ filter p es) (filter p es)) ≤ suc (length es) = elim [ true ↦ omega (arith, shorter p es) | false ↦ omega (arith, shorter p es) ] in go (p e)

halves : (p : Entry → Bool) (es : List Entry) → length (filter (λ e. not (p e)) es) + length (filter p es) ≡ length es
halves p [] = refl
halves p (e ∷ es) =
    let f = filter (λ x. not (p x)) es in
    let g = filter p es in
    let go : (b : Bool) → length (cond (not b) (e ∷ f) f) + length (cond b (e ∷ g) g) ≡ suc (length es) = elim [ true ↦ omega (arith, halves p es) | false ↦ omega (arith, halves p es) ] in go (p e)

placed-longer : (n : Entry) (es : List Entry) → length (placed n es) ≡ suc (length es)
placed-longer n es =
    omega (arith, length-append (filter (λ e. not (is_at_earlier_level n e)) es) (n ∷ filter (is_at_earlier_level n) es), halves (is_at_earlier_level n) es)

with_order-long : (s : ℕ) (o : Order) (es : List Entry) → length (with_order s o es) ≡ length es
with_order-long s o [] = refl
with_order-long s o (e ∷ es) = ap suc (with_order-long s o es)

without-shorter : (s : ℕ) (es : List Entry) → HasSlot s es → suc (length (without s es)) ≤ length es
without-shorter s [] h = absurd h
without-shorter s (e ∷ es) h = elim (eqb_tells e.slot s) [
  | inl t ↦ subst (λ (b : Bool). suc (length (cond (not b) (e ∷ without s es) (without s es))) ≤ suc (length es)) (sym t.0) (omega (arith, shorter (λ x. not (x.slot == s)) es))
  | inr t ↦ elim h [
    | inl a ↦ absurd (t.1 a)
    | inr a ↦ subst (λ (b : Bool). suc (length (cond (not b) (e ∷ without s es) (without s es))) ≤ suc (length es)) (sym t.0) (omega (arith, without-shorter s es a))
  ]
]

slot-or-none : (s : ℕ) (es : List Entry) → HasSlot s es ⊎ (order_of s es ≡ no_order)
slot-or-none s [] = inr refl
slot-or-none s (e ∷ es) = elim (eqb_tells e.slot s) [
  | inl t ↦ inl (inl t.1)
  | inr t ↦ elim (slot-or-none s es) [
    | inl h ↦ inl (inr h)
    | inr z ↦ inr (ap (λ (b : Bool). cond b e.order (order_of s es)) t.0 ∙ z)
  ]
]

fewer-settled : (s : ℕ) (o : Order) (es : List Entry) → HasSlot s es → length (settled s o es) ≤ length es
fewer-settled s o es h =
    let left = without s es in
    let n : Entry = record { slot = s; order = refreshed o; is_top = false } in
    let go : (x y : Bool) → length (cond x left (cond y (placed n left) (with_order s o es))) ≤ length es = elim [
      | true ↦ λ y. shorter (λ e. not (e.slot == s)) es
      | false ↦ elim [
        | true ↦ omega (arith, placed-longer n left, without-shorter s es h)
        | false ↦ omega (arith, with_order-long s o es)
      ]
    ] in go (o.leaves == 0) (o.shown == 0)

fewer-traded : (s n : ℕ) (es : List Entry) → length (traded s n es) ≤ length es
fewer-traded s n es = elim (slot-or-none s es) [
  | inl h ↦ fewer-settled s (filled_by n (order_of s es)) es h
  | inr z ↦ subst (λ (l : List Entry). length l ≤ length es) (sym (none-traded s s n es es z)) (shorter (λ e. not (e.slot == s)) es)
]

abbrev AreFewer : Relation
AreFewer a b = length b.book.resting ≤ length a.book.resting

fewer : IsKept AreFewer
fewer = record {
  same = λ m. omega arith;
  both = λ a b c h k. omega (arith, h, k);
  trades = λ step s n m. fewer-traded s n m.book.resting;
  marks = λ s n m. omega (arith, with_order-long s (record (order_of s m.book.resting) { prorated = n }) m.book.resting);
}

-- no more orders rest than before
pub sweep-fewer : (steps : List Step) (limit : Price) (m : MatchState) → length (sweep steps limit m).book.resting ≤ length m.book.resting
sweep-fewer steps limit m = each-sweep AreFewer fewer steps limit m

-- ---- the incoming order

-- an order as another one, but for what is filled and what is open
abbrev pub filled_as : Order → Order → Order
filled_as now o = record o { filled = now.filled; leaves = now.leaves }

abbrev OrderStays : Relation
OrderStays a b = b.taker.order ≡ filled_as b.taker.order a.taker.order

order : IsKept OrderStays
order = record {
  same = λ m. refl;
  both = λ a b c h k. k ∙ ap (filled_as c.taker.order) h;
  trades = λ step s n m. refl;
  marks = λ s n m. refl;
}

-- the incoming order stays what it was, but for what is filled and open
pub sweep-order : (steps : List Step) (limit : Price) (m : MatchState) → (sweep steps limit m).taker.order ≡ filled_as (sweep steps limit m).taker.order m.taker.order
sweep-order steps limit m = each-sweep OrderStays order steps limit m
