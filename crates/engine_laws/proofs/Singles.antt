-- How often a slot stands in a list: never more often after a trade, and once more when an order comes to rest.
use Rattle.std.proofs.Common.{◌≡◌, ℕ, ◌+◌, ◌≤◌, Bool, true, false, cond, not, List, [], ◌∷◌, ◌++◌, filter, Option, None, refl, sym, ap, subst, ◌∙◌, arith, inl, inr, ◌⊎◌, sum_by}
use Rattle.std.proofs.lemmas.List.Sums.{sum_by-cons, sum_by-append}
use Rattle.std.proofs.lemmas.Bool.Decides.{eqb_tells}
use Rattle.std.specs.Prelude.{◌==◌, ◌&&◌}
use Rattle.gx_base.specs.declared.order.Side.{Side}
use Rattle.gx_base.specs.declared.order.Order.{Order}
use Rattle.plain_book.specs.declared.entry.Entry.{Entry}
use Rattle.plain_book.specs.Orders.{HasSlot, order_of, no_order, is_at_earlier_level, is_new_best, without, with_order, with_top, topped, placed, settled, traded, refreshed, filled_by}
use Rattle.plain_book.specs.Book.{AllDiffer, first_shown, makes_top, resting_placed}
use Rattle.plain_book.proofs.Walks.{slot-reordered}
use Rattle.level_sweep.proofs.EachOrder.{none-traded}
use Rattle.engine_laws.proofs.Sums.{sum-put, sum-fewer, sum-mapped}

-- 1 where the numbers are the same
abbrev pub once_of : ℕ → ℕ → ℕ
once_of number s = cond (number == s) 1 0

abbrev pub once : ℕ → Entry → ℕ
once s e = once_of e.slot s

-- how often a slot stands in a list
abbrev pub times : ℕ → List Entry → ℕ
times s es = sum_by (once s) es

-- ---- one slot

pub once-same : (n s : ℕ) → n ≡ s → once_of n s ≡ 1
once-same n s is = elim (eqb_tells n s) [ inl t ↦ ap (λ (b : Bool). cond b 1 0) t.0 | inr t ↦ absurd (t.1 is) ]

-- a number is another one, or the same
pub once-or-same : (n s : ℕ) → (n ≡ s) ⊎ (once_of n s ≡ 0)
once-or-same n s = elim (eqb_tells n s) [ inl t ↦ inl t.1 | inr t ↦ inr (ap (λ (b : Bool). cond b 1 0) t.0) ]

pub some-times : (s : ℕ) (es : List Entry) → HasSlot s es → 1 ≤ times s es
some-times s [] h = absurd h
some-times s (e ∷ es) h = elim h [
  | inl a ↦ omega (arith, sum_by-cons (once s) e es, once-same e.slot s a)
  | inr a ↦ omega (arith, sum_by-cons (once s) e es, some-times s es a)
]

pub no-times : (s : ℕ) (es : List Entry) → (HasSlot s es → ⊥) → times s es ≡ 0
no-times s [] h = refl
no-times s (e ∷ es) h = elim (once-or-same e.slot s) [
  | inl is ↦ absurd (h (inl is))
  | inr none ↦ omega (arith, sum_by-cons (once s) e es, none, no-times s es (λ k. h (inr k)))
]

pub times-append : (s : ℕ) (xs ys : List Entry) → times s (xs ++ ys) ≡ times s xs + times s ys
times-append s xs ys = sum_by-append (once s) xs ys

-- ---- slots that differ

-- no slot stands twice
abbrev pub AreSingle : List Entry → Type 0
AreSingle es = (s : ℕ) → times s es ≤ 1

pub single-differ : (es : List Entry) → AreSingle es → AllDiffer es
single-differ [] h = tt
single-differ (e ∷ es) h = (
  (λ k. omega (arith, h e.slot, sum_by-cons (once e.slot) e es, once-same e.slot e.slot refl, some-times e.slot es k)),
  single-differ es (λ s. omega (arith, h s, sum_by-cons (once s) e es)),
)

pub differ-single : (es : List Entry) → AllDiffer es → AreSingle es
differ-single [] d s = omega arith
differ-single (e ∷ es) d s = elim (once-or-same e.slot s) [
  | inl is ↦ omega (arith, sum_by-cons (once s) e es, once-same e.slot s is, no-times s es (subst (λ (n : ℕ). HasSlot n es → ⊥) is d.0))
  | inr none ↦ omega (arith, sum_by-cons (once s) e es, none, differ-single es d.1 s)
]

-- ---- an order leaves

pub times-fewer : (s : ℕ) (p : Entry → Bool) (es : List Entry) → times s (filter p es) ≤ times s es
times-fewer s p es = sum-fewer (once s) p es

pub times-gone : (s : ℕ) (es : List Entry) → times s (without s es) ≡ 0
times-gone s [] = refl
times-gone s (e ∷ es) =
    let left = without s es in
    elim (eqb_tells e.slot s) [
      | inl t ↦ ap (λ (b : Bool). times s (cond (not b) (e ∷ left) left)) t.0 ∙ times-gone s es
      | inr t ↦
          let none : once s e ≡ 0 = ap (λ (b : Bool). cond b 1 0) t.0 in
          ap (λ (b : Bool). times s (cond (not b) (e ∷ left) left)) t.0 ∙ omega (arith, sum_by-cons (once s) e left, none, times-gone s es)
    ]

-- ---- an order comes to rest

times-placed : (s : ℕ) (n : Entry) (es : List Entry) → times s (placed n es) ≡ once s n + times s es
times-placed s n es = sum-put (once s) (is_at_earlier_level n) n es

times-topped : (s i : ℕ) (side : Side) (es : List Entry) → times s (with_top i side None es) ≡ times s es
times-topped s i side es = sum-mapped (once s) (topped i side None) (λ e. refl) es

pub times-rested : (s slot : ℕ) (o : Order) (top_min : Option ℕ) (es : List Entry) → times s (resting_placed slot o top_min es) ≡ once_of slot s + times s es
times-rested s slot o top_min es =
    let best = is_new_best o es in
    let n : Entry = record { slot = slot; order = record o { shown = first_shown o }; is_top = best && makes_top top_min o.leaves } in
    let cleared = with_top o.instrument o.side None es in
    let same : (b : Bool) → times s (cond b cleared es) ≡ times s es = elim [ true ↦ times-topped s o.instrument o.side es | false ↦ refl ] in
    omega (arith, times-placed s n (cond best cleared es), same best)

-- ---- an order trades

times-changed : (s t : ℕ) (o : Order) (es : List Entry) → times s (with_order t o es) ≡ times s es
times-changed s t o es = sum-mapped (once s) _ (λ e. ap (λ (n : ℕ). once_of n s) (slot-reordered t o e)) es

some-or-none : (s : ℕ) (es : List Entry) → (1 ≤ times s es) ⊎ (order_of s es ≡ no_order)
some-or-none s [] = inr refl
some-or-none s (e ∷ es) = elim (eqb_tells e.slot s) [
  | inl t ↦ inl (some-times s (e ∷ es) (inl t.1))
  | inr t ↦ elim (some-or-none s es) [
    | inl h ↦ inl (omega (arith, sum_by-cons (once s) e es, h))
    | inr z ↦ inr (ap (λ (b : Bool). cond b e.order (order_of s es)) t.0 ∙ z)
  ]
]

-- it goes after the others of its price
times-behind : (t : ℕ) (n : Entry) (es : List Entry) → 1 ≤ times n.slot es → times t (placed n (without n.slot es)) ≤ times t es
times-behind t n es some = elim (once-or-same n.slot t) [
  | inl is ↦ subst (λ (k : ℕ). times k (placed n (without n.slot es)) ≤ times k es) is
      (omega (arith, times-placed n.slot n (without n.slot es), times-gone n.slot es, once-same n.slot n.slot refl, some))
  | inr none ↦ omega (arith, times-placed t n (without n.slot es), none, times-fewer t (λ e. not (e.slot == n.slot)) es)
]

times-settled : (t s : ℕ) (o : Order) (es : List Entry) → 1 ≤ times s es → times t (settled s o es) ≤ times t es
times-settled t s o es some =
    let left = without s es in
    let n : Entry = record { slot = s; order = refreshed o; is_top = false } in
    let go : (x y : Bool) → times t (cond x left (cond y (placed n left) (with_order s o es))) ≤ times t es = elim [
      | true ↦ λ y. times-fewer t (λ e. not (e.slot == s)) es
      | false ↦ elim [
        | true ↦ times-behind t n es some
        | false ↦ omega (arith, times-changed t s o es)
      ]
    ] in go (o.leaves == 0) (o.shown == 0)

pub times-traded : (t s n : ℕ) (es : List Entry) → times t (traded s n es) ≤ times t es
times-traded t s n es = elim (some-or-none s es) [
  | inl h ↦ times-settled t s (filled_by n (order_of s es)) es h
  | inr z ↦ subst (λ (l : List Entry). times t l ≤ times t es) (sym (none-traded s s n es es z)) (times-fewer t (λ e. not (e.slot == s)) es)
]

pub times-marked : (t s n : ℕ) (es : List Entry) → times t (with_order s (record (order_of s es) { prorated = n }) es) ≡ times t es
times-marked t s n es = times-changed t s (record (order_of s es) { prorated = n }) es
