-- The open lots of those orders that count, as one sum over a list, and what becomes of it.
use Rattle.std.proofs.Common.{◌≡◌, ℕ, ◌+◌, ◌-◌, ◌≤◌, min, Bool, true, false, cond, not, List, [], ◌∷◌, ◌++◌, map, filter, refl, sym, ap, subst, ◌∙◌, arith, inl, inr, sum_by}
use Rattle.std.specs.Prelude.{◌==◌}
use Rattle.std.proofs.lemmas.Bool.Decides.{eqb_tells}
use Rattle.std.proofs.lemmas.List.Sums.{sum_by-cons, sum_by-append}
use Rattle.gx_base.specs.declared.order.Order.{Order}
use Rattle.plain_book.specs.declared.entry.Entry.{Entry}
use Rattle.plain_book.specs.Orders.{is_at_earlier_level, is_of_earlier_instrument, HasSlot, order_of, without, with_order, placed, lined_up, settled, filled_by, refreshed}
use Rattle.plain_book.specs.Book.{AllDiffer}
use Rattle.plain_book.proofs.Levels.{renewed, without-none, with_order-none}

module _ (counts : Order → Bool) where
  -- so many lots of an order, if it counts
  abbrev pub part : Order → ℕ → ℕ
  part o lots = cond (counts o) lots 0

  abbrev pub weight : Entry → ℕ
  weight e = part e.order e.order.leaves

  pub weight-without : (s : ℕ) (es : List Entry) → AllDiffer es → HasSlot s es → sum_by weight (without s es) + part (order_of s es) (order_of s es).leaves ≡ sum_by weight es
  weight-without s [] differ h = absurd h
  weight-without s (e ∷ es) differ h =
      let W = sum_by weight in
      let w = λ (o : Order). part o o.leaves in
      elim (eqb_tells e.slot s) [
        | inl t ↦
            let lack : HasSlot s es → ⊥ = λ k. differ.0 (subst (λ (n : ℕ). HasSlot n es) (sym t.1) k) in
            subst (λ (b : Bool). W (cond (not b) (e ∷ without s es) (without s es)) + w (cond b e.order (order_of s es)) ≡ W (e ∷ es)) (sym t.0)
            (ap (λ (l : List Entry). W l + w e.order) (without-none s es lack) ∙ omega (arith, sum_by-cons weight e es))
        | inr t ↦
            let more : HasSlot s es = elim h [ inl is ↦ absurd (t.1 is) | inr k ↦ k ] in
            subst (λ (b : Bool). W (cond (not b) (e ∷ without s es) (without s es)) + w (cond b e.order (order_of s es)) ≡ W (e ∷ es)) (sym t.0)
            (omega (arith, sum_by-cons weight e es, sum_by-cons weight e (without s es), weight-without s es differ.1 more))
      ]

  pub weight-with : (s : ℕ) (n : Order) (es : List Entry) → AllDiffer es → HasSlot s es
      → sum_by weight (with_order s n es) + part (order_of s es) (order_of s es).leaves ≡ sum_by weight es + part n n.leaves
  weight-with s n [] differ h = absurd h
  weight-with s n (e ∷ es) differ h =
      let W = sum_by weight in
      let w = λ (o : Order). part o o.leaves in
      elim (eqb_tells e.slot s) [
        | inl t ↦
            let lack : HasSlot s es → ⊥ = λ k. differ.0 (subst (λ (m : ℕ). HasSlot m es) (sym t.1) k) in
            subst (λ (b : Bool). W (cond b (renewed e n) e ∷ with_order s n es) + w (cond b e.order (order_of s es)) ≡ W (e ∷ es) + w n) (sym t.0)
            (ap (λ (l : List Entry). W (renewed e n ∷ l) + w e.order) (with_order-none s n es lack) ∙ omega (arith, sum_by-cons weight e es, sum_by-cons weight (renewed e n) es))
        | inr t ↦
            let more : HasSlot s es = elim h [ inl is ↦ absurd (t.1 is) | inr k ↦ k ] in
            subst (λ (b : Bool). W (cond b (renewed e n) e ∷ with_order s n es) + w (cond b e.order (order_of s es)) ≡ W (e ∷ es) + w n) (sym t.0)
            (omega (arith, sum_by-cons weight e es, sum_by-cons weight e (with_order s n es), weight-with s n es differ.1 more))
      ]

  pub halves : (p : Entry → Bool) (es : List Entry) → sum_by weight (filter (λ e. not (p e)) es) + sum_by weight (filter p es) ≡ sum_by weight es
  halves p [] = refl
  halves p (e ∷ es) =
      let f = filter (λ x. not (p x)) es in
      let g = filter p es in
      let go : (b : Bool) → sum_by weight (cond (not b) (e ∷ f) f) + sum_by weight (cond b (e ∷ g) g) ≡ sum_by weight (e ∷ es) = elim [
        | true ↦ omega (arith, halves p es, sum_by-cons weight e es, sum_by-cons weight e g)
        | false ↦ omega (arith, halves p es, sum_by-cons weight e es, sum_by-cons weight e f)
      ] in go (p e)

  weight-put : (p : Entry → Bool) (n : Entry) (es : List Entry) → sum_by weight (filter (λ e. not (p e)) es ++ n ∷ filter p es) ≡ weight n + sum_by weight es
  weight-put p n es = omega (arith, sum_by-append weight (filter (λ e. not (p e)) es) (n ∷ filter p es), sum_by-cons weight n (filter p es), halves p es)

  pub weight-placed : (n : Entry) (es : List Entry) → sum_by weight (placed n es) ≡ weight n + sum_by weight es
  weight-placed n es = weight-put (is_at_earlier_level n) n es

  pub weight-lined : (n : Entry) (es : List Entry) → sum_by weight (lined_up n es) ≡ weight n + sum_by weight es
  weight-lined n es = weight-put (is_of_earlier_instrument n) n es

  -- what no order's lots depend on
  pub weight-map : (f : Entry → Entry) → ((e : Entry) → weight (f e) ≡ weight e) → (es : List Entry) → sum_by weight (map f es) ≡ sum_by weight es
  weight-map f same [] = refl
  weight-map f same (e ∷ es) = omega (arith, sum_by-cons weight (f e) (map f es), sum_by-cons weight e es, same e, weight-map f same es)

  -- a trade of an order, which counts after it as before
  pub weight-traded : ((o : Order) (filled leaves shown : ℕ) → counts (record o { filled = filled; leaves = leaves; shown = shown }) ≡ counts o) → (s n : ℕ) (es : List Entry) → AllDiffer es → HasSlot s es → n ≤ (order_of s es).leaves
      → sum_by weight (settled s (filled_by n (order_of s es)) es) + part (order_of s es) n ≡ sum_by weight es
  weight-traded same s n es differ has fits =
      let o = order_of s es in
      let now : Order = filled_by n o in
      let back : Entry = record { slot = s; order = refreshed now; is_top = false } in
      let left = without s es in
      let W = sum_by weight in
      let gone : W left + part o o.leaves ≡ W es = weight-without s es differ has in
      let both : (c : Bool) → cond c (o.leaves - n) 0 + cond c n 0 ≡ cond c o.leaves 0 = elim [ true ↦ omega (arith, fits) | false ↦ refl ] in
      let parts = both (counts o) in
      let as_back : weight back ≡ part o (o.leaves - n) = ap (λ (b : Bool). cond b (o.leaves - n) 0) (same o (o.filled + n) (o.leaves - n) (min o.show (o.leaves - n))) in
      let as_now : part now now.leaves ≡ part o (o.leaves - n) = ap (λ (b : Bool). cond b (o.leaves - n) 0) (same o (o.filled + n) (o.leaves - n) (o.shown - n)) in
      let As = λ (x y : Bool). W (cond x left (cond y (placed back left) (with_order s now es))) + part o n ≡ W es in
      elim (eqb_tells now.leaves 0) [
        | inl t ↦
            let whole : n ≡ o.leaves = omega (arith, t.1, fits) in
            subst (λ (x : Bool). As x (now.shown == 0)) (sym t.0) (omega (arith, gone, ap (part o) whole))
        | inr t ↦ subst (λ (x : Bool). As x (now.shown == 0)) (sym t.0)
            ((let go : (y : Bool) → As false y = elim [ true ↦ omega (arith, gone, weight-placed back left, as_back, parts) | false ↦ omega (arith, weight-with s now es differ has, as_now, parts) ] in go) (now.shown == 0))
      ]

  pub weight-append : (xs ys : List Entry) → sum_by weight (xs ++ ys) ≡ sum_by weight xs + sum_by weight ys
  weight-append xs ys = sum_by-append weight xs ys

  -- a mark of a share is no quantity
  pub weight-marked : ((o : Order) (n : ℕ) → counts (record o { prorated = n }) ≡ counts o) → (s n : ℕ) (es : List Entry) → AllDiffer es → HasSlot s es → sum_by weight (with_order s (record (order_of s es) { prorated = n }) es) ≡ sum_by weight es
  weight-marked same s n es differ has =
      let o = order_of s es in
      omega (arith, weight-with s (record o { prorated = n }) es differ has, ap (λ (b : Bool). cond b o.leaves 0) (same o n))
