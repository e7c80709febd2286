-- Sums over a list of orders, when one of them comes, goes or changes.
use Rattle.std.proofs.Common.{◌≡◌, ℕ, ◌+◌, ◌≤◌, Bool, true, false, cond, not, List, [], ◌∷◌, ◌++◌, map, filter, refl, ap, ◌∙◌, arith, inl, inr, sum_by}
use Rattle.std.proofs.lemmas.List.Sums.{sum_by-cons, sum_by-append}
use Rattle.std.proofs.lemmas.Bool.Decides.{eqb_tells}
use Rattle.std.specs.Prelude.{◌==◌}
use Rattle.std.specs.List.{AllByRecursion}
use Rattle.gx_base.specs.declared.order.Order.{Order}
use Rattle.plain_book.specs.declared.entry.Entry.{Entry}
use Rattle.plain_book.specs.Orders.{with_order}
use Rattle.plain_book.proofs.Levels.{renewed}

module _ (weight : Entry → ℕ) where
  abbrev total : List Entry → ℕ
  total es = sum_by weight es

  -- ---- an order comes

  halves : (p : Entry → Bool) (es : List Entry) → total (filter (λ e. not (p e)) es) + total (filter p es) ≡ total es
  halves p [] = refl
  halves p (e ∷ es) =
      let f = filter (λ x. not (p x)) es in
      let g = filter p es in
      let go : (b : Bool) → total (cond (not b) (e ∷ f) f) + total (cond b (e ∷ g) g) ≡ total (e ∷ es) = elim [
        | true ↦ omega (arith, sum_by-cons weight e g, sum_by-cons weight e es, halves p es)
        | false ↦ omega (arith, sum_by-cons weight e f, sum_by-cons weight e es, halves p es)
      ] in go (p e)

  -- an order is put before those that pass a test
  pub sum-put : (p : Entry → Bool) (n : Entry) (es : List Entry) → total (filter (λ e. not (p e)) es ++ n ∷ filter p es) ≡ weight n + total es
  sum-put p n es = omega (arith, sum_by-append weight (filter (λ e. not (p e)) es) (n ∷ filter p es), sum_by-cons weight n (filter p es), halves p es)

  -- ---- orders go

  pub sum-fewer : (p : Entry → Bool) (es : List Entry) → total (filter p es) ≤ total es
  sum-fewer p es = omega (arith, halves p es)

  -- those that go weigh nothing
  pub sum-filtered : (p : Entry → Bool) (es : List Entry) → AllByRecursion (λ (e : Entry). p e ≡ false → weight e ≡ 0) es → total (filter p es) ≡ total es
  sum-filtered p [] none = refl
  sum-filtered p (e ∷ es) none =
      let left = filter p es in
      let go : (b : Bool) → (b ≡ false → weight e ≡ 0) → total (cond b (e ∷ left) left) ≡ total (e ∷ es) = elim [
        | true ↦ λ h. omega (arith, sum_by-cons weight e left, sum_by-cons weight e es, sum-filtered p es none.1)
        | false ↦ λ h. omega (arith, sum_by-cons weight e es, h refl, sum-filtered p es none.1)
      ] in go (p e) none.0

  -- ---- orders change

  pub sum-mapped : (f : Entry → Entry) → ((e : Entry) → weight (f e) ≡ weight e) → (es : List Entry) → total (map f es) ≡ total es
  sum-mapped f same [] = refl
  sum-mapped f same (e ∷ es) = omega (arith, sum_by-cons weight (f e) (map f es), sum_by-cons weight e es, same e, sum-mapped f same es)

  -- the order of a slot changes, and weighs as much as before
  pub sum-changed : (s : ℕ) (o : Order) (es : List Entry) → AllByRecursion (λ (e : Entry). e.slot ≡ s → weight (renewed e o) ≡ weight e) es → total (with_order s o es) ≡ total es
  sum-changed s o [] same = refl
  sum-changed s o (e ∷ es) same =
      let rest = with_order s o es in
      let more = sum-changed s o es same.1 in
      let here : weight (cond (e.slot == s) (renewed e o) e) ≡ weight e = elim (eqb_tells e.slot s) [
        | inl t ↦ ap (λ (b : Bool). weight (cond b (renewed e o) e)) t.0 ∙ same.0 t.1
        | inr t ↦ ap (λ (b : Bool). weight (cond b (renewed e o) e)) t.0
      ] in omega (arith, sum_by-cons weight (cond (e.slot == s) (renewed e o) e) rest, sum_by-cons weight e es, here, more)
