-- What is summed over the orders of one level: it stays when an order of another level comes, goes or trades.
use Rattle.std.proofs.Common.{◌≡◌, ℕ, ◌+◌, Bool, true, false, cond, not, List, [], ◌∷◌, filter, length, Option, None, refl, sym, ap, ◌∙◌, arith, inl, inr, sum_by}
use Rattle.std.proofs.lemmas.List.Sums.{sum_by-cons}
use Rattle.std.proofs.lemmas.Bool.Decides.{eqb_tells}
use Rattle.std.specs.Prelude.{◌==◌, ◌&&◌}
use Rattle.std.specs.List.{AllByRecursion}
use Rattle.gx_base.specs.declared.order.Order.{Order}
use Rattle.plain_book.specs.declared.entry.Entry.{Entry}
use Rattle.plain_book.specs.Orders.{Level, level_of, is_level, is_at, orders_at, shown_at, order_of, is_at_earlier_level, is_new_best, with_top, topped, without, with_order, placed, settled, traded, refreshed, filled_by}
use Rattle.plain_book.specs.Book.{AllDiffer, first_shown, makes_top, resting_placed}
use Rattle.plain_book.specs.Numbers.{entry_numbered, numbered}
use Rattle.plain_book.proofs.Pairs.{all-with}
use Rattle.plain_book.proofs.Tops.{at-slot}
use Rattle.engine_laws.specs.LevelsTold.{IsSameLevel}
use Rattle.engine_laws.proofs.Sums.{sum-put, sum-filtered, sum-mapped, sum-changed}

-- the order is not of this level
abbrev pub IsElsewhere : Level → Order → Type 0
IsElsewhere k o = is_level (level_of o) k ≡ false

-- each entry of a slot is not of this level
abbrev pub AreElsewhere : Level → ℕ → List Entry → Type 0
AreElsewhere k s es = AllByRecursion (λ (e : Entry). e.slot ≡ s → IsElsewhere k e.order) es

pub elsewhere-at : (k : Level) (s : ℕ) (es : List Entry) → AllDiffer es → IsElsewhere k (order_of s es) → AreElsewhere k s es
elsewhere-at k s es d h = at-slot (IsElsewhere k) s es d h

-- A weight of an order: 0 if the order is not of the level. The noted share does not matter.
pub record WeighsLevel (k : Level) (weight : Order → ℕ) : Type 0 where
  pub others : (o : Order) → IsElsewhere k o → weight o ≡ 0
  pub marked : (o : Order) (n : ℕ) → weight (record o { prorated = n }) ≡ weight o

-- the weights of some orders together
abbrev pub weights : (Order → ℕ) → List Entry → ℕ
weights weight es = sum_by (λ (e : Entry). weight e.order) es

module _ (k : Level) (weight : Order → ℕ) (of : WeighsLevel k weight) where
  abbrev by : Entry → ℕ
  by e = weight e.order

  -- ---- an order of another level

  -- it leaves
  pub weights-without : (s : ℕ) (es : List Entry) → AreElsewhere k s es → weights weight (without s es) ≡ weights weight es
  weights-without s es away =
      let gone : (e : Entry) → (e.slot ≡ s → IsElsewhere k e.order) → not (e.slot == s) ≡ false → by e ≡ 0 = λ e h is. elim (eqb_tells e.slot s) [
        | inl t ↦ of.others e.order (h t.1)
        | inr t ↦ absurd (let f : true ≡ false = sym (ap not t.0) ∙ is in cc)
      ] in
      sum-filtered by (λ e. not (e.slot == s)) es
      (all-with (λ (e : Entry). e.slot ≡ s → IsElsewhere k e.order) (λ (e : Entry). not (e.slot == s) ≡ false → by e ≡ 0) gone es away)

  -- it is changed to another one
  pub weights-changed : (s : ℕ) (o : Order) (es : List Entry) → IsElsewhere k o → AreElsewhere k s es → weights weight (with_order s o es) ≡ weights weight es
  weights-changed s o es there away =
      sum-changed by s o es (all-with (λ (e : Entry). e.slot ≡ s → IsElsewhere k e.order) (λ (e : Entry). e.slot ≡ s → weight o ≡ weight e.order)
      (λ e h is. of.others o there ∙ sym (of.others e.order (h is))) es away)

  -- it comes
  weights-placed : (n : Entry) (es : List Entry) → IsElsewhere k n.order → weights weight (placed n es) ≡ weights weight es
  weights-placed n es there = omega (arith, sum-put by (is_at_earlier_level n) n es, of.others n.order there)

  pub weights-rested : (slot : ℕ) (o : Order) (top_min : Option ℕ) (es : List Entry) → IsElsewhere k o → weights weight (resting_placed slot o top_min es) ≡ weights weight es
  weights-rested slot o top_min es there =
      let best = is_new_best o es in
      let n : Entry = record { slot = slot; order = record o { shown = first_shown o }; is_top = best && makes_top top_min o.leaves } in
      let cleared = with_top o.instrument o.side None es in
      let same : (b : Bool) → weights weight (cond b cleared es) ≡ weights weight es = elim [
        | true ↦ sum-mapped by (topped o.instrument o.side None) (λ e. refl) es
        | false ↦ refl
      ] in weights-placed n (cond best cleared es) there ∙ same best

  -- it trades
  weights-settled : (s : ℕ) (o : Order) (es : List Entry) → IsElsewhere k o → AreElsewhere k s es → weights weight (settled s o es) ≡ weights weight es
  weights-settled s o es there away =
      let left = without s es in
      let n : Entry = record { slot = s; order = refreshed o; is_top = false } in
      let go : (x y : Bool) → weights weight (cond x left (cond y (placed n left) (with_order s o es))) ≡ weights weight es = elim [
        | true ↦ λ y. weights-without s es away
        | false ↦ elim [
          | true ↦ weights-placed n left there ∙ weights-without s es away
          | false ↦ weights-changed s o es there away
        ]
      ] in go (o.leaves == 0) (o.shown == 0)

  pub weights-traded : (s n : ℕ) (es : List Entry) → AllDiffer es → IsElsewhere k (order_of s es) → weights weight (traded s n es) ≡ weights weight es
  weights-traded s n es d there = weights-settled s (filled_by n (order_of s es)) es there (elsewhere-at k s es d there)

  -- ---- any order

  -- a share is noted on it
  pub weights-marked : (s n : ℕ) (es : List Entry) → AllDiffer es → weights weight (with_order s (record (order_of s es) { prorated = n }) es) ≡ weights weight es
  weights-marked s n es d =
      let was = order_of s es in
      sum-changed by s (record was { prorated = n }) es (at-slot (λ (q : Order). weight (record was { prorated = n }) ≡ weight q) s es d (of.marked was n))

-- each is named by its number
pub weights-numbered : (weight : Order → ℕ) (es : List Entry) → weights weight (numbered es) ≡ weights weight es
weights-numbered weight es = sum-mapped (λ (e : Entry). weight e.order) entry_numbered (λ e. refl) es

-- ---- what a level shows, and how many orders it has

abbrev pub shown_in : Level → Order → ℕ
shown_in k o = cond (is_level (level_of o) k) o.shown 0

abbrev pub one_in : Level → Order → ℕ
one_in k o = cond (is_level (level_of o) k) 1 0

pub shown-weighs : (k : Level) → WeighsLevel k (shown_in k)
shown-weighs k = record { others = λ o there. ap (λ (b : Bool). cond b o.shown 0) there; marked = λ o n. refl }

pub one-weighs : (k : Level) → WeighsLevel k (one_in k)
one-weighs k = record { others = λ o there. ap (λ (b : Bool). cond b 1 0) there; marked = λ o n. refl }

shown-sum : (k : Level) (es : List Entry) → shown_at k es ≡ weights (shown_in k) es
shown-sum k [] = refl
shown-sum k (e ∷ es) =
    let shown = λ (x : Entry). x.order.shown in
    let F = filter (is_at k) es in
    let whole = sum_by-cons (λ (x : Entry). shown_in k x.order) e es in
    let go : (b : Bool) → sum_by shown (cond b (e ∷ F) F) ≡ cond b e.order.shown 0 + weights (shown_in k) es = elim [
      | true ↦ omega (arith, sum_by-cons shown e F, shown-sum k es)
      | false ↦ omega (arith, shown-sum k es)
    ] in go (is_at k e) ∙ sym whole

orders-sum : (k : Level) (es : List Entry) → length (orders_at k es) ≡ weights (one_in k) es
orders-sum k [] = refl
orders-sum k (e ∷ es) =
    let F = filter (is_at k) es in
    let whole = sum_by-cons (λ (x : Entry). one_in k x.order) e es in
    let go : (b : Bool) → length (cond b (e ∷ F) F) ≡ cond b 1 0 + weights (one_in k) es = elim [
      | true ↦ omega (arith, orders-sum k es)
      | false ↦ omega (arith, orders-sum k es)
    ] in go (is_at k e) ∙ sym whole

-- the same level, where both sums stay
pub level-same : (k : Level) (old new : List Entry) → weights (shown_in k) new ≡ weights (shown_in k) old → weights (one_in k) new ≡ weights (one_in k) old → IsSameLevel k old new
level-same k old new shown orders = record {
  shown = shown-sum k new ∙ shown ∙ sym (shown-sum k old);
  orders = orders-sum k new ∙ orders ∙ sym (orders-sum k old);
}

-- names do not matter
pub numbered-same : (k : Level) (es : List Entry) → IsSameLevel k es (numbered es)
numbered-same k es = level-same k es (numbered es) (weights-numbered (shown_in k) es) (weights-numbered (one_in k) es)
