-- The rows of one side.
use Rattle.std.proofs.Common.{◌≡◌, ℕ, Bool, true, false, cond, List, [], ◌∷◌, ◌++◌, filter, Some, refl, sym, ap, subst, ◌∙◌, arith}
use Prim.Native.Nat.{zero, suc}
use Rattle.std.specs.Prelude.{ℤ}
use Rattle.std.specs.List.{AllByRecursion, sum_by}
use Rattle.std.proofs.lemmas.List.{append_assoc, append-nil}
use Rattle.std.proofs.lemmas.List.Elements.{filter-append}
use Rattle.std.proofs.lemmas.List.Sums.{sum_by_push, sum_by-cons}
use Rattle.gx_base.specs.declared.price.Price.{Price}
use Rattle.gx_base.specs.declared.order.Side.{Side}
use Rattle.book_order.specs.Levels.{is_better}
use Rattle.price_level.specs.declared.row.LevelRow.{LevelRow}
use Rattle.price_chunks.specs.declared.place.Step.{Step}
use Rattle.price_level.specs.Rows.{Pairs, AreRowsApart, price_of_row, last_row_or, last_row, queue_of_row, row_before}
use Rattle.price_chunks.specs.Steps.{no_step, step_at, AreWorstFirst, price_of_first, price_of_last, queue_of_last, open_at}
use Rattle.price_level.specs.Inner.Sides.{row_in, rows_of_side, row_number, side_number, IsStep}
use Rattle.price_level.proofs.Lists.{all-append, all-front, all-back, all-at, all-with, pairs-front, pairs-across}
use Rattle.price_level.proofs.Order.{before_better, number-same}

first_price : (xs : List LevelRow) (y z : LevelRow) → price_of_row ((xs ++ y ∷ []) ++ z ∷ []) ≡ price_of_row (xs ++ y ∷ [])
first_price [] y z = refl
first_price (x ∷ xs) y z = refl

last-or : (p : Price) (xs : List LevelRow) (y : LevelRow) → last_row_or p (xs ++ y ∷ []) ≡ y.price
last-or p [] y = refl
last-or p (x ∷ xs) y = last-or x.price xs y

last_after : (xs : List LevelRow) (y : LevelRow) → last_row (xs ++ y ∷ []) ≡ Some y.price
last_after [] y = refl
last_after (x ∷ xs) y = ap Some (last-or x.price xs y)

first_queue : (xs : List LevelRow) (y z : LevelRow) → queue_of_row ((xs ++ y ∷ []) ++ z ∷ []) ≡ queue_of_row (xs ++ y ∷ [])
first_queue [] y z = refl
first_queue (x ∷ xs) y z = refl

module _ (table : List LevelRow) where
  abbrev pub row_of_step : Step → LevelRow
  row_of_step s = row_in table s.queue

  pub rows-append : (xs ys : List Step) → rows_of_side table (xs ++ ys) ≡ rows_of_side table ys ++ rows_of_side table xs
  rows-append [] ys = sym (append-nil (rows_of_side table ys))
  rows-append (s ∷ xs) ys =
      ap (λ (rs : List LevelRow). rs ++ row_of_step s ∷ []) (rows-append xs ys) ∙ append_assoc (rows_of_side table ys) (rows_of_side table xs) (row_of_step s ∷ [])

  pub rows-all : (P : LevelRow → Type 0) (steps : List Step) → AllByRecursion (λ s. P (row_of_step s)) steps → AllByRecursion P (rows_of_side table steps)
  rows-all P [] h = tt
  rows-all P (s ∷ steps) h = all-append P (rows_of_side table steps) (row_of_step s ∷ []) (rows-all P steps h.1) (h.0, tt)

  pub steps-all : (P : LevelRow → Type 0) (steps : List Step) → AllByRecursion P (rows_of_side table steps) → AllByRecursion (λ s. P (row_of_step s)) steps
  steps-all P [] h = tt
  steps-all P (s ∷ steps) h = ((all-back P (rows_of_side table steps) (row_of_step s ∷ []) h).0, steps-all P steps (all-front P (rows_of_side table steps) (row_of_step s ∷ []) h))

  add_row : (b : Bool) (s : Step) (steps : List Step) → rows_of_side table steps ++ cond b (row_of_step s ∷ []) [] ≡ rows_of_side table (cond b (s ∷ steps) steps)
  add_row true s steps = refl
  add_row false s steps = append-nil (rows_of_side table steps)

  -- a test of rows that agrees with a test of steps
  pub rows-filter : (p : LevelRow → Bool) (q : Step → Bool) (steps : List Step) → AllByRecursion (λ s. p (row_of_step s) ≡ q s) steps → filter p (rows_of_side table steps) ≡ rows_of_side table (filter q steps)
  rows-filter p q [] h = refl
  rows-filter p q (s ∷ steps) h =
      filter-append p (rows_of_side table steps) (row_of_step s ∷ [])
      ∙ (λ i. rows-filter p q steps h.1 i ++ cond (h.0 i) (row_of_step s ∷ []) [])
      ∙ add_row (q s) s (filter q steps)

  -- ---- steps of one side, by its number

  module _ (n : ℕ) where
    pub rows-price : (steps : List Step) → AllByRecursion (IsStep table n) steps → price_of_row (rows_of_side table steps) ≡ price_of_last steps
    rows-price [] h = refl
    rows-price (s ∷ []) h = ap Some h.0.price
    rows-price (s ∷ (t ∷ steps)) h = first_price (rows_of_side table steps) (row_of_step t) (row_of_step s) ∙ rows-price (t ∷ steps) h.1

    pub rows-last : (steps : List Step) → AllByRecursion (IsStep table n) steps → last_row (rows_of_side table steps) ≡ price_of_first steps
    rows-last [] h = refl
    rows-last (s ∷ steps) h = last_after (rows_of_side table steps) (row_of_step s) ∙ ap Some h.0.price

    pub rows-queue : (steps : List Step) → AllByRecursion (IsStep table n) steps → queue_of_row (rows_of_side table steps) ≡ queue_of_last steps
    rows-queue [] h = refl
    rows-queue (s ∷ []) h = ap Some h.0.queue
    rows-queue (s ∷ (t ∷ steps)) h = first_queue (rows_of_side table steps) (row_of_step t) (row_of_step s) ∙ rows-queue (t ∷ steps) h.1

    pub rows-sum : (steps : List Step) → AllByRecursion (IsStep table n) steps → sum_by (λ (r : LevelRow). r.leaves) (rows_of_side table steps) ≡ open_at steps
    rows-sum [] h = refl
    rows-sum (s ∷ steps) h =
        let a = sum_by_push (λ (r : LevelRow). r.leaves) (rows_of_side table steps) (row_of_step s) in
        let b = sum_by-cons (λ (t : Step). t.leaves) s steps in
        let c = rows-sum steps h.1 in
        let e = h.0.leaves in
        omega arith

    pub rows-number : (steps : List Step) → AllByRecursion (IsStep table n) steps → AllByRecursion (λ r. row_number r ≡ n) (rows_of_side table steps)
    rows-number steps h = rows-all (λ r. row_number r ≡ n) steps (all-with (IsStep table n) (λ s. row_number (row_of_step s) ≡ n) (λ s e. e.side) steps h)

    better_step : (i : ℕ) (side : Side) → n ≡ side_number i side → (s t : Step) → IsStep table n s → IsStep table n t → row_before (row_of_step t) (row_of_step s) ≡ true → is_better side t.price.0 s.price.0 ≡ true
    better_step i side e s t a b h =
        let same-side = (number-same (row_of_step t).instrument i (row_of_step t).side side (b.side ∙ e)).1 in
        let g = sym (before_better (row_of_step t) (row_of_step s) (b.side ∙ sym a.side)) ∙ h in
        subst (λ (d : Side). is_better d t.price.0 s.price.0 ≡ true) same-side (
        subst (λ (x : ℤ). is_better (row_of_step t).side x s.price.0 ≡ true) (λ k. (b.price k).0) (
        subst (λ (x : ℤ). is_better (row_of_step t).side (row_of_step t).price.0 x ≡ true) (λ k. (a.price k).0) g))

    pub worst_first : (i : ℕ) (side : Side) → n ≡ side_number i side → (steps : List Step) → AllByRecursion (IsStep table n) steps → Pairs AreRowsApart (rows_of_side table steps) → AreWorstFirst side steps
    worst_first i side e [] h p j k lt below = absurd (omega arith)
    worst_first i side e (s ∷ steps) h p zero zero lt below = absurd (omega arith)
    worst_first i side e (s ∷ steps) h p zero (suc k) lt below =
        let across = steps-all (λ r. AllByRecursion (AreRowsApart r) (row_of_step s ∷ [])) steps (pairs-across AreRowsApart (rows_of_side table steps) (row_of_step s ∷ []) p) in
        let g = all-at (λ t. AllByRecursion (AreRowsApart (row_of_step t)) (row_of_step s ∷ [])) steps k no_step across (omega arith) in
        better_step i side e s (step_at steps k) h.0 (all-at (IsStep table n) steps k no_step h.1 (omega arith)) g.0.0
    worst_first i side e (s ∷ steps) h p (suc j) zero lt below = absurd (omega arith)
    worst_first i side e (s ∷ steps) h p (suc j) (suc k) lt below = worst_first i side e steps h.1 (pairs-front AreRowsApart (rows_of_side table steps) (row_of_step s ∷ []) p) j k (omega arith) (omega arith)
