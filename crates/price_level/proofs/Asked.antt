-- What is asked of the rows of all sides, by the levels of one side; and what they become where that side changes.
use Rattle.std.proofs.Common.{◌≡◌, ℕ, ◌<◌, ◌≤◌, Bool, true, not, List, [], ◌∷◌, ◌++◌, length, set, filter, refl, sym, ap, subst, ◌∙◌, arith}
use Rattle.std.specs.List.{AllByRecursion, sum_by}
use Rattle.std.specs.Ordering.{int_eq}
use Rattle.std.proofs.lemmas.List.{append_assoc, length-append, length_push}
use Rattle.std.proofs.lemmas.List.Sums.{sum_by-append, sum_by-cons}
use Rattle.gx_base.specs.declared.price.Price.{Price}
use Rattle.gx_base.specs.declared.order.Side.{Side}
use Rattle.book_order.specs.Levels.{level, is_better, is_within}
use Rattle.price_level.specs.declared.row.LevelRow.{LevelRow}
use Rattle.price_chunks.specs.declared.place.Step.{Step}
use Rattle.price_level.specs.Rows.{row_on, row_at, row_before, best_row, worse_row, worst_row, better_row, queue_at, open_rows, price_of_row, last_row, queue_of_row, new_row, placed_row, Pairs, AreRowsApart}
use Rattle.price_chunks.specs.Steps.{is_worse_step, is_better_step, is_step_at, is_open_step, price_of_first, price_of_last, queue_of_last, with_step, without_step, AreWorstFirst, list_at, open_at}
use Rattle.price_level.specs.Inner.Sides.{row_in, side_number, rows_of, rows_of_side, row_number, AreSides, IsStep}
use Rattle.price_level.proofs.Lists.{all-filter, all-front, all-back, all-with, pairs-front, pairs-back, filter-all}
use Rattle.price_level.proofs.Order.{row_is_on, row_is_off, row_at_price, row_at_off, before_later, not_before_earlier, before_better}
use Rattle.price_level.proofs.SideRows.{rows-append, rows-filter, rows-sum, rows-price, rows-last, rows-queue, rows-number, steps-all, worst_first}
use Rattle.price_level.proofs.Parts.{Around, around, filter-side, filter-rest, filter-behind, filter-ahead}

rows-length : (table : List LevelRow) (steps : List Step) → length (rows_of_side table steps) ≡ length steps
rows-length table [] = refl
rows-length table (s ∷ steps) = let e = length_push (rows_of_side table steps) (row_in table s.queue) in let f = rows-length table steps in omega arith

-- all levels, and their rows
pub rows-many : (table : List LevelRow) (all : List (List Step)) → sum_by length all ≡ length (rows_of table all)
rows-many table [] = refl
rows-many table (l ∷ all) = omega (arith, sum_by-cons length l all, length-append (rows_of_side table l) (rows_of table all), rows-length table l, rows-many table all)

-- one list in place of another, between two
regroup : (a f b z : List LevelRow) (n : LevelRow) → a ++ (((f ++ n ∷ []) ++ b) ++ z) ≡ (a ++ f) ++ n ∷ (b ++ z)
regroup a f b z n = simp append_assoc

module _ (table : List LevelRow) (all : List (List Step)) (sides : AreSides table 0 all) (i : ℕ) (side : Side) (lt : side_number i side < length all) where
  abbrev n : ℕ
  n = side_number i side

  abbrev steps : List Step
  steps = list_at all n

  abbrev rows : List LevelRow
  rows = rows_of table all

  abbrev here : List LevelRow
  here = rows_of_side table steps

  at : Around table 0 n n all
  at = around table 0 n n all (omega arith) lt sides

  side-rows : filter (row_on i side) rows ≡ here
  side-rows =
      ap (filter (row_on i side)) at.is
      ∙ filter-side n at.ahead here at.behind at.low at.high (row_on i side) (λ r ne. row_is_off i side r ne)
      ∙ filter-all (row_on i side) here (all-with (λ r. row_number r ≡ n) (λ r. row_on i side r ≡ true) (λ r e. row_is_on i side r e) here (rows-number table n steps at.here))

  -- a test of the price
  by-price : (p : Price → Bool) → filter (λ r. p r.price) here ≡ rows_of_side table (filter (λ s. p s.price) steps)
  by-price p = rows-filter table (λ r. p r.price) (λ s. p s.price) steps (all-with (IsStep table n) (λ s. p (row_in table s.queue).price ≡ p s.price) (λ s e. ap p e.price) steps at.here)

  at-price : (price : Price) → filter (row_at (level i side price)) rows ≡ rows_of_side table (filter (is_step_at price) steps)
  at-price price =
      ap (filter (row_at (level i side price))) at.is
      ∙ filter-side n at.ahead here at.behind at.low at.high (row_at (level i side price)) (λ r ne. row_at_off i side r price ne)
      ∙ rows-filter table (row_at (level i side price)) (is_step_at price) steps (all-with (IsStep table n) (λ s. row_at (level i side price) (row_in table s.queue) ≡ is_step_at price s) (λ s e. row_at_price i side (row_in table s.queue) price e.side ∙ ap (λ (x : Price). int_eq x.0 price.0) e.price) steps at.here)

  pub best_is : price_of_last steps ≡ best_row i side rows
  best_is = sym (ap price_of_row side-rows ∙ rows-price table n steps at.here)

  pub worse_is : (price : Price) → price_of_last (filter (is_worse_step side price) steps) ≡ worse_row i side price rows
  worse_is price =
      sym (ap (λ (rs : List LevelRow). price_of_row (filter (λ r. is_better side price.0 r.price.0) rs)) side-rows
      ∙ ap price_of_row (by-price (λ x. is_better side price.0 x.0))
      ∙ rows-price table n (filter (is_worse_step side price) steps) (all-filter (IsStep table n) (is_worse_step side price) steps at.here))

  pub worst_is : price_of_first steps ≡ worst_row i side rows
  worst_is = sym (ap last_row side-rows ∙ rows-last table n steps at.here)

  pub better_is : (price : Price) → price_of_first (filter (is_better_step side price) steps) ≡ better_row i side price rows
  better_is price =
      sym (ap (λ (rs : List LevelRow). last_row (filter (λ r. is_better side r.price.0 price.0) rs)) side-rows
      ∙ ap last_row (by-price (λ x. is_better side x.0 price.0))
      ∙ rows-last table n (filter (is_better_step side price) steps) (all-filter (IsStep table n) (is_better_step side price) steps at.here))

  pub queue_is : (price : Price) → queue_of_last (filter (is_step_at price) steps) ≡ queue_at (level i side price) rows
  queue_is price = sym (ap queue_of_row (at-price price) ∙ rows-queue table n (filter (is_step_at price) steps) (all-filter (IsStep table n) (is_step_at price) steps at.here))

  pub open_is : (limit : Price) → open_at (filter (is_open_step side limit) steps) ≡ open_rows i side limit rows
  open_is limit =
      sym (ap (λ (rs : List LevelRow). sum_by (λ (r : LevelRow). r.leaves) (filter (λ r. is_within side limit.0 r.price.0) rs)) side-rows
      ∙ ap (λ (rs : List LevelRow). sum_by (λ (r : LevelRow). r.leaves) rs) (by-price (λ x. is_within side limit.0 x.0))
      ∙ rows-sum table n (filter (is_open_step side limit) steps) (all-filter (IsStep table n) (is_open_step side limit) steps at.here))

  pub side-ordered : Pairs AreRowsApart rows → AreWorstFirst side steps
  side-ordered a = worst_first table n i side refl steps at.here (pairs-front AreRowsApart here at.behind (pairs-back AreRowsApart at.ahead (here ++ at.behind) (subst (Pairs AreRowsApart) at.is a)))

  pub side-sum : open_at steps ≤ sum_by (λ (r : LevelRow). r.leaves) rows
  side-sum =
      let leaves = λ (r : LevelRow). r.leaves in
      let e = ap {B = ℕ} (sum_by leaves) at.is in
      omega (arith, e, sum_by-append leaves at.ahead (here ++ at.behind), sum_by-append leaves here at.behind, rows-sum table n steps at.here)

  pub side-all : (P : LevelRow → Type 0) → AllByRecursion P rows → AllByRecursion (λ s. P (row_in table s.queue)) steps
  side-all P h = steps-all table P steps (all-front P here at.behind (all-back P at.ahead (here ++ at.behind) (subst (AllByRecursion P) at.is h)))

  pub side-steps : AllByRecursion (IsStep table n) steps
  side-steps = at.here

  pub sides-set : (l : List Step) → AllByRecursion (IsStep table n) l → AreSides table 0 (set all n l)
  sides-set l h = at.sides l h

  -- a level comes, whose row is in the table
  module _ (price : Price) (q : ℕ) (is : row_in table q ≡ new_row i side price q) where
    abbrev new : LevelRow
    new = new_row i side price q

    abbrev step : Step
    step = record { price = price; leaves = 0; queue = q }

    before-is : AllByRecursion (λ s. row_before new (row_in table s.queue) ≡ is_worse_step side price s) steps
    before-is = all-with (IsStep table n) (λ s. row_before new (row_in table s.queue) ≡ is_worse_step side price s) (λ s e. before_better new (row_in table s.queue) (sym e.side) ∙ ap (λ (x : Price). is_better side price.0 x.0) e.price) steps at.here

    not-before-is : AllByRecursion (λ s. not (row_before new (row_in table s.queue)) ≡ not (is_worse_step side price s)) steps
    not-before-is = all-with (λ s. row_before new (row_in table s.queue) ≡ is_worse_step side price s) (λ s. not (row_before new (row_in table s.queue)) ≡ not (is_worse_step side price s)) (λ s e. ap not e) steps before-is

    side-placed : rows_of_side table (with_step side step steps) ≡ (filter (λ r. not (row_before new r)) here ++ new ∷ []) ++ filter (row_before new) here
    side-placed =
        let f = rows-filter table (λ r. not (row_before new r)) (λ s. not (is_worse_step side price s)) steps not-before-is in
        let b = rows-filter table (row_before new) (is_worse_step side price) steps before-is in
        rows-append table (filter (is_worse_step side price) steps) (step ∷ filter (λ s. not (is_worse_step side price s)) steps)
        ∙ (λ j. (sym f j ++ is j ∷ []) ++ sym b j)

    pub rows-placed : rows_of table (set all n (with_step side step steps)) ≡ placed_row new rows
    rows-placed =
        let f = ap (filter (λ r. not (row_before new r))) at.is ∙ filter-ahead n at.ahead here at.behind at.low at.high (λ r. not (row_before new r)) (λ r less. ap not (not_before_earlier new r less)) (λ r less. ap not (before_later new r less)) in
        let b = ap (filter (row_before new)) at.is ∙ filter-behind n at.ahead here at.behind at.low at.high (row_before new) (λ r less. not_before_earlier new r less) (λ r less. before_later new r less) in
        at.put (with_step side step steps)
        ∙ ap (λ (x : List LevelRow). at.ahead ++ (x ++ at.behind)) side-placed
        ∙ regroup at.ahead (filter (λ r. not (row_before new r)) here) (filter (row_before new) here) at.behind new
        ∙ (λ j. sym f j ++ new ∷ sym b j)

  -- the level at a price goes
  pub rows-without : (price : Price) → rows_of table (set all n (without_step price steps)) ≡ filter (λ r. not (row_at (level i side price) r)) rows
  rows-without price =
      let p = λ (r : LevelRow). not (row_at (level i side price) r) in
      let f = rows-filter table p (λ s. not (is_step_at price s)) steps (all-with (IsStep table n) (λ s. p (row_in table s.queue) ≡ not (is_step_at price s)) (λ s e. ap not (row_at_price i side (row_in table s.queue) price e.side ∙ ap (λ (x : Price). int_eq x.0 price.0) e.price)) steps at.here) in
      at.put (without_step price steps)
      ∙ ap (λ (x : List LevelRow). at.ahead ++ (x ++ at.behind)) (sym f)
      ∙ sym (ap (filter p) at.is ∙ filter-rest n at.ahead here at.behind at.low at.high p (λ r ne. ap not (row_at_off i side r price ne)))
