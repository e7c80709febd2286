-- What calls that only read are answered from the fields.
use Rattle.std.proofs.Common.{◌≡◌, ℕ, ◌*◌, ◌<◌, ◌^◌, List, length, filter, sym, ap, subst, ◌∙◌, arith}
use Rattle.std.specs.List.{sum_by}
use Rattle.gx_base.specs.declared.price.Price.{Price}
use Rattle.gx_base.specs.declared.order.Side.{Side}
use Rattle.gx_base.specs.declared.order.Side.TheVariants.{Buy, Sell}
use Rattle.book_order.specs.Levels.{level}
use Rattle.price_level.specs.declared.row.LevelRow.{LevelRow}
use Rattle.price_chunks.specs.declared.place.Step.{Step}
use Rattle.price_level.specs.Rows.{Rows, best_row, worse_row, worst_row, better_row, queue_at, open_rows, HasQueue, row_of}
use Rattle.price_level.specs.Inner.Kept.{rows_seen, IsKept}
use Rattle.price_chunks.specs.Steps.{is_worse_step, is_better_step, is_step_at, is_open_step, price_of_first, price_of_last, queue_of_last, AreWorstFirst, list_at, open_at}
use Rattle.price_level.specs.Inner.Sides.{row_in, side_number, rows_of}
use Rattle.price_level.proofs.RowLists.{each-row}
use Rattle.price_level.proofs.Tables.{named}
use Rattle.price_level.proofs.Asked.{best_is, worse_is, worst_is, better_is, queue_is, open_is, side-ordered, side-sum, rows-many}

number-below : (i n : ℕ) (side : Side) → i < n → side_number i side < 2 * n
number-below i n Buy lt = omega arith
number-below i n Sell lt = omega arith

module _ {capacity instruments : ℕ} {table : List LevelRow} {all : List (List Step)} {side_capacity : ℕ} {unused : List ℕ} {free_capacity : ℕ} (kept : IsKept capacity instruments table all side_capacity unused free_capacity) where
  pub side_in : (i : ℕ) (side : Side) → i < instruments → side_number i side < length all
  side_in i side lt = subst (λ (x : ℕ). side_number i side < x) (sym kept.sides) (number-below i instruments side lt)

  module _ (t : Rows) (view : rows_seen capacity instruments table all ≡ t) where
    -- ---- by queue

    pub has_queue : (q : ℕ) → HasQueue q t.rows → HasQueue q (rows_of table all)
    has_queue q h = subst (λ (x : Rows). HasQueue q x.rows) (sym view) h

    pub queue_in : (q : ℕ) → HasQueue q t.rows → q < length table
    queue_in q h =
        let r = each-row (λ (r : LevelRow). r.queue < length table) q (rows_of table all) kept.below (has_queue q h) in
        subst (λ (x : ℕ). x < length table) r.1 r.0

    pub row_is : (q : ℕ) → HasQueue q t.rows → row_in table q ≡ row_of q t.rows
    row_is q h =
        let r = each-row (λ (r : LevelRow). row_in table r.queue ≡ r) q (rows_of table all) (named table 0 all kept.steps) (has_queue q h) in
        ap (row_in table) (sym r.1) ∙ r.0 ∙ ap (λ (x : Rows). row_of q x.rows) view

    -- ---- by side

    module _ (i : ℕ) (side : Side) (listed : i < t.instruments) where
      pub side_in_seen : side_number i side < length all
      side_in_seen = side_in i side (subst (λ (x : Rows). i < x.instruments) (sym view) listed)

      module _ (steps : List Step) (is : steps ≡ list_at all (side_number i side)) where
        pub ordered : AreWorstFirst side steps
        ordered = subst (AreWorstFirst side) (sym is) (side-ordered table all kept.steps i side side_in_seen kept.rows.apart)

        pub best : price_of_last steps ≡ best_row i side t.rows
        best = ap price_of_last is ∙ best_is table all kept.steps i side side_in_seen ∙ ap (λ (x : Rows). best_row i side x.rows) view

        pub worse : (price : Price) → price_of_last (filter (is_worse_step side price) steps) ≡ worse_row i side price t.rows
        worse price =
            ap (λ (l : List Step). price_of_last (filter (is_worse_step side price) l)) is
            ∙ worse_is table all kept.steps i side side_in_seen price
            ∙ ap (λ (x : Rows). worse_row i side price x.rows) view

        pub worst : price_of_first steps ≡ worst_row i side t.rows
        worst = ap price_of_first is ∙ worst_is table all kept.steps i side side_in_seen ∙ ap (λ (x : Rows). worst_row i side x.rows) view

        pub better : (price : Price) → price_of_first (filter (is_better_step side price) steps) ≡ better_row i side price t.rows
        better price =
            ap (λ (l : List Step). price_of_first (filter (is_better_step side price) l)) is
            ∙ better_is table all kept.steps i side side_in_seen price
            ∙ ap (λ (x : Rows). better_row i side price x.rows) view

        pub queue : (price : Price) → queue_of_last (filter (is_step_at price) steps) ≡ queue_at (level i side price) t.rows
        queue price =
            ap (λ (l : List Step). queue_of_last (filter (is_step_at price) l)) is
            ∙ queue_is table all kept.steps i side side_in_seen price
            ∙ ap (λ (x : Rows). queue_at (level i side price) x.rows) view

        pub fits : sum_by (λ (r : LevelRow). r.leaves) t.rows < 2 ^ 63 → open_at steps < 2 ^ 63
        fits h =
            let a = subst (λ (x : Rows). sum_by (λ (r : LevelRow). r.leaves) x.rows < 2 ^ 63) (sym view) h in
            let b = ap {B = ℕ} open_at is in
            omega (arith, side-sum table all kept.steps i side side_in_seen)

        pub available : (limit : Price) → open_at (filter (is_open_step side limit) steps) ≡ open_rows i side limit t.rows
        available limit =
            ap (λ (l : List Step). open_at (filter (is_open_step side limit) l)) is
            ∙ open_is table all kept.steps i side side_in_seen limit
            ∙ ap (λ (x : Rows). open_rows i side limit x.rows) view

    -- there is room for one more level
    pub not_full : length t.rows < t.capacity → sum_by length all < side_capacity
    not_full h =
        let a : length (rows_of table all) < capacity = subst (λ (x : Rows). length x.rows < x.capacity) (sym view) h in
        omega (arith, rows-many table all, kept.room)
