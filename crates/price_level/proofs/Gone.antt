-- The fields once a level goes.
use Rattle.std.proofs.Common.{◌≡◌, ◌≢◌, ℕ, ◌+◌, ◌<◌, List, [], ◌∷◌, ◌++◌, length, set, filter, not, sym, ap, subst, ◌∙◌, arith}
use Rattle.std.proofs.lemmas.List.{length-set, length_push}
use Rattle.price_level.specs.declared.row.LevelRow.{LevelRow}
use Rattle.price_chunks.specs.declared.place.Step.{Step}
use Rattle.price_level.specs.Rows.{Rows, HasQueue, without_row, level_of_row, row_at, AreRowsApart}
use Rattle.price_level.specs.Inner.Kept.{rows_seen, IsKept}
use Rattle.price_chunks.specs.Steps.{without_step, list_at}
use Rattle.price_level.specs.Inner.Sides.{row_in, side_number, rows_of, IsStep}
use Rattle.price_level.proofs.Lists.{all-append, all-filter, all-with, pairs-filter}
use Rattle.price_level.proofs.RowLists.{queue-filter}
use Rattle.price_level.proofs.Closed.{without-count, without-lacks, without-level}
use Rattle.price_level.proofs.Asked.{side-steps, sides-set, rows-without}
use Rattle.price_level.proofs.Unused.{apart-push}
use Rattle.price_level.proofs.Seen.{queue_in}
use Rattle.price_level.proofs.ByQueue.{held_here, held_is, held_in}
use Rattle.price_level.proofs.Kept.{IsBelow, kept_below, kept_from}

module _ {capacity instruments : ℕ} {table : List LevelRow} {all : List (List Step)} {side_capacity : ℕ} {unused : List ℕ} {free_capacity : ℕ} (kept : IsKept capacity instruments table all side_capacity unused free_capacity) (t : Rows) (view : rows_seen capacity instruments table all ≡ t) where
  abbrev rows : List LevelRow
  rows = rows_of table all

  module _ (q : ℕ) (has : HasQueue q t.rows) where
    abbrev going : LevelRow
    going = row_in table q

    abbrev going_number : ℕ
    going_number = side_number going.instrument going.side

    abbrev less_all : List (List Step)
    less_all = set all going_number (without_step going.price (list_at all going_number))

    going_in : going_number < length all
    going_in = held_in kept t view q has

    rows_less : rows_of table less_all ≡ without_row q rows
    rows_less =
        rows-without table all kept.steps going.instrument going.side going_in going.price
        ∙ sym (without-level q rows kept.rows.apart (held_here kept t view q has) ∙ ap (λ (r : LevelRow). filter (λ x. not (row_at (level_of_row r) x)) rows) (sym (held_is kept t view q has)))

    count_less : length (without_row q rows) + 1 ≡ length rows
    count_less = without-count q rows kept.rows.apart (held_here kept t view q has)

    pub free_below : length unused < capacity
    free_below = let a = count_less in omega (arith, kept.count, kept.mark)

    pub kept_closed : (free_capacity' : ℕ) → free_capacity' ≡ capacity → IsKept capacity instruments table less_all side_capacity (unused ++ q ∷ []) free_capacity'
    kept_closed free_capacity' fits =
        kept_from capacity instruments table less_all side_capacity (unused ++ q ∷ []) free_capacity' (without_row q rows) rows_less
        (pairs-filter AreRowsApart _ rows kept.rows.apart)
        (all-filter (IsBelow (length table) instruments) _ rows (kept_below kept))
        kept.mark (length-set all going_number (without_step going.price (list_at all going_number)) ∙ kept.sides)
        (sides-set table all kept.steps going.instrument going.side going_in (without_step going.price (list_at all going_number)) (all-filter (IsStep table going_number) _ (list_at all going_number) (side-steps table all kept.steps going.instrument going.side going_in)))
        kept.room
        (all-append (λ (x : ℕ). (x < length table) × (HasQueue x (without_row q rows) → ⊥)) unused (q ∷ [])
        (all-with (λ (x : ℕ). (x < length table) × (HasQueue x rows → ⊥)) (λ (x : ℕ). (x < length table) × (HasQueue x (without_row q rows) → ⊥)) (λ x h. (h.0, λ k. h.1 (queue-filter _ x rows k))) unused kept.free)
        ((queue_in kept t view q has, without-lacks q rows), tt))
        (apart-push unused q kept.free_apart (all-with (λ (x : ℕ). (x < length table) × (HasQueue x rows → ⊥)) (λ x. q ≢ x) (λ x h e. h.1 (subst (λ (y : ℕ). HasQueue y rows) e (held_here kept t view q has))) unused kept.free))
        fits
        (let a = count_less in omega (arith, length_push unused q, kept.count))

    pub seen_closed : rows_seen capacity instruments table less_all ≡ record t { rows = without_row q t.rows }
    seen_closed =
        ap (λ (rs : List LevelRow). record (rows_seen capacity instruments table all) { rows = rs }) rows_less
        ∙ ap (λ (x : Rows). record x { rows = without_row q x.rows }) view

    pub count_closed : length (rows_of table less_all) + 1 ≡ length t.rows
    count_closed = ap {B = ℕ} (λ (rs : List LevelRow). length rs + 1) rows_less ∙ count_less ∙ ap {B = ℕ} (λ (x : Rows). length x.rows) view
