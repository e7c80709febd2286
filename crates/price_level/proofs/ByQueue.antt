-- The level with a queue, and its side.
use Rattle.std.proofs.Common.{◌≡◌, ℕ, ◌<◌, List, length, refl, sym, subst}
use Rattle.price_level.specs.declared.row.LevelRow.{LevelRow}
use Rattle.price_chunks.specs.declared.place.Step.{Step}
use Rattle.price_level.specs.Rows.{Rows, HasQueue, row_of}
use Rattle.price_level.specs.Inner.Kept.{rows_seen, IsKept}
use Rattle.price_level.specs.Inner.Sides.{row_in, side_number, rows_of}
use Rattle.price_level.proofs.RowLists.{each-row}
use Rattle.price_level.proofs.Seen.{side_in, has_queue, row_is}
use Rattle.price_level.proofs.Kept.{IsBelow, kept_below}

module _ {capacity instruments : ℕ} {table : List LevelRow} {all : List (List Step)} {side_capacity : ℕ} {unused : List ℕ} {free_capacity : ℕ} (kept : IsKept capacity instruments table all side_capacity unused free_capacity) (t : Rows) (view : rows_seen capacity instruments table all ≡ t)
    (q : ℕ) (has : HasQueue q t.rows) where
  abbrev pub held : LevelRow
  held = row_in table q

  abbrev pub held_number : ℕ
  held_number = side_number held.instrument held.side

  pub held_here : HasQueue q (rows_of table all)
  held_here = has_queue kept t view q has

  pub held_is : held ≡ row_of q (rows_of table all)
  held_is = row_is kept (rows_seen capacity instruments table all) refl q held_here

  pub held_listed : held.instrument < instruments
  held_listed = subst (λ (r : LevelRow). r.instrument < instruments) (sym held_is) (each-row (IsBelow (length table) instruments) q (rows_of table all) (kept_below kept) held_here).0.1

  pub held_in : held_number < length all
  held_in = side_in kept held.instrument held.side held_listed
