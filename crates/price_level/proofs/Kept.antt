-- Fields are kept, by the rows that they are; and where there is no level yet.
use Rattle.std.proofs.Common.{◌≡◌, ℕ, ◌+◌, ◌*◌, ◌<◌, ◌≤◌, List, [], length, replicate, refl, sym, ap, subst, ◌∙◌, arith}
use Prim.Native.Nat.{zero, suc}
use Rattle.std.specs.List.{AllByRecursion}
use Rattle.std.proofs.lemmas.List.{length-replicate}
use Rattle.price_level.specs.declared.row.LevelRow.{LevelRow}
use Rattle.price_chunks.specs.declared.place.Step.{Step}
use Rattle.price_level.specs.Rows.{no_rows, Pairs, AreRowsApart}
use Rattle.price_level.specs.Inner.Kept.{rows_seen, AreApart, AreFree, IsKept}
use Rattle.price_level.specs.Inner.Sides.{rows_of, AreSides}
use Rattle.price_level.proofs.Lists.{all-with, all-both}

abbrev pub IsBelow : ℕ → ℕ → LevelRow → Type 0
IsBelow capacity instruments r = (r.queue < capacity) × (r.instrument < instruments)

-- fields are kept, by the rows that they are
module _ (capacity instruments : ℕ) (table : List LevelRow) (all : List (List Step)) (side_capacity : ℕ) (unused : List ℕ) (free_capacity : ℕ) (rs : List LevelRow) (is : rows_of table all ≡ rs) where
  pub kept_from : Pairs AreRowsApart rs → AllByRecursion (IsBelow (length table) instruments) rs → length table ≤ capacity → length all ≡ 2 * instruments → AreSides table 0 all → side_capacity ≡ capacity → AreFree (length table) rs unused → AreApart unused → free_capacity ≡ capacity → length rs + length unused ≡ length table
      → IsKept capacity instruments table all side_capacity unused free_capacity
  kept_from apart below mark sides steps room free free_apart free_room count = record {
    rows = record { apart = subst (Pairs AreRowsApart) (sym is) apart; below = subst (AllByRecursion (IsBelow capacity instruments)) (sym is) (all-with (IsBelow (length table) instruments) (IsBelow capacity instruments) (λ r b. (let lt = b.0 in omega (arith, mark), b.1)) rs below) };
    mark = mark;
    below = subst (AllByRecursion (λ (r : LevelRow). r.queue < length table)) (sym is) (all-with (IsBelow (length table) instruments) (λ (r : LevelRow). r.queue < length table) (λ r b. b.0) rs below);
    sides = sides;
    steps = steps;
    room = room;
    free = subst (λ (x : List LevelRow). AreFree (length table) x unused) (sym is) free;
    free_apart = free_apart;
    free_room = free_room;
    count = subst (λ (x : List LevelRow). length x + length unused ≡ length table) (sym is) count;
  }

-- the rows of kept fields
pub kept_below : {capacity instruments : ℕ} {table : List LevelRow} {all : List (List Step)} {side_capacity : ℕ} {unused : List ℕ} {free_capacity : ℕ} → IsKept capacity instruments table all side_capacity unused free_capacity → AllByRecursion (IsBelow (length table) instruments) (rows_of table all)
kept_below {capacity} {instruments} {table} {all} kept =
    all-with (λ (r : LevelRow). (r.queue < length table) × IsBelow capacity instruments r) (IsBelow (length table) instruments) (λ r b. (b.0, b.1.1)) (rows_of table all)
    (all-both (λ (r : LevelRow). r.queue < length table) (IsBelow capacity instruments) (rows_of table all) kept.below kept.rows.below)

-- ---- no level yet

no-rows : (table : List LevelRow) (count : ℕ) → rows_of table (replicate count []) ≡ []
no-rows table zero = refl
no-rows table (suc n) = no-rows table n

no-steps : (table : List LevelRow) (m count : ℕ) → AreSides table m (replicate count [])
no-steps table m zero = tt
no-steps table m (suc n) = (tt, no-steps table (suc m) n)

module _ (capacity instruments : ℕ) (table : List LevelRow) (all : List (List Step)) (side_capacity : ℕ) (unused : List ℕ) (free_capacity : ℕ) (no_table : table ≡ []) (empty : all ≡ replicate (2 * instruments) []) (exact : side_capacity ≡ capacity) (no_free : unused ≡ [])
    (room : free_capacity ≡ capacity) where
  none_yet : rows_of table all ≡ []
  none_yet = ap (rows_of table) empty ∙ no-rows table (2 * instruments)

  pub kept_new : IsKept capacity instruments table all side_capacity unused free_capacity
  kept_new =
      let t = ap {B = ℕ} length no_table in
      let f = ap {B = ℕ} length no_free in
      kept_from capacity instruments table all side_capacity unused free_capacity [] none_yet tt tt (omega arith) (ap length empty ∙ length-replicate (2 * instruments) []) (subst (AreSides table 0) (sym empty) (no-steps table 0 (2 * instruments))) exact
      (subst (AreFree (length table) []) (sym no_free) tt) (subst AreApart (sym no_free) tt) room (omega arith)

  pub seen_new : rows_seen capacity instruments table all ≡ no_rows capacity instruments
  seen_new = ap (λ (rs : List LevelRow). record (no_rows capacity instruments) { rows = rs }) none_yet
