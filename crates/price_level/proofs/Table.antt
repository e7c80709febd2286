-- The table of rows is read, and gets a row.
use Rattle.std.proofs.Common.{◌≡◌, ◌≢◌, ℕ, ◌<◌, ◌≤◌, Bool, cond, List, [], ◌∷◌, ◌++◌, get_or, length, set, sym, ap, ◌∙◌, arith, inl, inr}
use Rattle.std.proofs.lemmas.Bool.{cases_lt, lt-ltb, le-ltb}
use Rattle.std.proofs.lemmas.List.{get_or-map, get_or-set_same, get_or-set_other, get_or_push, get_or_past, get_or_append_left, length-map, length-set, length_push, map-set, map_push}
use Rattle.price_level.specs.declared.row.LevelRow.{LevelRow}
use Rattle.price_level.specs.declared.row.Held.{Held}
use Rattle.price_level.specs.Rows.{no_row}
use Rattle.price_level.specs.Inner.Sides.{row_in}
use Rattle.price_level.specs.Inner.Table.{rows_held, with_row}

pub held-count : (all : List Held) → length (rows_held all) ≡ length all
held-count all = length-map all (λ (h : Held). h.row)

-- the row of a queue, once it is read
pub read_held : (all : List Held) (q : ℕ) → q < length (rows_held all) → (h : Held) → h ≡ get_or all q h → h.row ≡ row_in (rows_held all) q
read_held all q lt h is = ap (λ (x : Held). x.row) is ∙ sym (get_or-map (λ (x : Held). x.row) all q h no_row (omega (arith, held-count all, lt)))

pub set_held : (all : List Held) (q : ℕ) (h : Held) → rows_held (set all q h) ≡ set (rows_held all) q h.row
set_held all q h = map-set (λ (x : Held). x.row) all q h

pub with_used : (table : List LevelRow) (q : ℕ) (r : LevelRow) → q < length table → with_row table q r ≡ set table q r
with_used table q r lt = ap (λ (b : Bool). cond b (set table q r) (table ++ r ∷ [])) (lt-ltb q (length table) lt)

pub with_next : (table : List LevelRow) (q : ℕ) (r : LevelRow) → length table ≤ q → with_row table q r ≡ table ++ r ∷ []
with_next table q r ge = ap (λ (b : Bool). cond b (set table q r) (table ++ r ∷ [])) (le-ltb q (length table) ge)

pub held_used : (all : List Held) (q : ℕ) (h : Held) → q < length all → rows_held (set all q h) ≡ with_row (rows_held all) q h.row
held_used all q h lt = set_held all q h ∙ sym (with_used (rows_held all) q h.row (omega (arith, held-count all, lt)))

pub held_next : (all : List Held) (q : ℕ) (h : Held) → length all ≤ q → rows_held (all ++ h ∷ []) ≡ with_row (rows_held all) q h.row
held_next all q h ge = map_push (λ (x : Held). x.row) all h ∙ sym (with_next (rows_held all) q h.row (omega (arith, held-count all, ge)))

-- ---- a queue has this row now, and no other queue has another one
pub record IsGiven (table new : List LevelRow) (q : ℕ) (r : LevelRow) : Type 0 where
  pub within : q < length new
  pub here : row_in new q ≡ r
  pub others : (x : ℕ) → x ≢ q → row_in new x ≡ row_in table x

pub given_used : (table : List LevelRow) (q : ℕ) (r : LevelRow) → q < length table → IsGiven table (set table q r) q r
given_used table q r lt = record {
  within = omega (arith, length-set table q r, lt);
  here = get_or-set_same table q r no_row lt;
  others = λ x ne. get_or-set_other table q x r no_row ne;
}

pub given_next : (table : List LevelRow) (q : ℕ) (r : LevelRow) → q ≡ length table → IsGiven table (table ++ r ∷ []) q r
given_next table q r is = record {
  within = omega (arith, length_push table r, is);
  here = get_or_push table r no_row q (sym is);
  others = λ x ne. elim (cases_lt x (length table)) [
    | inl lt ↦ get_or_append_left table (r ∷ []) no_row x lt
    | inr ge ↦
        let apart : x ≢ length table = λ e. ne (e ∙ sym is) in
        get_or_past (table ++ r ∷ []) x no_row (omega (arith, length_push table r, ge, apart)) ∙ sym (get_or_past table x no_row ge)
  ];
}
