-- Rows in book order once a level goes, or has other sums.
use Rattle.std.proofs.Common.{◌≡◌, ◌≢◌, ℕ, ◌+◌, Bool, true, false, cond, not, List, [], ◌∷◌, length, filter, refl, sym, ap, subst, ◌∙◌, arith, inl, inr}
use Rattle.std.specs.Prelude.{◌==◌}
use Rattle.std.specs.List.{AllByRecursion}
use Rattle.std.proofs.lemmas.Bool.{cases_eq, eq-eqb, ne_eqb, false_from_ne_true}
use Rattle.book_order.specs.Levels.{Level, is_level, is_before}
use Rattle.book_order.proofs.Levels.{is_before-irrefl, is_level-same, is_level-refl}
use Rattle.price_level.specs.declared.row.LevelRow.{LevelRow}
use Rattle.price_level.specs.Rows.{level_of_row, row_at, HasQueue, row_of, without_row, resummed, with_sums, Pairs, AreRowsApart}
use Rattle.price_level.proofs.Lists.{all-with, pairs-map, filter-all, filter-same}
use Rattle.price_level.proofs.RowLists.{each-row}

-- rows without this queue are whole without it
without-none : (q : ℕ) (rs : List LevelRow) → AllByRecursion (λ (r : LevelRow). r.queue ≢ q) rs → without_row q rs ≡ rs
without-none q rs h = filter-all (λ r. not (r.queue == q)) rs (all-with (λ r. r.queue ≢ q) (λ r. not (r.queue == q) ≡ true) (λ r ne. ap not (ne_eqb r.queue q ne)) rs h)

-- of the rows after r none has its queue
rest-lacks : (r : LevelRow) (q : ℕ) (rs : List LevelRow) → r.queue ≡ q → AllByRecursion (AreRowsApart r) rs → AllByRecursion (λ (x : LevelRow). x.queue ≢ q) rs
rest-lacks r q rs e h = all-with (AreRowsApart r) (λ x. x.queue ≢ q) (λ x k f. k.1 (f ∙ sym e)) rs h

pub without-count : (q : ℕ) (rs : List LevelRow) → Pairs AreRowsApart rs → HasQueue q rs → length (without_row q rs) + 1 ≡ length rs
without-count q [] a h = absurd h
without-count q (r ∷ rs) a h =
    elim (cases_eq r.queue q) [
      | inl e ↦
          let f : without_row q (r ∷ rs) ≡ rs = ap (λ (b : Bool). cond (not b) (r ∷ without_row q rs) (without_row q rs)) (eq-eqb r.queue q e) ∙ without-none q rs (rest-lacks r q rs e a.0) in
          let g = ap {B = ℕ} length f in omega arith
      | inr ne ↦
          let f : without_row q (r ∷ rs) ≡ r ∷ without_row q rs = ap (λ (b : Bool). cond (not b) (r ∷ without_row q rs) (without_row q rs)) (ne_eqb r.queue q ne) in
          let g = ap {B = ℕ} length f in
          let k = without-count q rs a.1 (elim h [ inl e ↦ absurd (ne e) | inr k ↦ k ]) in omega arith
    ]

pub without-lacks : (q : ℕ) (rs : List LevelRow) → HasQueue q (without_row q rs) → ⊥
without-lacks q [] h = h
without-lacks q (r ∷ rs) h =
    elim (cases_eq r.queue q) [
      | inl e ↦ without-lacks q rs (subst (HasQueue q) (ap (λ (b : Bool). cond (not b) (r ∷ without_row q rs) (without_row q rs)) (eq-eqb r.queue q e)) h)
      | inr ne ↦ elim (subst (HasQueue q) (ap (λ (b : Bool). cond (not b) (r ∷ without_row q rs) (without_row q rs)) (ne_eqb r.queue q ne)) h) [ inl e ↦ ne e | inr k ↦ without-lacks q rs k ]
    ]

-- a row that comes before another is of another level
other-level : (a b : Level) → is_before a b ≡ true → is_level a b ≡ false
other-level a b h =
    false_from_ne_true (is_level a b) (λ t.
    let f = subst (λ (x : Level). is_before a x ≡ true) (sym (is_level-same a b t)) h in
    let g = is_before-irrefl a in cc)

other-level-back : (a b : Level) → is_before a b ≡ true → is_level b a ≡ false
other-level-back a b h =
    false_from_ne_true (is_level b a) (λ t.
    let f = subst (λ (x : Level). is_before a x ≡ true) (is_level-same b a t) h in
    let g = is_before-irrefl a in cc)

-- the row of a queue is the one at its level
pub same-row : (q : ℕ) (rs : List LevelRow) → Pairs AreRowsApart rs → HasQueue q rs → AllByRecursion (λ (r : LevelRow). (r.queue == q) ≡ row_at (level_of_row (row_of q rs)) r) rs
same-row q [] a h = absurd h
same-row q (r ∷ rs) a h =
    elim (cases_eq r.queue q) [
      | inl e ↦
          let t = eq-eqb r.queue q e in
          let f : row_of q (r ∷ rs) ≡ r = ap (λ (b : Bool). cond b r (row_of q rs)) t in
          let here : (x : LevelRow) → (r.queue == q) ≡ row_at (level_of_row r) r = λ x. t ∙ sym (is_level-refl (level_of_row r)) in
          subst (λ (x : LevelRow). AllByRecursion (λ (y : LevelRow). (y.queue == q) ≡ row_at (level_of_row x) y) (r ∷ rs)) (sym f)
          (here r, all-with (AreRowsApart r) (λ y. (y.queue == q) ≡ row_at (level_of_row r) y) (λ y k. ne_eqb y.queue q (λ g. k.1 (g ∙ sym e)) ∙ sym (other-level-back (level_of_row r) (level_of_row y) k.0)) rs a.0)
      | inr ne ↦
          let t = ne_eqb r.queue q ne in
          let f : row_of q (r ∷ rs) ≡ row_of q rs = ap (λ (b : Bool). cond b r (row_of q rs)) t in
          let k : HasQueue q rs = elim h [ inl e ↦ absurd (ne e) | inr k ↦ k ] in
          let apart = (each-row (AreRowsApart r) q rs a.0 k).0 in
          subst (λ (x : LevelRow). AllByRecursion (λ (y : LevelRow). (y.queue == q) ≡ row_at (level_of_row x) y) (r ∷ rs)) (sym f)
          (t ∙ sym (other-level (level_of_row r) (level_of_row (row_of q rs)) apart.0), same-row q rs a.1 k)
    ]

pub without-level : (q : ℕ) (rs : List LevelRow) → Pairs AreRowsApart rs → HasQueue q rs → without_row q rs ≡ filter (λ r. not (row_at (level_of_row (row_of q rs)) r)) rs
without-level q rs a h =
    let k = level_of_row (row_of q rs) in
    filter-same (λ r. not (r.queue == q)) (λ r. not (row_at k r)) rs (all-with (λ (r : LevelRow). (r.queue == q) ≡ row_at k r) (λ r. not (r.queue == q) ≡ not (row_at k r)) (λ r e. ap not e) rs (same-row q rs a h))

-- ---- a level has other sums

module _ (q count shown leaves : ℕ) where
  abbrev sums : LevelRow → LevelRow
  sums r = resummed q count shown leaves r

  -- whatever the sums do not change
  pub same-part : {Y : Type 0} (f : LevelRow → Y) → ((r : LevelRow) → f (record r { count = count; shown = shown; leaves = leaves }) ≡ f r) → (r : LevelRow) → f (sums r) ≡ f r
  same-part f k r = elim (r.queue == q) as (λ b. f (cond b (record r { count = count; shown = shown; leaves = leaves }) r) ≡ f r) [ true ↦ k r | false ↦ refl ]

  pub summed-apart : (rs : List LevelRow) → Pairs AreRowsApart rs → Pairs AreRowsApart (with_sums q count shown leaves rs)
  summed-apart rs a =
      pairs-map AreRowsApart AreRowsApart sums (λ x y k.
      let l = same-part level_of_row (λ r. refl) in
      let n = same-part (λ (r : LevelRow). r.queue) (λ r. refl) in
      ((λ i. is_before (l x i) (l y i)) ∙ k.0, λ e. k.1 (sym (n y) ∙ e ∙ n x))) rs a

  pub summed-queue : (x : ℕ) (rs : List LevelRow) → HasQueue x (with_sums q count shown leaves rs) → HasQueue x rs
  summed-queue x [] h = h
  summed-queue x (r ∷ rs) h = elim h [ inl e ↦ inl (sym (same-part (λ (y : LevelRow). y.queue) (λ y. refl) r) ∙ e) | inr k ↦ inr (summed-queue x rs k) ]
