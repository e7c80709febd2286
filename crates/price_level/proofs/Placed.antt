-- Rows in book order once a level comes.
use Rattle.std.proofs.Common.{◌≡◌, ◌≢◌, ℕ, ◌+◌, Bool, true, false, cond, not, List, [], ◌∷◌, ◌++◌, length, filter, Option, Some, None, refl, sym, ap, subst, ◌∙◌, arith, inl, inr, ◌⊎◌}
use Rattle.std.specs.Prelude.{◌==◌}
use Rattle.std.specs.List.{AllByRecursion}
use Rattle.std.proofs.lemmas.Bool.{eq-eqb, ne_eqb, not-true}
use Rattle.std.proofs.lemmas.List.{length-append}
use Rattle.std.proofs.lemmas.List.Elements.{filter-append}
use Rattle.book_order.proofs.Before.{before-past, before-apart, before-other}
use Rattle.price_level.specs.declared.row.LevelRow.{LevelRow}
use Rattle.price_level.specs.Rows.{level_of_row, row_at, row_before, queue_of_row, queue_at, HasQueue, row_of, placed_row, without_row, Pairs, AreRowsApart}
use Rattle.price_level.proofs.Lists.{all-append, all-filter, all-with, all-both, pairs-append, pairs-across, pairs-front, pairs-back, filter-all, filter-none}
use Rattle.price_level.proofs.RowLists.{lacks, queue-middle, queue-insert, row-middle}

passing : (p : LevelRow → Bool) (rs : List LevelRow) → AllByRecursion (λ r. p r ≡ true) (filter p rs)
passing p [] = tt
passing p (r ∷ rs) = let go : (b : Bool) → p r ≡ b → AllByRecursion (λ r. p r ≡ true) (cond b (r ∷ filter p rs) (filter p rs)) = elim [ true ↦ λ e. (e, passing p rs) | false ↦ λ e. passing p rs ] in go (p r) refl

pub none-at : (p : LevelRow → Bool) (rs : List LevelRow) → queue_of_row (filter p rs) ≡ None → AllByRecursion (λ r. p r ≡ false) rs
none-at p [] h = tt
none-at p (r ∷ rs) h =
    elim (p r) as (λ b. p r ≡ b → queue_of_row (cond b (r ∷ filter p rs) (filter p rs)) ≡ None → AllByRecursion (λ r. p r ≡ false) (r ∷ rs)) [
      | true ↦ λ e g. absurd (let g' : ◌≡◌ {A = Option ℕ} (Some r.queue) None = g in cc)
      | false ↦ λ e g. (e, none-at p rs g)
    ] refl h

module _ (n : LevelRow) where
  abbrev front : List LevelRow → List LevelRow
  front rs = filter (λ r. not (row_before n r)) rs

  abbrev back : List LevelRow → List LevelRow
  back rs = filter (row_before n) rs

  -- what stands after a row that n comes before
  behind : (r : LevelRow) (rs : List LevelRow) → row_before n r ≡ true → AllByRecursion (AreRowsApart r) rs → AllByRecursion (λ x. row_before n x ≡ true) rs
  behind r rs h a = all-with (AreRowsApart r) (λ x. row_before n x ≡ true) (λ x k. before-past (level_of_row n) (level_of_row r) (level_of_row x) h (before-apart (level_of_row r) (level_of_row x) k.0)) rs a

  pub split : (rs : List LevelRow) → Pairs AreRowsApart rs → front rs ++ back rs ≡ rs
  split [] a = refl
  split (r ∷ rs) a =
      let go : (b : Bool) → row_before n r ≡ b → cond (not b) (r ∷ front rs) (front rs) ++ cond b (r ∷ back rs) (back rs) ≡ r ∷ rs = elim [
        | true ↦ λ h.
            let k = behind r rs h a.0 in
            let f = filter-none (λ x. not (row_before n x)) rs (all-with (λ x. row_before n x ≡ true) (λ x. not (row_before n x) ≡ false) (λ x e. ap not e) rs k) in
            let g = filter-all (row_before n) rs k in
            λ i. f i ++ r ∷ g i
        | false ↦ λ h. ap (λ (x : List LevelRow). r ∷ x) (split rs a.1)
      ] in go (row_before n r) refl

  -- a row that is not of this level, and does not come after it, comes before it
  ahead : (r : LevelRow) → row_before n r ≡ false → row_at (level_of_row n) r ≡ false → row_before r n ≡ true
  ahead r h g = before-other (level_of_row n) (level_of_row r) h g

  module _ (rs : List LevelRow) (a : Pairs AreRowsApart rs) (absent : queue_at (level_of_row n) rs ≡ None) (fresh : HasQueue n.queue rs → ⊥) where
    front-lacks : AllByRecursion (λ (r : LevelRow). r.queue ≢ n.queue) (front rs)
    front-lacks = all-filter (λ (r : LevelRow). r.queue ≢ n.queue) (λ r. not (row_before n r)) rs (lacks n.queue rs fresh)

    back-lacks : AllByRecursion (λ (r : LevelRow). r.queue ≢ n.queue) (back rs)
    back-lacks = all-filter (λ (r : LevelRow). r.queue ≢ n.queue) (row_before n) rs (lacks n.queue rs fresh)

    pub placed-apart : Pairs AreRowsApart (placed_row n rs)
    placed-apart =
        let whole = subst (Pairs AreRowsApart) (sym (split rs a)) a in
        let across = pairs-across AreRowsApart (front rs) (back rs) whole in
        let before-n : AllByRecursion (λ r. AreRowsApart r n) (front rs) = all-with (λ r. ((not (row_before n r) ≡ true) × (row_at (level_of_row n) r ≡ false)) × (r.queue ≢ n.queue)) (λ r. AreRowsApart r n) (λ r k. (ahead r (not-true (row_before n r) k.0.0) k.0.1, λ e. k.1 (sym e))) (front rs)
        (all-both (λ r. (not (row_before n r) ≡ true) × (row_at (level_of_row n) r ≡ false)) (λ r. r.queue ≢ n.queue) (front rs)
        (all-both (λ r. not (row_before n r) ≡ true) (λ r. row_at (level_of_row n) r ≡ false) (front rs) (passing (λ r. not (row_before n r)) rs) (all-filter (λ r. row_at (level_of_row n) r ≡ false) (λ r. not (row_before n r)) rs (none-at (row_at (level_of_row n)) rs absent)))
        front-lacks) in
        let after-n : AllByRecursion (AreRowsApart n) (back rs) = all-both (λ r. row_before n r ≡ true) (λ r. r.queue ≢ n.queue) (back rs) (passing (row_before n) rs) back-lacks in
        pairs-append AreRowsApart (front rs) (n ∷ back rs) (pairs-front AreRowsApart (front rs) (back rs) whole) (after-n, pairs-back AreRowsApart (front rs) (back rs) whole)
        (all-both (λ r. AreRowsApart r n) (λ r. AllByRecursion (AreRowsApart r) (back rs)) (front rs) before-n across)

    pub placed-all : (P : LevelRow → Type 0) → P n → AllByRecursion P rs → AllByRecursion P (placed_row n rs)
    placed-all P here h = all-append P (front rs) (n ∷ back rs) (all-filter P (λ r. not (row_before n r)) rs h) (here, all-filter P (row_before n) rs h)

    pub placed-rest : without_row n.queue (placed_row n rs) ≡ rs
    placed-rest =
        let q = n.queue in
        let test = λ (r : LevelRow). not (r.queue == q) in
        let passes = λ (xs : List LevelRow) (h : AllByRecursion (λ (r : LevelRow). r.queue ≢ q) xs). filter-all test xs (all-with (λ r. r.queue ≢ q) (λ r. test r ≡ true) (λ r ne. ap not (ne_eqb r.queue q ne)) xs h) in
        let f = passes (front rs) front-lacks in
        let g = passes (back rs) back-lacks in
        filter-append test (front rs) (n ∷ back rs)
        ∙ (λ i. f i ++ cond (not (eq-eqb q q refl i)) (n ∷ filter test (back rs)) (filter test (back rs)))
        ∙ ap (λ (x : List LevelRow). front rs ++ x) g
        ∙ split rs a

    pub placed-has : HasQueue n.queue (placed_row n rs)
    placed-has = queue-middle (front rs) (back rs) n

    pub placed-row : row_of n.queue (placed_row n rs) ≡ n
    placed-row = row-middle (front rs) (back rs) n front-lacks

    pub placed-count : length (placed_row n rs) ≡ length rs + 1
    placed-count =
        let e = length-append (front rs) (n ∷ back rs) in
        let f = length-append (front rs) (back rs) in
        let g = ap {B = ℕ} length (split rs a) in
        omega arith

    pub placed-queues : (q : ℕ) → HasQueue q (placed_row n rs) → (n.queue ≡ q) ⊎ HasQueue q rs
    placed-queues q h = elim (queue-insert q (front rs) (back rs) n h) [ inl e ↦ inl e | inr k ↦ inr (subst (HasQueue q) (split rs a) k) ]
