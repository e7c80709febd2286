-- The rows of all sides, where the table of rows changes, and that the table has each row under its queue.
use Rattle.std.proofs.Common.{◌≡◌, ℕ, List, [], ◌∷◌, ◌++◌, map, refl, sym, ap, ◌∙◌}
use Prim.Native.Nat.{suc}
use Rattle.std.specs.List.{AllByRecursion}
use Rattle.std.proofs.lemmas.List.{map-append, map-id}
use Rattle.price_level.specs.declared.row.LevelRow.{LevelRow}
use Rattle.price_chunks.specs.declared.place.Step.{Step}
use Rattle.price_level.specs.Inner.Sides.{row_in, rows_of, rows_of_side, row_number, AreSides, IsStep}
use Rattle.price_level.proofs.Lists.{all-append, all-front, all-back, all-with}
use Rattle.price_level.proofs.SideRows.{rows-all}

pub named : (table : List LevelRow) (m : ℕ) (all : List (List Step)) → AreSides table m all → AllByRecursion (λ (r : LevelRow). row_in table r.queue ≡ r) (rows_of table all)
named table m [] h = tt
named table m (l ∷ all) h =
    all-append (λ (r : LevelRow). row_in table r.queue ≡ r) (rows_of_side table l) (rows_of table all)
    (rows-all table (λ (r : LevelRow). row_in table r.queue ≡ r) l (all-with (IsStep table m) (λ s. row_in table (row_in table s.queue).queue ≡ row_in table s.queue) (λ s e. ap (row_in table) e.queue) l h.0))
    (named table (suc m) all h.1)

-- each row in use that has Q becomes f of it, and each level becomes g of it
module _ (table new : List LevelRow) (f : LevelRow → LevelRow) (g : Step → Step)
    (same : (r : LevelRow) → (row_number (f r) ≡ row_number r) × (((f r).price ≡ r.price) × ((f r).queue ≡ r.queue)))
    (keeps : (s : Step) → ((g s).price ≡ s.price) × ((g s).queue ≡ s.queue))
    (Q : LevelRow → Type 0) (becomes : (q : ℕ) → (row_in table q).queue ≡ q → Q (row_in table q) → row_in new q ≡ f (row_in table q))
    (agree : (r : LevelRow) (s : Step) → r.queue ≡ s.queue → r.leaves ≡ s.leaves → (f r).leaves ≡ (g s).leaves) where
  side-becomes : (n : ℕ) (steps : List Step) → AllByRecursion (IsStep table n) steps → AllByRecursion Q (rows_of_side table steps) → (rows_of_side new (map g steps) ≡ map f (rows_of_side table steps)) × AllByRecursion (IsStep new n) (map g steps)
  side-becomes n [] h a = (refl, tt)
  side-becomes n (s ∷ steps) h a =
      let r = row_in table s.queue in
      let front = rows_of_side table steps in
      let k = keeps s in
      let e = ap (row_in new) k.1 ∙ becomes s.queue h.0.queue (all-back Q front (r ∷ []) a).0 in
      let rest = side-becomes n steps h.1 (all-front Q front (r ∷ []) a) in
      let one : IsStep new n (g s) = record {
        side = ap row_number e ∙ (same r).0 ∙ h.0.side;
        price = ap (λ (x : LevelRow). x.price) e ∙ (same r).1.0 ∙ h.0.price ∙ sym k.0;
        queue = ap (λ (x : LevelRow). x.queue) e ∙ (same r).1.1 ∙ h.0.queue ∙ sym k.1;
        leaves = ap (λ (x : LevelRow). x.leaves) e ∙ agree r s h.0.queue h.0.leaves;
      } in
      ((λ i. rest.0 i ++ e i ∷ []) ∙ sym (map-append f front (r ∷ [])), (one, rest.1))

  pub all-becomes : (m : ℕ) (all : List (List Step)) → AreSides table m all → AllByRecursion Q (rows_of table all) → (rows_of new (map (map g) all) ≡ map f (rows_of table all)) × AreSides new m (map (map g) all)
  all-becomes m [] h a = (refl, tt)
  all-becomes m (l ∷ all) h a =
      let front = rows_of_side table l in
      let k = side-becomes m l h.0 (all-front Q front (rows_of table all) a) in
      let t = all-becomes (suc m) all h.1 (all-back Q front (rows_of table all) a) in
      ((λ i. k.0 i ++ t.0 i) ∙ sym (map-append f front (rows_of table all)), (k.1, t.1))

pub map-same : (all : List (List Step)) → map (map (λ (s : Step). s)) all ≡ all
map-same [] = refl
map-same (l ∷ all) = λ i. map-id l i ∷ map-same all i
