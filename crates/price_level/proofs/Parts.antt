-- The rows of all sides, around one of them.
use Rattle.std.proofs.Common.{◌≡◌, ◌≢◌, ℕ, ◌+◌, ◌<◌, ◌≤◌, Bool, true, false, List, [], ◌∷◌, ◌++◌, length, set, filter, refl, sym, ap, subst, ◌∙◌, arith}
use Prim.Native.Nat.{zero, suc}
use Rattle.std.specs.List.{AllByRecursion}
use Rattle.std.proofs.lemmas.List.{append_assoc, append-nil}
use Rattle.std.proofs.lemmas.List.Elements.{filter-append}
use Rattle.price_level.specs.declared.row.LevelRow.{LevelRow}
use Rattle.price_chunks.specs.declared.place.Step.{Step}
use Rattle.price_chunks.specs.Steps.{list_at}
use Rattle.price_level.specs.Inner.Sides.{rows_of, rows_of_side, row_number, AreSides, IsStep}
use Rattle.price_level.proofs.Lists.{all-append, all-with, filter-all, filter-none}
use Rattle.price_level.proofs.SideRows.{rows-number}

-- the side n of the sides from the number m on, with the rows ahead of it and after it
pub record Around (table : List LevelRow) (m n k : ℕ) (all : List (List Step)) : Type 0 where
  pub ahead : List LevelRow
  pub behind : List LevelRow
  pub is : rows_of table all ≡ ahead ++ (rows_of_side table (list_at all k) ++ behind)
  pub put : (l : List Step) → rows_of table (set all k l) ≡ ahead ++ (rows_of_side table l ++ behind)
  pub low : AllByRecursion (λ (r : LevelRow). row_number r < n) ahead
  pub high : AllByRecursion (λ (r : LevelRow). n < row_number r) behind
  pub here : AllByRecursion (IsStep table n) (list_at all k)
  pub sides : (l : List Step) → AllByRecursion (IsStep table n) l → AreSides table m (set all k l)

from : (table : List LevelRow) (m : ℕ) (all : List (List Step)) → AreSides table m all → AllByRecursion (λ (r : LevelRow). m ≤ row_number r) (rows_of table all)
from table m [] h = tt
from table m (l ∷ all) h =
    all-append (λ r. m ≤ row_number r) (rows_of_side table l) (rows_of table all)
    (all-with (λ r. row_number r ≡ m) (λ r. m ≤ row_number r) (λ r e. omega arith) (rows_of_side table l) (rows-number table m l h.0))
    (all-with (λ r. suc m ≤ row_number r) (λ r. m ≤ row_number r) (λ r e. omega arith) (rows_of table all) (from table (suc m) all h.1))

pub around : (table : List LevelRow) (m n k : ℕ) (all : List (List Step)) → n ≡ m + k → k < length all → AreSides table m all → Around table m n k all
around table m n k [] e lt h = absurd (omega arith)
around table m n zero (l ∷ all) e lt h =
    let f : m ≡ n = omega arith in
    record {
      ahead = [];
      behind = rows_of table all;
      is = refl;
      put = λ x. refl;
      low = tt;
      high = all-with (λ r. suc m ≤ row_number r) (λ r. n < row_number r) (λ r g. omega arith) (rows_of table all) (from table (suc m) all h.1);
      here = subst (λ (x : ℕ). AllByRecursion (IsStep table x) l) f h.0;
      sides = λ x g. (subst (λ (y : ℕ). AllByRecursion (IsStep table y) x) (sym f) g, h.1);
    }
around table m n (suc k) (l ∷ all) e lt h =
    let r = around table (suc m) n k all (omega arith) (omega arith) h.1 in
    let R = rows_of_side table l in
    record {
      ahead = R ++ r.ahead;
      behind = r.behind;
      is = ap (λ (x : List LevelRow). R ++ x) r.is ∙ sym (append_assoc R r.ahead (rows_of_side table (list_at all k) ++ r.behind));
      put = λ x. ap (λ (y : List LevelRow). R ++ y) (r.put x) ∙ sym (append_assoc R r.ahead (rows_of_side table x ++ r.behind));
      low = all-append (λ r. row_number r < n) R r.ahead (all-with (λ r. row_number r ≡ m) (λ r. row_number r < n) (λ r g. omega arith) R (rows-number table m l h.0)) r.low;
      high = r.high;
      here = r.here;
      sides = λ x g. (h.0, r.sides x g);
    }

-- ---- filters of the rows around a side

module _ (n : ℕ) (ahead here behind : List LevelRow) (low : AllByRecursion (λ (r : LevelRow). row_number r < n) ahead) (high : AllByRecursion (λ (r : LevelRow). n < row_number r) behind) where
  filter-parts : (p : LevelRow → Bool) → filter p (ahead ++ (here ++ behind)) ≡ filter p ahead ++ (filter p here ++ filter p behind)
  filter-parts p = filter-append p ahead (here ++ behind) ∙ ap (λ (x : List LevelRow). filter p ahead ++ x) (filter-append p here behind)

  -- a test that fails off the side
  pub filter-side : (p : LevelRow → Bool) → ((r : LevelRow) → row_number r ≢ n → p r ≡ false) → filter p (ahead ++ (here ++ behind)) ≡ filter p here
  filter-side p f =
      let a = filter-none p ahead (all-with (λ r. row_number r < n) (λ r. p r ≡ false) (λ r lt. let ne : row_number r ≢ n = omega arith in f r ne) ahead low) in
      let b = filter-none p behind (all-with (λ r. n < row_number r) (λ r. p r ≡ false) (λ r lt. let ne : row_number r ≢ n = omega arith in f r ne) behind high) in
      filter-parts p ∙ (λ i. a i ++ (filter p here ++ b i)) ∙ append-nil (filter p here)

  -- a test that passes off the side
  pub filter-rest : (p : LevelRow → Bool) → ((r : LevelRow) → row_number r ≢ n → p r ≡ true) → filter p (ahead ++ (here ++ behind)) ≡ ahead ++ (filter p here ++ behind)
  filter-rest p t =
      let a = filter-all p ahead (all-with (λ r. row_number r < n) (λ r. p r ≡ true) (λ r lt. let ne : row_number r ≢ n = omega arith in t r ne) ahead low) in
      let b = filter-all p behind (all-with (λ r. n < row_number r) (λ r. p r ≡ true) (λ r lt. let ne : row_number r ≢ n = omega arith in t r ne) behind high) in
      filter-parts p ∙ (λ i. a i ++ (filter p here ++ b i))

  -- a test that passes after the side, and fails ahead of it
  pub filter-behind : (p : LevelRow → Bool) → ((r : LevelRow) → row_number r < n → p r ≡ false) → ((r : LevelRow) → n < row_number r → p r ≡ true) → filter p (ahead ++ (here ++ behind)) ≡ filter p here ++ behind
  filter-behind p f t =
      let a = filter-none p ahead (all-with (λ r. row_number r < n) (λ r. p r ≡ false) f ahead low) in
      let b = filter-all p behind (all-with (λ r. n < row_number r) (λ r. p r ≡ true) t behind high) in
      filter-parts p ∙ (λ i. a i ++ (filter p here ++ b i))

  pub filter-ahead : (p : LevelRow → Bool) → ((r : LevelRow) → row_number r < n → p r ≡ true) → ((r : LevelRow) → n < row_number r → p r ≡ false) → filter p (ahead ++ (here ++ behind)) ≡ ahead ++ filter p here
  filter-ahead p t f =
      let a = filter-all p ahead (all-with (λ r. row_number r < n) (λ r. p r ≡ true) t ahead low) in
      let b = filter-none p behind (all-with (λ r. n < row_number r) (λ r. p r ≡ false) f behind high) in
      filter-parts p ∙ (λ i. a i ++ (filter p here ++ b i)) ∙ ap (λ (x : List LevelRow). ahead ++ x) (append-nil (filter p here))
