-- How many levels there are, and how large their sums.
use Rattle.std.proofs.Common.{◌≡◌, ℕ, ◌+◌, ◌*◌, ◌≤◌, min, Bool, true, false, cond, List, [], ◌∷◌, ◌++◌, map, length, sym, ap, subst, arith, inl, inr, length-append}
use Rattle.std.proofs.lemmas.List.{length-map}
use Rattle.std.proofs.lemmas.List.Sums.{sum_by-cons}
use Rattle.std.specs.Prelude.{Option, sum_by, ◌==◌}
use Rattle.std.specs.List.{AllByRecursion}
use Rattle.gx_base.specs.declared.order.Order.{Order}
use Rattle.gx_base.specs.declared.order.Side.{Side}
use Rattle.plain_book.specs.declared.entry.Entry.{Entry}
use Rattle.plain_book.specs.Book.{IsResting, AllRest, first_shown}
use Rattle.plain_book.proofs.Pairs.{all-front, all-back}
use Rattle.price_level.specs.declared.row.LevelRow.{LevelRow}
use Rattle.price_level.specs.Rows.{HasQueue, row_of}
use Rattle.book_side.specs.Inner.Content.{Held, marked, resting_of}
use Rattle.book_side.specs.Inner.Linked.{IsSummed}
use Rattle.book_side.proofs.Flat.{at-row, row_of-queue}

module _ (T : ℕ → Side → Option ℕ) (P : ℕ → List Held) where
  abbrev E : ℕ → List Entry
  E q = map (marked T) (P q)

  pub rows-few : (rs : List LevelRow) → AllByRecursion (IsSummed P) rs → AllByRecursion (λ (r : LevelRow). 1 ≤ r.count) rs → length rs ≤ length (resting_of T P rs)
  rows-few [] s h = omega arith
  rows-few (r ∷ rs) s h =
      let F = resting_of T P rs in
      let l : length (E r.queue ++ F) ≡ length (E r.queue) + length F = length-append (E r.queue) F in
      let m : length (E r.queue) ≡ length (P r.queue) = length-map (P r.queue) (marked T) in
      let some : 1 ≤ r.count = h.0 in
      omega (arith, rows-few rs s.1 h.1, l, m, s.0.count, some)

  queue-few : (q : ℕ) (rs : List LevelRow) → HasQueue q rs → length (P q) ≤ length (resting_of T P rs)
  queue-few q [] h = absurd h
  queue-few q (r ∷ rs) h =
      let F = resting_of T P rs in
      let l : length (E r.queue ++ F) ≡ length (E r.queue) + length F = length-append (E r.queue) F in
      let m : length (E r.queue) ≡ length (P r.queue) = length-map (P r.queue) (marked T) in
      elim h [
        | inl e ↦ omega (arith, l, m, ap (λ (p : ℕ). length (P p)) e)
        | inr e ↦ omega (arith, l, queue-few q rs e)
      ]

  queue-rests : (n q : ℕ) (rs : List LevelRow) → HasQueue q rs → AllRest n (resting_of T P rs) → AllRest n (E q)
  queue-rests n q [] h a = absurd h
  queue-rests n q (r ∷ rs) h a =
      let B : Entry → Type 0 = λ (e : Entry). IsResting n e.order in
      elim h [
        | inl e ↦ subst (λ (p : ℕ). AllRest n (E p)) e (all-front B (E r.queue) (resting_of T P rs) a)
        | inr e ↦ queue-rests n q rs e (all-back B (E r.queue) (resting_of T P rs) a)
      ]

  shown-small : (n : ℕ) (hs : List Held) → AllRest n (map (marked T) hs) → sum_by (λ (h : Held). h.1.shown) hs ≤ 999999 * length hs
  shown-small n [] a = omega arith
  shown-small n (h ∷ hs) a = omega (arith, sum_by-cons (λ (x : Held). x.1.shown) h hs, shown-small n hs a.1, a.0.within, a.0.fit.whole, a.0.fit.small)

  leaves-small : (n : ℕ) (hs : List Held) → AllRest n (map (marked T) hs) → sum_by (λ (h : Held). h.1.leaves) hs ≤ 999999 * length hs
  leaves-small n [] a = omega arith
  leaves-small n (h ∷ hs) a = omega (arith, sum_by-cons (λ (x : Held). x.1.leaves) h hs, leaves-small n hs a.1, a.0.fit.whole, a.0.fit.small)

  pub row-small : (n q : ℕ) (rs : List LevelRow) → AllByRecursion (IsSummed P) rs → HasQueue q rs → AllRest n (resting_of T P rs)
      → ((row_of q rs).count ≤ length (resting_of T P rs)) × ((row_of q rs).shown ≤ 999999 * (row_of q rs).count) × ((row_of q rs).leaves ≤ 999999 * (row_of q rs).count)
  row-small n q rs s h a =
      let R = row_of q rs in
      let is : R.queue ≡ q = row_of-queue q rs h in
      let k : IsSummed P R = at-row (IsSummed P) q rs h s in
      let there : HasQueue R.queue rs = subst (λ (p : ℕ). HasQueue p rs) (sym is) h in
      let fits = queue-rests n R.queue rs there a in (
        omega (arith, k.count, queue-few R.queue rs there),
        omega (arith, k.count, k.shown, shown-small n (P R.queue) fits),
        omega (arith, k.count, k.leaves, leaves-small n (P R.queue) fits),
      )

pub first-small : (o : Order) → first_shown o ≤ o.leaves
first-small o =
    let go : (b : Bool) → cond b o.leaves (min o.show o.leaves) ≤ o.leaves = elim [ true ↦ omega arith | false ↦ omega arith ] in go (o.show == 0)
