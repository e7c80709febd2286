-- What is open on a side, and how much that can be.
use Rattle.std.proofs.Common.{◌≡◌, ℕ, ◌+◌, ◌*◌, ◌^◌, ◌<◌, ◌≤◌, Bool, true, false, cond, ◌&&◌, List, [], ◌∷◌, ◌++◌, map, filter, length, refl, sym, ap, ◌∙◌, arith}
use Rattle.std.proofs.lemmas.List.Elements.{filter-append}
use Rattle.std.proofs.lemmas.List.Sums.{sum_by-cons, sum_by-append}
use Rattle.std.specs.Prelude.{◌==◌, Option, sum_by}
use Rattle.std.specs.List.{AllByRecursion}
use Rattle.gx_base.specs.declared.price.Price.{Price}
use Rattle.gx_base.specs.declared.order.Side.{Side}
use Rattle.plain_book.specs.declared.entry.Entry.{Entry}
use Rattle.plain_book.specs.Orders.{Level, level_of, is_on, is_side, is_within, open_within}
use Rattle.plain_book.specs.Book.{AllRest}
use Rattle.price_level.specs.declared.row.LevelRow.{LevelRow}
use Rattle.price_level.specs.Rows.{level_of_row, row_on, open_rows}
use Rattle.book_side.specs.Inner.Flat.{flat, queues_of}
use Rattle.book_side.specs.Inner.Content.{Held, marked, resting_of}
use Rattle.book_side.specs.Inner.Linked.{IsSummed}
use Rattle.book_side.proofs.Looks.{passes, filter-both, all-marked}

abbrev leaves_of : Entry → ℕ
leaves_of e = e.order.leaves

leaves-marked : (T : ℕ → Side → Option ℕ) (hs : List Held) → sum_by (λ (h : Held). h.1.leaves) hs ≡ sum_by leaves_of (map (marked T) hs)
leaves-marked T [] = refl
leaves-marked T (h ∷ hs) = omega (arith, sum_by-cons (λ (y : Held). y.1.leaves) h hs, sum_by-cons leaves_of (marked T h) (map (marked T) hs), leaves-marked T hs)

module _ (T : ℕ → Side → Option ℕ) (P : ℕ → List Held) where
  abbrev E : ℕ → List Entry
  E q = map (marked T) (P q)

  -- a test of the level picks as much of the orders as of the levels
  sums-looked : (p : Entry → Bool) (G : Level → Bool) → ((e : Entry) → p e ≡ G (level_of e.order)) → (rs : List LevelRow) → AllByRecursion (IsSummed P) rs
      → sum_by leaves_of (filter p (flat E (queues_of rs))) ≡ sum_by (λ (r : LevelRow). r.leaves) (filter (λ r. G (level_of_row r)) rs)
  sums-looked p G f [] s = refl
  sums-looked p G f (r ∷ rs) s =
      let F = flat E (queues_of rs) in
      let Q : LevelRow → Bool = λ (r : LevelRow). G (level_of_row r) in
      let total : r.leaves ≡ sum_by leaves_of (E r.queue) = s.0.leaves ∙ leaves-marked T (P r.queue) in
      let parts : sum_by leaves_of (filter p (E r.queue ++ F)) ≡ sum_by leaves_of (filter p (E r.queue)) + sum_by leaves_of (filter p F) =
      ap (λ (l : List Entry). sum_by leaves_of l) (filter-append p (E r.queue) F) ∙ sum_by-append leaves_of (filter p (E r.queue)) (filter p F) in
      let go : (b : Bool) → G (level_of_row r) ≡ b → sum_by leaves_of (filter p (E r.queue ++ F)) ≡ sum_by (λ (r : LevelRow). r.leaves) (cond b (r ∷ filter Q rs) (filter Q rs)) = elim [
        | true ↦ λ t.
            let all : filter p (E r.queue) ≡ E r.queue = passes p true (E r.queue) (alike r true t s.0) in
            omega (arith, parts, ap (λ (l : List Entry). sum_by leaves_of l) all, total, sums-looked p G f rs s.1, sum_by-cons (λ (r : LevelRow). r.leaves) r (filter Q rs))
        | false ↦ λ t.
            let none : filter p (E r.queue) ≡ [] = passes p false (E r.queue) (alike r false t s.0) in
            omega (arith, parts, ap (λ (l : List Entry). sum_by leaves_of l) none, sums-looked p G f rs s.1)
      ] in go (G (level_of_row r)) refl
    where
      alike : (r : LevelRow) (b : Bool) → G (level_of_row r) ≡ b → IsSummed P r → AllByRecursion (λ (e : Entry). p e ≡ b) (E r.queue)
      alike r b t k = all-marked T (λ (h : Held). level_of h.1 ≡ level_of_row r) (λ (e : Entry). p e ≡ b) (λ h l. f (marked T h) ∙ ap G l ∙ t) (P r.queue) k.at

  pub open-looked : (i : ℕ) (s : Side) (x : Price) (rs : List LevelRow) → AllByRecursion (IsSummed P) rs → open_within i s x.0 (resting_of T P rs) ≡ open_rows i s x rs
  open-looked i s x rs k =
      let p : Entry → Bool = λ (e : Entry). is_on i s e && is_within s x.0 e.order.price.0 in
      let G : Level → Bool = λ (l : Level). ((l.instrument == i) && is_side l.side s) && is_within s x.0 l.price in
      ap (λ (l : List Entry). sum_by leaves_of l) (filter-both (λ e. is_within s x.0 e.order.price.0) (is_on i s) (resting_of T P rs))
      ∙ sums-looked p G (λ e. refl) rs k
      ∙ ap (λ (l : List LevelRow). sum_by (λ (r : LevelRow). r.leaves) l) (sym (filter-both (λ r. is_within s x.0 r.price.0) (row_on i s) rs))

-- ---- how much all levels can have open

leaves-small : (n : ℕ) (es : List Entry) → AllRest n es → sum_by leaves_of es ≤ 999999 * length es
leaves-small n [] a = omega arith
leaves-small n (e ∷ es) a = omega (arith, sum_by-cons leaves_of e es, leaves-small n es a.1, a.0.fit.whole, a.0.fit.small)

module _ (T : ℕ → Side → Option ℕ) (P : ℕ → List Held) where
  rows-total : (rs : List LevelRow) → AllByRecursion (IsSummed P) rs → sum_by (λ (r : LevelRow). r.leaves) rs ≡ sum_by leaves_of (resting_of T P rs)
  rows-total [] s = refl
  rows-total (r ∷ rs) s =
      let E : List Entry = map (marked T) (P r.queue) in
      omega (arith, sum_by-cons (λ (r : LevelRow). r.leaves) r rs, s.0.leaves, leaves-marked T (P r.queue), sum_by-append leaves_of E (resting_of T P rs), rows-total rs s.1)

  pub rows-small : (n : ℕ) (rs : List LevelRow) → AllByRecursion (IsSummed P) rs → AllRest n (resting_of T P rs) → length (resting_of T P rs) < 2 ^ 32 → sum_by (λ (r : LevelRow). r.leaves) rs < 2 ^ 63
  rows-small n rs s a few = omega (arith, rows-total rs s, leaves-small n (resting_of T P rs) a, few)
