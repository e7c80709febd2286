-- What the rows of the levels say: each sums the orders at its level, and each order has a row.
use Rattle.std.proofs.Common.{◌≡◌, ℕ, ◌+◌, true, false, List, [], ◌∷◌, length, sym, ap, subst, ◌∙◌, arith, inl, inr}
use Prim.Native.Nat.{suc}
use Rattle.std.specs.Prelude.{sum_by}
use Rattle.std.specs.List.{AllByRecursion}
use Rattle.std.proofs.lemmas.Bool.{cases_Bool, cond-true, cond-false, false_from_ne_true, true≢false}
use Rattle.std.proofs.lemmas.List.Sums.{sum_by-cons}
use Rattle.book_order.specs.Levels.{Level, is_level, is_before}
use Rattle.book_order.proofs.Each.{all-with}
use Rattle.book_order.proofs.Levels.{is_level-same, is_level-refl, is_before-irrefl}
use Rattle.plain_book.specs.declared.entry.Entry.{Entry}
use Rattle.plain_book.specs.Orders.{level_of, is_at, orders_at}
use Rattle.plain_book.specs.Book.{EachPair, AreInBookOrder}
use Rattle.level_feed.specs.declared.row.Row.{Row}
use Rattle.level_feed.specs.Rows.{level_of_row, row_of, with_order, counted, levels_of, AreOrdered}
use Rattle.level_feed.specs.Laws.{Sums, HasRow, RowsAreSums}
use Rattle.book_order.proofs.Before.{before-other}
use Rattle.level_feed.proofs.Order.{AllBehind, filter-yes, filter-no, filter-none, all-behind-then}
use Rattle.level_feed.proofs.LevelsOf.{levels-at, levels-ordered}

-- ---- one more order

abbrev shown_in : List Entry → ℕ
shown_in es = sum_by (λ (e : Entry). e.order.shown) es

at-other : (k : Level) (e : Entry) (es : List Entry) → is_at k e ≡ false → orders_at k (e ∷ es) ≡ orders_at k es
at-other k e es h = filter-no (is_at k) e es h

at-same : (k : Level) (e : Entry) (es : List Entry) → is_at k e ≡ true → orders_at k (e ∷ es) ≡ e ∷ orders_at k es
at-same k e es h = filter-yes (is_at k) e es h

sums-other : (e : Entry) (es : List Entry) (r : Row) → is_at (level_of_row r) e ≡ false → Sums es r → Sums (e ∷ es) r
sums-other e es r h s =
    let same = at-other (level_of_row r) e es h in
    record { shown = s.shown ∙ ap shown_in (sym same); orders = s.orders ∙ ap length (sym same) }

sums-more : (e : Entry) (es : List Entry) (r : Row) → is_at (level_of_row r) e ≡ true → Sums es r → Sums (e ∷ es) (with_order e r)
sums-more e es r h s =
    let k = level_of_row r in
    let here = at-same k e es h in
    let count : 1 + length (orders_at k es) ≡ suc (length (orders_at k es)) = omega arith in
    record {
      shown = ap (λ (n : ℕ). e.order.shown + n) s.shown ∙ sym (sum_by-cons (λ (x : Entry). x.order.shown) e (orders_at k es)) ∙ ap shown_in (sym here);
      orders = ap (λ (n : ℕ). 1 + n) s.orders ∙ count ∙ ap length (sym here);
    }

sums-alone : (e : Entry) (es : List Entry) → orders_at (level_of e.order) es ≡ [] → Sums (e ∷ es) (row_of e)
sums-alone e es none =
    let k = level_of e.order in
    let here : orders_at k (e ∷ es) ≡ e ∷ [] = at-same k e es (is_level-refl k) ∙ ap (λ (q : List Entry). e ∷ q) none in
    let total : e.order.shown ≡ shown_in (e ∷ []) = omega arith in
    record { shown = total ∙ ap shown_in (sym here); orders = ap length (sym here) }

-- ---- the rest of the levels

-- no row after the order's level is at it
off-behind : (e : Entry) (r : Row) → is_before (level_of e.order) (level_of_row r) ≡ true → is_at (level_of_row r) e ≡ false
off-behind e r h =
    false_from_ne_true (is_at (level_of_row r) e) (λ t.
    true≢false (sym (ap (λ (q : Level). is_before q (level_of_row r)) (sym (is_level-same (level_of e.order) (level_of_row r) t)) ∙ h) ∙ is_before-irrefl (level_of_row r)))

abbrev AllAfter : Entry → List Row → Type 0
AllAfter e rows = AllByRecursion (λ (r : Row). is_before (level_of e.order) (level_of_row r) ≡ true) rows

all-other : (e : Entry) (es : List Entry) (rows : List Row) → AllAfter e rows → AllByRecursion (Sums es) rows → AllByRecursion (Sums (e ∷ es)) rows
all-other e es [] h s = tt
all-other e es (r ∷ rows) h s = (sums-other e es r (off-behind e r h.0) s.0, all-other e es rows h.1 s.1)

after-alike : (e : Entry) (r : Row) (rows : List Row) → level_of e.order ≡ level_of_row r → AllBehind r rows → AllAfter e rows
after-alike e r [] is h = tt
after-alike e r (x ∷ rows) is h = (ap (λ (q : Level). is_before q (level_of_row x)) is ∙ h.0, after-alike e r rows is h.1)

-- each order has a row, so where no row is at a level no order is
not-here : (k : Level) (rows : List Row) (e : Entry) → AllByRecursion (λ (r : Row). is_level (level_of_row r) k ≡ false) rows → level_of e.order ≡ k → HasRow rows e → ⊥
not-here k [] e h is has = has
not-here k (r ∷ rows) e h is has =
    elim has [ inl t ↦ true≢false (sym t ∙ ap (is_level (level_of_row r)) is ∙ h.0) | inr more ↦ not-here k rows e h.1 is more ]

pub no-orders : (k : Level) (es : List Entry) (rows : List Row) → AllByRecursion (λ (r : Row). is_level (level_of_row r) k ≡ false) rows → AllByRecursion (λ (e : Entry). HasRow rows e) es → orders_at k es ≡ []
no-orders k es rows none each = filter-none (is_at k) es (all-with (λ (e : Entry). HasRow rows e) (λ (e : Entry). is_at k e ≡ false) (λ e has. false_from_ne_true (is_at k e) (λ t. absurd (not-here k rows e none (is_level-same (level_of e.order) k t) has))) es each)

-- ---- all of them

not-at : (e : Entry) (r : Row) → is_before (level_of e.order) (level_of_row r) ≡ true → is_level (level_of_row r) (level_of e.order) ≡ false
not-at e r h =
    false_from_ne_true (is_level (level_of_row r) (level_of e.order)) (λ t.
    true≢false (sym (ap (is_before (level_of e.order)) (sym (is_level-same (level_of_row r) (level_of e.order) t)) ∙ h) ∙ is_before-irrefl (level_of e.order)))

none-at : (e : Entry) (rows : List Row) → AllAfter e rows → AllByRecursion (λ (r : Row). is_level (level_of_row r) (level_of e.order) ≡ false) rows
none-at e rows h = all-with (λ (r : Row). is_before (level_of e.order) (level_of_row r) ≡ true) (λ (r : Row). is_level (level_of_row r) (level_of e.order) ≡ false) (not-at e) rows h

-- what a list of rows says of orders
pub record Tells (es : List Entry) (rows : List Row) : Type 0 where
  pub sums : AllByRecursion (Sums es) rows
  pub rows_of : AllByRecursion (HasRow rows) es

tells-alone : (e : Entry) (es : List Entry) (rows : List Row) → AllAfter e rows → Tells es rows → Tells (e ∷ es) (row_of e ∷ rows)
tells-alone e es rows h t = record {
  sums = (sums-alone e es (no-orders (level_of e.order) es rows (none-at e rows h) t.rows_of), all-other e es rows h t.sums);
  rows_of = (inl (is_level-refl (level_of e.order)), all-with (HasRow rows) (HasRow (row_of e ∷ rows)) (λ x has. inr has) es t.rows_of);
}

tells-more : (e : Entry) (es : List Entry) (r : Row) (rows : List Row) → is_level (level_of e.order) (level_of_row r) ≡ true → AllBehind r rows → Tells es (r ∷ rows) → Tells (e ∷ es) (with_order e r ∷ rows)
tells-more e es r rows h b t =
    let same : level_of e.order ≡ level_of_row r = is_level-same (level_of e.order) (level_of_row r) h in
    record {
      sums = (sums-more e es r h t.sums.0, all-other e es rows (after-alike e r rows same b) t.sums.1);
      rows_of = (inl (ap (λ (q : Level). is_level q (level_of e.order)) (sym same) ∙ is_level-refl (level_of e.order)), all-with (HasRow (r ∷ rows)) (HasRow (with_order e r ∷ rows)) (λ x has. has) es t.rows_of);
    }

tells-counted : (e : Entry) (es : List Entry) (rows : List Row) → AllByRecursion (λ (r : Row). is_before (level_of_row r) (level_of e.order) ≡ false) rows → AreOrdered rows → Tells es rows → Tells (e ∷ es) (counted e rows)
tells-counted e es [] n o t = tells-alone e es [] tt t
tells-counted e es (r ∷ rows) n o t =
    elim (cases_Bool (is_level (level_of e.order) (level_of_row r))) [
      | inl same ↦
          subst (Tells (e ∷ es)) (sym (cond-true (is_level (level_of e.order) (level_of_row r)) (with_order e r ∷ rows) (row_of e ∷ r ∷ rows) same)) (tells-more e es r rows same o.0 t)
      | inr other ↦
          let first : is_before (level_of e.order) (level_of_row r) ≡ true = before-other (level_of_row r) (level_of e.order) n.0 other in
          let after : AllAfter e (r ∷ rows) = (first, all-behind-then (row_of e) r rows first o.0) in
          subst (Tells (e ∷ es)) (sym (cond-false (is_level (level_of e.order) (level_of_row r)) (with_order e r ∷ rows) (row_of e ∷ r ∷ rows) other)) (tells-alone e es (r ∷ rows) after t)
    ]

tells-all : (es : List Entry) → EachPair AreInBookOrder es → Tells es (levels_of es)
tells-all [] o = record { sums = tt; rows_of = tt }
tells-all (e ∷ es) o =
    tells-counted e es (levels_of es) (levels-at (λ (k : Level). is_before k (level_of e.order) ≡ false) es o.0) (levels-ordered es o.1) (tells-all es o.1)

pub rows-are-sums : RowsAreSums
rows-are-sums es o = let t = tells-all es o in (levels-ordered es o, t.sums, t.rows_of)
