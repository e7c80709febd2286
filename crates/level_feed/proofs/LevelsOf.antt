-- The levels of resting orders in book order.
use Rattle.std.proofs.Common.{◌≡◌, ℕ, ◌+◌, ◌*◌, ◌≤◌, Bool, true, false, cond, List, [], ◌∷◌, length, refl, arith}
use Prim.Native.Nat.{suc}
use Rattle.std.specs.List.{AllByRecursion}
use Rattle.book_order.specs.Levels.{Level, is_level, is_before}
use Rattle.book_order.proofs.Each.{all-with}
use Rattle.plain_book.specs.declared.entry.Entry.{Entry}
use Rattle.plain_book.specs.Orders.{level_of}
use Rattle.plain_book.specs.Book.{EachPair, AreInBookOrder}
use Rattle.level_feed.specs.declared.row.Row.{Row}
use Rattle.level_feed.specs.Rows.{level_of_row, row_of, with_order, counted, levels_of, AreOrdered}
use Rattle.book_order.proofs.Before.{before-other}
use Rattle.level_feed.proofs.Order.{Behind, all-behind-then}

-- what holds of the level of each order holds of each level
module _ (P : Level → Type 0) where
  abbrev EntriesAt : List Entry → Type 0
  EntriesAt es = AllByRecursion (λ (e : Entry). P (level_of e.order)) es

  abbrev RowsAt : List Row → Type 0
  RowsAt rows = AllByRecursion (λ (r : Row). P (level_of_row r)) rows

  at-counted : (e : Entry) (rows : List Row) → P (level_of e.order) → RowsAt rows → RowsAt (counted e rows)
  at-counted e [] p h = (p, tt)
  at-counted e (r ∷ rows) p h =
      elim (is_level (level_of e.order) (level_of_row r)) as (λ (b : Bool). RowsAt (cond b (with_order e r ∷ rows) (row_of e ∷ r ∷ rows))) [ true ↦ (h.0, h.1) | false ↦ (p, (h.0, h.1)) ]

  pub levels-at : (es : List Entry) → EntriesAt es → RowsAt (levels_of es)
  levels-at [] h = tt
  levels-at (e ∷ es) h = at-counted e (levels_of es) h.0 (levels-at es h.1)

-- ---- in order

-- no level stands before that of an order
abbrev NoneBefore : Entry → List Row → Type 0
NoneBefore e rows = AllByRecursion (λ (r : Row). is_before (level_of_row r) (level_of e.order) ≡ false) rows

first-row : (e : Entry) (r : Row) (rows : List Row) → is_before (level_of_row r) (level_of e.order) ≡ false → AreOrdered (r ∷ rows) → (b : Bool) → is_level (level_of e.order) (level_of_row r) ≡ b → AreOrdered (cond b (with_order e r ∷ rows) (row_of e ∷ r ∷ rows))
first-row e r rows n o true s = o
first-row e r rows n o false s =
    let behind : Behind (row_of e) r = before-other (level_of_row r) (level_of e.order) n s in
    ((behind, all-behind-then (row_of e) r rows behind o.0), o)

ordered-counted : (e : Entry) (rows : List Row) → NoneBefore e rows → AreOrdered rows → AreOrdered (counted e rows)
ordered-counted e [] n o = (tt, tt)
ordered-counted e (r ∷ rows) n o = first-row e r rows n.0 o (is_level (level_of e.order) (level_of_row r)) refl

pub levels-ordered : (es : List Entry) → EachPair AreInBookOrder es → AreOrdered (levels_of es)
levels-ordered [] o = tt
levels-ordered (e ∷ es) o =
    ordered-counted e (levels_of es) (levels-at (λ (k : Level). is_before k (level_of e.order) ≡ false) es o.0) (levels-ordered es o.1)

-- ---- sums

-- a level of at most n orders, each of which shows some lots, at most so many
pub record IsSum (most n : ℕ) (r : Row) : Type 0 where
  pub some_lots : 1 ≤ r.shown
  pub some_orders : 1 ≤ r.orders
  pub few_orders : r.orders ≤ n
  pub few_lots : r.shown ≤ n * most

abbrev pub Shows : ℕ → Entry → Type 0
Shows most e = (1 ≤ e.order.shown) × (e.order.shown ≤ most)

one-more : (most n : ℕ) (r : Row) → IsSum most n r → IsSum most (suc n) r
one-more most n r s =
    let l = s.few_lots in
    let o = s.few_orders in
    record { some_lots = s.some_lots; some_orders = s.some_orders; few_orders = omega arith; few_lots = grind arith }

sum-with : (most n : ℕ) (e : Entry) (r : Row) → Shows most e → IsSum most n r → IsSum most (suc n) (with_order e r)
sum-with most n e r h s =
    let l = s.few_lots in
    let o = s.few_orders in
    let shown = h.1 in
    let some = s.some_lots in
    let count = s.some_orders in
    let total : suc n * most ≡ most + n * most = grind arith in
    record { some_lots = omega arith; some_orders = omega arith; few_orders = omega arith; few_lots = omega arith }

sum-of : (most n : ℕ) (e : Entry) → Shows most e → IsSum most (suc n) (row_of e)
sum-of most n e h =
    let shown = h.1 in
    let total : suc n * most ≡ most + n * most = grind arith in
    record { some_lots = h.0; some_orders = omega arith; few_orders = omega arith; few_lots = omega arith }

sums-counted : (most n : ℕ) (e : Entry) (rows : List Row) → Shows most e → AllByRecursion (IsSum most n) rows → AllByRecursion (IsSum most (suc n)) (counted e rows)
sums-counted most n e [] h s = (sum-of most n e h, tt)
sums-counted most n e (r ∷ rows) h s =
    let more = all-with (IsSum most n) (IsSum most (suc n)) (one-more most n) rows s.1 in
    elim (is_level (level_of e.order) (level_of_row r)) as (λ (b : Bool). AllByRecursion (IsSum most (suc n)) (cond b (with_order e r ∷ rows) (row_of e ∷ r ∷ rows))) [
      | true ↦ (sum-with most n e r h s.0, more)
      | false ↦ (sum-of most n e h, (one-more most n r s.0, more))
    ]

pub levels-sums : (most : ℕ) (es : List Entry) → AllByRecursion (Shows most) es → AllByRecursion (IsSum most (length es)) (levels_of es)
levels-sums most [] h = tt
levels-sums most (e ∷ es) h = sums-counted most (length es) e (levels_of es) h.0 (levels-sums most es h.1)

length-counted : (e : Entry) (rows : List Row) → length (counted e rows) ≤ suc (length rows)
length-counted e [] = omega arith
length-counted e (r ∷ rows) =
    elim (is_level (level_of e.order) (level_of_row r)) as (λ (b : Bool). length (cond b (with_order e r ∷ rows) (row_of e ∷ r ∷ rows)) ≤ suc (suc (length rows))) [ true ↦ omega arith | false ↦ omega arith ]

pub length-levels : (es : List Entry) → length (levels_of es) ≤ length es
length-levels [] = omega arith
length-levels (e ∷ es) = omega (arith, length-counted e (levels_of es), length-levels es)
