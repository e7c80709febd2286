-- The row of a level of orders in book order: there is one exactly where there are orders, and it tells their sums.
use Rattle.std.proofs.Common.{◌≡◌, ℕ, ◌<◌, ◌≤◌, Bool, true, false, cond, List, [], ◌∷◌, length, sym, ap, ap₂, subst, ◌∙◌, arith, inl, inr}
use Rattle.std.specs.Prelude.{◌==◌, ◌&&◌}
use Rattle.std.specs.List.{AllByRecursion}
use Rattle.std.specs.Ordering.{int_eq}
use Rattle.std.proofs.lemmas.Bool.{cases_Bool, cases_lt, false_from_ne_true, true≢false, or_cases, and_left, and_right, ne_eqb}
use Rattle.book_order.specs.Levels.{Level, is_level, is_side}
use Rattle.book_order.proofs.Each.{all-with, all-both}
use Rattle.book_order.proofs.Levels.{is_level-same}
use Rattle.plain_book.specs.declared.entry.Entry.{Entry}
use Rattle.plain_book.specs.Orders.{level_of, is_at, orders_at, shown_at}
use Rattle.plain_book.specs.Book.{EachPair, AreInBookOrder}
use Rattle.level_feed.specs.declared.row.Row.{Row}
use Rattle.level_feed.specs.Rows.{level_of_row, is_gone, row_of, with_order, counted, levels_of, AreOrdered}
use Rattle.level_feed.specs.Laws.{Sums}
use Rattle.level_feed.specs.Noted.{Noted, is_among, is_noted, rows_at, AreNoted}
use Rattle.level_feed.proofs.Order.{filter-yes, filter-no, filter-none}
use Rattle.level_feed.proofs.Changes.{AllOpen}
use Rattle.level_feed.proofs.Sums.{rows-are-sums, no-orders}
use Rattle.level_feed.proofs.AtLevel.{none-of-any, none-at-behind}

-- ---- each level has orders

some-counted : (e : Entry) (rows : List Row) → AllByRecursion (λ (r : Row). 1 ≤ r.orders) rows → AllByRecursion (λ (r : Row). 1 ≤ r.orders) (counted e rows)
some-counted e [] h = (omega arith, tt)
some-counted e (r ∷ rows) h =
    elim (is_level (level_of e.order) (level_of_row r)) as (λ (b : Bool). AllByRecursion (λ (x : Row). 1 ≤ x.orders) (cond b (with_order e r ∷ rows) (row_of e ∷ r ∷ rows))) [
      | true ↦ (omega arith, h.1)
      | false ↦ (omega arith, (h.0, h.1))
    ]

levels-some : (es : List Entry) → AllByRecursion (λ (r : Row). 1 ≤ r.orders) (levels_of es)
levels-some [] = tt
levels-some (e ∷ es) = some-counted e (levels_of es) (levels-some es)

-- so none of them is gone
pub levels-open : (es : List Entry) → AllOpen (levels_of es)
levels-open es =
    all-with (λ (r : Row). 1 ≤ r.orders) (λ (r : Row). is_gone r ≡ false) not-gone (levels_of es) (levels-some es)
  where
    not-gone : (r : Row) → 1 ≤ r.orders → is_gone r ≡ false
    not-gone r some = and_right (r.shown == 0) (r.orders == 0) (ne_eqb r.orders 0 (λ e. absurd (omega arith)))

-- ---- the row of a level

-- what the level's orders give
abbrev pub row_at : Level → List Entry → Row
row_at k es = record { instrument = k.instrument; side = k.side; price = record { 0 = k.price }; shown = shown_at k es; orders = length (orders_at k es) }

is-row-at : (k : Level) (es : List Entry) (r : Row) → level_of_row r ≡ k → Sums es r → r ≡ row_at k es
is-row-at k es r same s =
    ap₂ (λ (a : ℕ) (b : ℕ). record r { shown = a; orders = b }) s.shown s.orders ∙ ap (λ (q : Level). row_at q es) same

one-there : (k : Level) (es : List Entry) (rows : List Row) → AreOrdered rows → AllByRecursion (Sums es) rows → is_among k rows ≡ true → rows_at k rows ≡ row_at k es ∷ []
one-there k es [] o s h = absurd (true≢false (sym h))
one-there k es (r ∷ rows) o s h =
    let p : Row → Bool = λ (x : Row). is_level (level_of_row x) k in
    elim (cases_Bool (is_level (level_of_row r) k)) [
      | inl t ↦
          let same : level_of_row r ≡ k = is_level-same (level_of_row r) k t in
          let others : AllByRecursion (λ (x : Row). is_level (level_of_row x) k ≡ false) rows =
          subst (λ (q : Level). AllByRecursion (λ (x : Row). is_level (level_of_row x) q ≡ false) rows) same (none-at-behind r rows o.0)
          in
          filter-yes p r rows t ∙ ap₂ (λ (x : Row) (q : List Row). x ∷ q) (is-row-at k es r same s.0) (filter-none p rows others)
      | inr f ↦ filter-no p r rows f ∙ one-there k es rows o.1 s.1 (elim (or_cases (is_level (level_of_row r) k) (is_among k rows) h) [ inl t ↦ absurd (true≢false (sym t ∙ f)) | inr more ↦ more ])
    ]

module _ (k : Level) (es : List Entry) (ordered : EachPair AreInBookOrder es) where
  -- a level without orders has no row
  pub no-row-at : length (orders_at k es) ≡ 0 → rows_at k (levels_of es) ≡ []
  no-row-at none =
      filter-none (λ (r : Row). is_level (level_of_row r) k) (levels_of es)
      (all-with (λ (r : Row). Sums es r × (1 ≤ r.orders)) (λ (r : Row). is_level (level_of_row r) k ≡ false) not-here (levels_of es)
      (all-both (Sums es) (λ (r : Row). 1 ≤ r.orders) (levels_of es) (rows-are-sums es ordered).1 (levels-some es)))
    where
      not-here : (r : Row) → Sums es r × (1 ≤ r.orders) → is_level (level_of_row r) k ≡ false
      not-here r h =
          false_from_ne_true (is_level (level_of_row r) k) (λ t.
          let count : length (orders_at (level_of_row r) es) ≡ length (orders_at k es) = ap (λ (q : Level). length (orders_at q es)) (is_level-same (level_of_row r) k t) in
          let sums = h.0.orders in
          let some = h.1 in
          absurd (omega arith))

  -- one with orders has one, which tells their sums
  pub one-row-at : 1 ≤ length (orders_at k es) → rows_at k (levels_of es) ≡ row_at k es ∷ []
  one-row-at some =
      let told = rows-are-sums es ordered in
      elim (cases_Bool (is_among k (levels_of es))) [
        | inl t ↦ one-there k es (levels_of es) told.0 told.1 t
        | inr f ↦
            let none : orders_at k es ≡ [] = no-orders k es (levels_of es) (none-of-any (λ (r : Row). is_level (level_of_row r) k) (levels_of es) f) told.2 in
            absurd (omega (arith, ap length none))
      ]

-- ---- two lists of orders

-- where a level has the same sums it has the same row, or none
pub same-row-at : (k : Level) (es fs : List Entry) → EachPair AreInBookOrder es → EachPair AreInBookOrder fs → shown_at k es ≡ shown_at k fs → length (orders_at k es) ≡ length (orders_at k fs) → rows_at k (levels_of es) ≡ rows_at k (levels_of fs)
same-row-at k es fs o s shown orders =
    elim (cases_lt 0 (length (orders_at k es))) [
      | inl some ↦
          one-row-at k es o (omega arith)
          ∙ ap₂ (λ (a : ℕ) (b : ℕ). record (row_at k es) { shown = a; orders = b } ∷ []) shown orders
          ∙ sym (one-row-at k fs s (omega arith))
      | inr none ↦ no-row-at k es o (omega arith) ∙ sym (no-row-at k fs s (omega arith))
    ]

-- the levels where the sums of two lists of orders differ are noted
pub noted-by-sums : (n : Noted) (es fs : List Entry) → EachPair AreInBookOrder es → EachPair AreInBookOrder fs → ((k : Level) → is_noted k n ≡ false → (shown_at k fs ≡ shown_at k es) × (length (orders_at k fs) ≡ length (orders_at k es))) → AreNoted n (levels_of es) (levels_of fs)
noted-by-sums n es fs o s same k h = let sums = same k h in same-row-at k fs es s o sums.0 sums.1

-- no order is at a level of no instrument
pub unlisted-none : (k : Level) (n : ℕ) (es : List Entry) → AllByRecursion (λ (e : Entry). e.order.instrument < n) es → n ≤ k.instrument → orders_at k es ≡ []
unlisted-none k n es h above =
    filter-none (is_at k) es (all-with (λ (e : Entry). e.order.instrument < n) (λ (e : Entry). is_at k e ≡ false) other es h)
  where
    other : (e : Entry) → e.order.instrument < n → is_at k e ≡ false
    other e lt = and_left (e.order.instrument == k.instrument) (is_side e.order.side k.side && int_eq e.order.price.0 k.price) (ne_eqb e.order.instrument k.instrument (λ b. absurd (omega arith)))
