-- The rows of one level among others.
use Rattle.std.proofs.Common.{◌≡◌, ℕ, ◌<◌, Bool, true, false, ◌||◌, List, [], ◌∷◌, length, get_or, refl, ap, sym, ◌∙◌, arith}
use Prim.Native.Nat.{zero, suc}
use Rattle.std.specs.List.{AllByRecursion, list_any}
use Rattle.std.proofs.lemmas.Bool.{true≢false, or_parts}
use Rattle.level_feed.specs.declared.row.Row.{Row}
use Rattle.level_feed.specs.Rows.{level_of_row, is_at_level, AreOrdered}
use Rattle.level_feed.specs.Noted.{is_among, rows_at}
use Rattle.level_feed.specs.Inner.{IsPlaceOf, IsNewPlace}
use Rattle.level_feed.proofs.Compared.{no_row}
use Rattle.level_feed.proofs.Placed.{next-place}
use Rattle.level_feed.proofs.Order.{Behind, AllBehind, First, Last, Level_of, order-of, alike-at, at-alike, all-behind-then, all-alike-behind, behind-not-at, behind-not-from, filter-yes, filter-no, filter-none}

-- ---- one of them

pub any-none : {X : Type 0} (p : X → Bool) (xs : List X) → AllByRecursion (λ x. p x ≡ false) xs → list_any p xs ≡ false
any-none {X} p [] h = refl
any-none {X} p (x ∷ xs) h = ap (λ (b : Bool). b || list_any p xs) h.0 ∙ any-none p xs h.1

pub none-of-any : {X : Type 0} (p : X → Bool) (xs : List X) → list_any p xs ≡ false → AllByRecursion (λ x. p x ≡ false) xs
none-of-any {X} p [] h = tt
none-of-any {X} p (x ∷ xs) h = let parts = or_parts (p x) (list_any p xs) h in (parts.0, none-of-any p xs parts.1)

-- ---- rows after others

-- no row after one is at its level
pub none-at-behind : (row : Row) (rows : List Row) → AllBehind row rows → AllByRecursion (λ r. is_at_level r row ≡ false) rows
none-at-behind row [] h = tt
none-at-behind row (x ∷ rows) h = (behind-not-at row x h.0, none-at-behind row rows h.1)

-- ---- by the place of a row

pub none-new : (row : Row) (rows : List Row) (place : ℕ) → AreOrdered rows → IsNewPlace row rows place → AllByRecursion (λ r. is_at_level r row ≡ false) rows
none-new row [] place o p = tt
none-new row (x ∷ rows) zero o p =
    elim (order-of x row) [
      | First b ↦ absurd (true≢false (sym b ∙ p.0.behind 0 no_row (omega arith) (omega arith)))
      | Last b ↦ none-at-behind row (x ∷ rows) (b, all-behind-then row x rows b o.0)
      | Level_of e ↦ absurd (true≢false (sym (at-alike x row e) ∙ p.1 no_row (omega arith)))
    ]
none-new row (x ∷ rows) (suc place) o p =
    let before : Behind x row = p.0.ahead 0 no_row (omega arith) in
    (behind-not-from x row before, none-new row rows place o.1 (next-place row x rows place p.0, λ d lt. p.1 d (let less : place < length rows = lt in omega arith)))

pub not-among-new : (row : Row) (rows : List Row) (place : ℕ) → AreOrdered rows → IsNewPlace row rows place → is_among (level_of_row row) rows ≡ false
not-among-new row rows place o p = any-none (λ r. is_at_level r row) rows (none-new row rows place o p)

pub rows-not-there : (row : Row) (rows : List Row) (place : ℕ) → AreOrdered rows → IsNewPlace row rows place → rows_at (level_of_row row) rows ≡ []
rows-not-there row rows place o p = filter-none (λ r. is_at_level r row) rows (none-new row rows place o p)

pub rows-there : (row : Row) (rows : List Row) (place : ℕ) → AreOrdered rows → IsPlaceOf row rows place → place < length rows → is_at_level (get_or rows place no_row) row ≡ true → rows_at (level_of_row row) rows ≡ get_or rows place no_row ∷ []
rows-there row [] place o p lt h = absurd (omega arith)
rows-there row (x ∷ rows) zero o p lt h =
    filter-yes (λ r. is_at_level r row) x rows h
    ∙ ap (λ (q : List Row). x ∷ q) (filter-none (λ r. is_at_level r row) rows (none-at-behind row rows (all-alike-behind row x rows (sym (alike-at x row h)) o.0)))
rows-there row (x ∷ rows) (suc place) o p lt h =
    let less : suc place < suc (length rows) = lt in
    filter-no (λ r. is_at_level r row) x rows (behind-not-from x row (p.ahead 0 no_row (omega arith)))
    ∙ rows-there row rows place o.1 (next-place row x rows place p) (omega arith) h
