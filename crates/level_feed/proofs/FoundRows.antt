-- The row of a level among rows that take effect one after the other.
use Rattle.std.proofs.Common.{◌≡◌, ℕ, ◌+◌, ◌<◌, Bool, true, false, cond, List, [], ◌∷◌, ◌++◌, length, get_or, Ok, Err, refl, sym, ap, ◌∙◌, arith, inl, inr}
use Prim.Native.Nat.{zero, suc}
use Rattle.std.specs.List.{AllByRecursion}
use Rattle.std.proofs.lemmas.Bool.{cases_Bool}
use Rattle.book_order.specs.Levels.{Level, is_level}
use Rattle.level_feed.specs.declared.row.Row.{Row}
use Rattle.level_feed.specs.Rows.{level_of_row, is_at_level, is_gone, with_row, with_rows, AreOrdered}
use Rattle.level_feed.specs.Noted.{rows_at}
use Rattle.level_feed.specs.Inner.{IsFound}
use Rattle.level_feed.proofs.Compared.{no_row}
use Rattle.level_feed.proofs.Lengths.{ordered-with-row}
use Rattle.level_feed.proofs.AtLevel.{none-at-behind, rows-there, rows-not-there, none-new}
use Rattle.level_feed.proofs.Order.{Alike, AllBehind, First, Last, Level_of, order-of, own, alike-at, at-alike, all-behind-then, all-alike-behind, behind-not-from, behind-alike, with-row-past, with-row-first, with-row-here, filter-yes, filter-no, filter-none}

-- the rows at the level of a row
abbrev pub beside : Row → List Row → List Row
beside w rows = rows_at (level_of_row w) rows

-- none of the rows is at its level
abbrev pub NoneBeside : Row → List Row → Type 0
NoneBeside w rows = AllByRecursion (λ r. is_at_level r w ≡ false) rows

-- ---- a row that was found

same-row : (rows : List Row) (k : ℕ) (d : Row) → k < length rows → get_or rows k no_row ≡ get_or rows k d
same-row [] k d lt = absurd (omega arith)
same-row (r ∷ rows) zero d lt = refl
same-row (r ∷ rows) (suc k) d lt = let less : suc k < suc (length rows) = lt in same-row rows k d (omega arith)

pub found-there : (w : Row) (rows : List Row) (place : ℕ) (r : Row) → AreOrdered rows → IsFound w rows (Ok place) → r ≡ get_or rows place r → beside w rows ≡ r ∷ []
found-there w rows place r o found is =
    rows-there w rows place o found.1 found.0 (found.2 no_row)
    ∙ ap (λ (x : Row). x ∷ []) (same-row rows place r found.0)
    ∙ ap (λ (x : Row). x ∷ []) (sym is)

pub found-none : (w : Row) (rows : List Row) (place : ℕ) → AreOrdered rows → IsFound w rows (Err place) → NoneBeside w rows
found-none w rows place o found = none-new w rows place o found

pub found-not-there : (w : Row) (rows : List Row) (place : ℕ) → AreOrdered rows → IsFound w rows (Err place) → beside w rows ≡ []
found-not-there w rows place o found = rows-not-there w rows place o found

-- ---- one row takes effect

beside-yes : (w r : Row) (rows : List Row) → Alike r w → beside w (r ∷ rows) ≡ r ∷ beside w rows
beside-yes w r rows e = filter-yes (λ x. is_at_level x w) r rows (at-alike r w e)

beside-no : (w r : Row) (rows : List Row) → is_at_level r w ≡ false → beside w (r ∷ rows) ≡ beside w rows
beside-no w r rows e = filter-no (λ x. is_at_level x w) r rows e

pub beside-none : (w : Row) (rows : List Row) → NoneBeside w rows → beside w rows ≡ []
beside-none w rows h = filter-none (λ x. is_at_level x w) rows h

beside-after : (w r : Row) (rows : List Row) → Alike w r → AllBehind r rows → beside w rows ≡ []
beside-after w r rows e h = beside-none w rows (none-at-behind w rows (all-alike-behind w r rows e h))

own-beside : (w r : Row) (rows : List Row) → Alike r w → beside w rows ≡ [] → beside w (own r ++ rows) ≡ own r
own-beside w r rows e h =
    elim (is_gone r) as (λ (b : Bool). beside w (cond b [] (r ∷ []) ++ rows) ≡ cond b [] (r ∷ [])) [
      | true ↦ h
      | false ↦ beside-yes w r rows e ∙ ap (λ (q : List Row). r ∷ q) h
    ]

own-not-beside : (w r : Row) (rows : List Row) → is_at_level r w ≡ false → beside w (own r ++ rows) ≡ beside w rows
own-not-beside w r rows e =
    elim (is_gone r) as (λ (b : Bool). beside w (cond b [] (r ∷ []) ++ rows) ≡ beside w rows) [
      | true ↦ refl
      | false ↦ beside-no w r rows e
    ]

-- at its own level there is only that row then
pub beside-with-row : (w r : Row) (rows : List Row) → AreOrdered rows → Alike r w → beside w (with_row r rows) ≡ own r
beside-with-row w r [] o e = ap (beside w) (with-row-first r [] tt) ∙ own-beside w r [] e refl
beside-with-row w r (x ∷ rows) o e =
    elim (order-of x r) [
      | First h ↦
          ap (beside w) (with-row-past r x rows h)
          ∙ beside-no w x (with_row r rows) (behind-not-from x w (behind-alike x r w h e))
          ∙ beside-with-row w r rows o.1 e
      | Last h ↦
          let after : AllBehind r (x ∷ rows) = (h, all-behind-then r x rows h o.0) in
          ap (beside w) (with-row-first r (x ∷ rows) after) ∙ own-beside w r (x ∷ rows) e (beside-after w r (x ∷ rows) (sym e) after)
      | Level_of s ↦
          ap (beside w) (with-row-here r x rows (sym s) o.0) ∙ own-beside w r rows e (beside-after w x rows (sym e ∙ sym s) o.0)
    ]

-- at another level there is what was there
pub beside-other-row : (w r : Row) (rows : List Row) → AreOrdered rows → is_at_level r w ≡ false → beside w (with_row r rows) ≡ beside w rows
beside-other-row w r [] o e = ap (beside w) (with-row-first r [] tt) ∙ own-not-beside w r [] e
beside-other-row w r (x ∷ rows) o e =
    elim (order-of x r) [
      | First h ↦
          ap (beside w) (with-row-past r x rows h)
          ∙ elim (cases_Bool (is_at_level x w)) [
            | inl t ↦
                filter-yes (λ y. is_at_level y w) x (with_row r rows) t
                ∙ ap (λ (q : List Row). x ∷ q) (beside-other-row w r rows o.1 e)
                ∙ sym (filter-yes (λ y. is_at_level y w) x rows t)
            | inr f ↦ beside-no w x (with_row r rows) f ∙ beside-other-row w r rows o.1 e ∙ sym (beside-no w x rows f)
          ]
      | Last h ↦ ap (beside w) (with-row-first r (x ∷ rows) (h, all-behind-then r x rows h o.0)) ∙ own-not-beside w r (x ∷ rows) e
      | Level_of s ↦
          ap (beside w) (with-row-here r x rows (sym s) o.0)
          ∙ own-not-beside w r rows e
          ∙ sym (beside-no w x rows (ap (λ (l : Level). is_level l (level_of_row w)) s ∙ e))
    ]

-- ---- rows take effect one after the other

-- if none of them is at a level there is what was there
pub beside-other-rows : (w : Row) (more rows : List Row) → AreOrdered rows → NoneBeside w more → beside w (with_rows more rows) ≡ beside w rows
beside-other-rows w [] rows o h = refl
beside-other-rows w (r ∷ more) rows o h =
    beside-other-rows w more (with_row r rows) (ordered-with-row r rows o) h.1 ∙ beside-other-row w r rows o h.0

none-of-none : (w : Row) (rows : List Row) → beside w rows ≡ [] → NoneBeside w rows
none-of-none w [] h = tt
none-of-none w (r ∷ rows) h =
    elim (cases_Bool (is_at_level r w)) [
      | inl t ↦ let e : r ∷ beside w rows ≡ [] = sym (filter-yes (λ y. is_at_level y w) r rows t) ∙ h in cc
      | inr f ↦ (f, none-of-none w rows (sym (beside-no w r rows f) ∙ h))
    ]

-- if just one of them is at a level there is that one
pub beside-one-row : (w r : Row) (more rows : List Row) → AreOrdered rows → beside w more ≡ r ∷ [] → beside w (with_rows more rows) ≡ own r
beside-one-row w r [] rows o h = cc
beside-one-row w r (x ∷ more) rows o h =
    elim (cases_Bool (is_at_level x w)) [
      | inl t ↦
          let e : x ∷ beside w more ≡ r ∷ [] = sym (filter-yes (λ y. is_at_level y w) x more t) ∙ h in
          let same : x ≡ r = cc in
          let none : beside w more ≡ [] = cc in
          beside-other-rows w more (with_row x rows) (ordered-with-row x rows o) (none-of-none w more none)
          ∙ beside-with-row w x rows o (alike-at x w t)
          ∙ ap own same
      | inr f ↦ beside-one-row w r more (with_row x rows) (ordered-with-row x rows o) (sym (beside-no w x more f) ∙ h)
    ]

-- ---- how many rows there are then

length-own : (r : Row) (rows : List Row) → length (own r ++ rows) ≡ length rows + length (own r)
length-own r rows =
    elim (is_gone r) as (λ (b : Bool). length (cond b [] (r ∷ []) ++ rows) ≡ length rows + length (cond b [] (r ∷ []))) [
      | true ↦ omega arith
      | false ↦ omega arith
    ]

-- those before and its own, without the one whose place it takes
pub length-with-row : (r : Row) (rows : List Row) → AreOrdered rows → length (with_row r rows) + length (beside r rows) ≡ length rows + length (own r)
length-with-row r [] o = omega (arith, ap length (with-row-first r [] tt), length-own r [])
length-with-row r (x ∷ rows) o =
    elim (order-of x r) [
      | First h ↦
          omega (arith, ap length (with-row-past r x rows h), ap length (beside-no r x rows (behind-not-from x r h)), length-with-row r rows o.1)
      | Last h ↦
          let after : AllBehind r (x ∷ rows) = (h, all-behind-then r x rows h o.0) in
          omega (arith, ap length (with-row-first r (x ∷ rows) after), ap length (beside-after r r (x ∷ rows) refl after), length-own r (x ∷ rows))
      | Level_of s ↦
          omega (arith, ap length (with-row-here r x rows (sym s) o.0), ap length (beside-yes r x rows s), ap length (beside-after r x rows (sym s) o.0), length-own r rows)
    ]
