-- Changes that are kept apart: one more of them.
use Rattle.std.proofs.Common.{◌≡◌, ℕ, ◌<◌, ◌≤◌, Bool, true, false, cond, List, [], ◌∷◌, ◌++◌, length, take, drop, get_or, set, refl, sym, ap, ap₂, subst, ◌∙◌, arith}
use Prim.Native.Nat.{zero, suc}
use Rattle.std.specs.List.{AllByRecursion, insert}
use Rattle.std.proofs.lemmas.List.{set_split}
use Rattle.std.proofs.lemmas.Bool.{true≢false}
use Rattle.book_order.specs.Levels.{Level, is_before}
use Rattle.book_order.proofs.Each.{all-filter, all-append}
use Rattle.level_feed.specs.declared.row.Row.{Row}
use Rattle.level_feed.specs.Rows.{level_of_row, row_before, is_at_level, is_gone, with_row, with_rows, AreOrdered}
use Rattle.level_feed.specs.Inner.{with_change, IsPlaceOf}
use Rattle.level_feed.proofs.Compared.{no_row}
use Rattle.level_feed.proofs.Placed.{next-place}
use Rattle.level_feed.proofs.Order.{Alike, Behind, AllBehind, First, Last, Level_of, order-of, own, ahead, rest, alike-at, at-alike, behind-itself, behind-apart, behind-then, behind-alike, alike-behind, all-behind-then, all-alike-behind, filter-yes, filter-no, filter-all, filter-none, none-before, with-row-past, with-row-first, with-row-here}
use Rattle.level_feed.proofs.Lengths.{all-with-row, ordered-with-row}

-- ---- two rows take effect

-- a row after r passes it
own-past : (r c : Row) (rows : List Row) → Behind r c → with_row c (own r ++ rows) ≡ own r ++ with_row c rows
own-past r c rows h =
    elim (is_gone r) as (λ (b : Bool). with_row c (cond b [] (r ∷ []) ++ rows) ≡ cond b [] (r ∷ []) ++ with_row c rows) [
      | true ↦ refl
      | false ↦ with-row-past c r rows h
    ]

both-first : (r c : Row) (rows : List Row) → Behind r c → AllBehind r rows → with_row c (with_row r rows) ≡ with_row r (with_row c rows)
both-first r c rows h all =
    ap (with_row c) (with-row-first r rows all)
    ∙ own-past r c rows h
    ∙ sym (with-row-first r (with_row c rows) (all-with-row (Behind r) c rows h all))

-- rows of two levels take effect in either order
pub two-rows : (r c : Row) (rows : List Row) → Behind r c → AreOrdered rows → with_row c (with_row r rows) ≡ with_row r (with_row c rows)
two-rows r c [] h o = both-first r c [] h tt
two-rows r c (x ∷ rows) h o =
    elim (order-of x r) [
      | First b ↦
          let past : Behind x c = behind-then x r c b h in
          ap (with_row c) (with-row-past r x rows b)
          ∙ with-row-past c x (with_row r rows) past
          ∙ ap (λ (q : List Row). x ∷ q) (two-rows r c rows h o.1)
          ∙ sym (ap (with_row r) (with-row-past c x rows past) ∙ with-row-past r x (with_row c rows) b)
      | Last b ↦ both-first r c (x ∷ rows) h (b, all-behind-then r x rows b o.0)
      | Level_of e ↦
          let past : Behind x c = alike-behind x r c e h in
          ap (with_row c) (with-row-here r x rows (sym e) o.0)
          ∙ own-past r c rows h
          ∙ sym (ap (with_row r) (with-row-past c x rows past) ∙ with-row-here r x (with_row c rows) (sym e) (all-with-row (Behind x) c rows past o.0))
    ]

-- r takes the place of c
own-here : (r c : Row) (rows : List Row) → Alike r c → AllBehind c rows → with_row r (own c ++ rows) ≡ own r ++ rows
own-here r c rows e all =
    elim (is_gone c) as (λ (b : Bool). with_row r (cond b [] (c ∷ []) ++ rows) ≡ own r ++ rows) [
      | true ↦ with-row-first r rows (all-alike-behind r c rows e all)
      | false ↦ with-row-here r c rows e all
    ]

-- of two rows of one level the later one counts
pub row-again : (r c : Row) (rows : List Row) → Alike r c → AreOrdered rows → with_row r (with_row c rows) ≡ with_row r rows
row-again r c [] e o = ap (with_row r) (with-row-first c [] tt) ∙ own-here r c [] e tt ∙ sym (with-row-first r [] tt)
row-again r c (x ∷ rows) e o =
    elim (order-of x c) [
      | First b ↦
          let past : Behind x r = behind-alike x c r b (sym e) in
          ap (with_row r) (with-row-past c x rows b)
          ∙ with-row-past r x (with_row c rows) past
          ∙ ap (λ (q : List Row). x ∷ q) (row-again r c rows e o.1)
          ∙ sym (with-row-past r x rows past)
      | Last b ↦
          let all : AllBehind c (x ∷ rows) = (b, all-behind-then c x rows b o.0) in
          ap (with_row r) (with-row-first c (x ∷ rows) all)
          ∙ own-here r c (x ∷ rows) e all
          ∙ sym (with-row-first r (x ∷ rows) (all-alike-behind r c (x ∷ rows) e all))
      | Level_of s ↦
          ap (with_row r) (with-row-here c x rows (sym s) o.0)
          ∙ own-here r c rows e (all-alike-behind c x rows (sym s) o.0)
          ∙ sym (with-row-here r x rows (e ∙ sym s) o.0)
    ]

-- a row takes effect before rows that come after it, or after them
pub row-then-rows : (r : Row) (more rows : List Row) → AllBehind r more → AreOrdered rows → with_rows more (with_row r rows) ≡ with_row r (with_rows more rows)
row-then-rows r [] rows h o = refl
row-then-rows r (c ∷ more) rows h o =
    ap (with_rows more) (two-rows r c rows h.0 o) ∙ row-then-rows r more (with_row c rows) h.1 (ordered-with-row c rows o)

-- ---- one more change

pub with-change-past : (r x : Row) (rows : List Row) → Behind x r → with_change r (x ∷ rows) ≡ x ∷ with_change r rows
with-change-past r x rows h =
    ap₂ (λ (f : List Row) (b : List Row). f ++ r ∷ b) (filter-yes (λ y. row_before y r) x rows h) (filter-no (λ y. row_before r y) x rows (behind-apart x r h))

pub with-change-first : (r : Row) (rows : List Row) → AllBehind r rows → with_change r rows ≡ r ∷ rows
with-change-first r rows h =
    ap₂ (λ (f : List Row) (b : List Row). f ++ r ∷ b) (filter-none (λ y. row_before y r) rows (none-before r rows h)) (filter-all (λ y. row_before r y) rows h)

pub with-change-here : (r x : Row) (rows : List Row) → Alike r x → AllBehind x rows → with_change r (x ∷ rows) ≡ r ∷ rows
with-change-here r x rows e h =
    let not-ahead : row_before x r ≡ false = ap (is_before (level_of_row x)) e ∙ behind-itself x in
    let not-behind : row_before r x ≡ false = ap (λ (l : Level). is_before l (level_of_row x)) e ∙ behind-itself x in
    ap₂ (λ (f : List Row) (b : List Row). f ++ r ∷ b) (filter-no (λ y. row_before y r) x rows not-ahead) (filter-no (λ y. row_before r y) x rows not-behind)
    ∙ with-change-first r rows (all-alike-behind r x rows e h)

-- a change put among others has the effect of the others and then its own
pub change-takes-effect : (r : Row) (changes settled : List Row) → AreOrdered changes → AreOrdered settled → with_rows (with_change r changes) settled ≡ with_row r (with_rows changes settled)
change-takes-effect r [] settled apart ordered = ap (λ (q : List Row). with_rows q settled) (with-change-first r [] tt)
change-takes-effect r (c ∷ changes) settled apart ordered =
    elim (order-of c r) [
      | First h ↦
          ap (λ (q : List Row). with_rows q settled) (with-change-past r c changes h)
          ∙ change-takes-effect r changes (with_row c settled) apart.1 (ordered-with-row c settled ordered)
      | Last h ↦
          let all : AllBehind r (c ∷ changes) = (h, all-behind-then r c changes h apart.0) in
          ap (λ (q : List Row). with_rows q settled) (with-change-first r (c ∷ changes) all)
          ∙ row-then-rows r (c ∷ changes) settled all ordered
      | Level_of e ↦
          let all : AllBehind r changes = all-alike-behind r c changes (sym e) apart.0 in
          ap (λ (q : List Row). with_rows q settled) (with-change-here r c changes (sym e) apart.0)
          ∙ ap (with_rows changes) (sym (row-again r c settled (sym e) ordered))
          ∙ row-then-rows r changes (with_row c settled) all (ordered-with-row c settled ordered)
    ]

all-with-change : (P : Row → Type 0) (r : Row) (rows : List Row) → P r → AllByRecursion P rows → AllByRecursion P (with_change r rows)
all-with-change P r rows p h =
    all-append P (ahead r rows) (r ∷ rest r rows) (all-filter P (λ x. row_before x r) rows h) (p, all-filter P (λ x. row_before r x) rows h)

pub ordered-with-change : (r : Row) (changes : List Row) → AreOrdered changes → AreOrdered (with_change r changes)
ordered-with-change r [] ordered = subst AreOrdered (sym (with-change-first r [] tt)) (tt, tt)
ordered-with-change r (c ∷ changes) ordered =
    elim (order-of c r) [
      | First h ↦ subst AreOrdered (sym (with-change-past r c changes h)) (all-with-change (Behind c) r changes h ordered.0, ordered-with-change r changes ordered.1)
      | Last h ↦
          let all : AllBehind r (c ∷ changes) = (h, all-behind-then r c changes h ordered.0) in
          subst AreOrdered (sym (with-change-first r (c ∷ changes) all)) (all, ordered)
      | Level_of e ↦ subst AreOrdered (sym (with-change-here r c changes (sym e) ordered.0)) (all-alike-behind r c changes (sym e) ordered.0, ordered.1)
    ]

-- ---- a change at its place

pub change-there : (row : Row) (rows : List Row) (place : ℕ) → AreOrdered rows → IsPlaceOf row rows place → place < length rows → is_at_level (get_or rows place no_row) row ≡ true → with_change row rows ≡ take place rows ++ row ∷ drop (suc place) rows
change-there row [] place o p lt h = absurd (omega arith)
change-there row (x ∷ rows) zero o p lt h = with-change-here row x rows (sym (alike-at x row h)) o.0
change-there row (x ∷ rows) (suc place) o p lt h =
    let less : suc place < suc (length rows) = lt in
    with-change-past row x rows (p.ahead 0 no_row (omega arith)) ∙ ap (λ (q : List Row). x ∷ q) (change-there row rows place o.1 (next-place row x rows place p) (omega arith) h)

pub change-new : (row : Row) (rows : List Row) (place : ℕ) → AreOrdered rows → IsPlaceOf row rows place → (place < length rows → is_at_level (get_or rows place no_row) row ≡ false) → with_change row rows ≡ take place rows ++ row ∷ drop place rows
change-new row [] zero o p h = with-change-first row [] tt
change-new row [] (suc place) o p h = let within : suc place ≤ 0 = p.within in absurd (omega arith)
change-new row (x ∷ rows) zero o p h =
    elim (order-of x row) [
      | First b ↦ absurd (true≢false (sym b ∙ p.behind 0 no_row (omega arith) (omega arith)))
      | Last b ↦ with-change-first row (x ∷ rows) (b, all-behind-then row x rows b o.0)
      | Level_of e ↦ absurd (true≢false (sym (at-alike x row e) ∙ h (omega arith)))
    ]
change-new row (x ∷ rows) (suc place) o p h =
    with-change-past row x rows (p.ahead 0 no_row (omega arith)) ∙ ap (λ (q : List Row). x ∷ q) (change-new row rows place o.1 (next-place row x rows place p) (λ lt. h (let less : place < length rows = lt in omega arith)))

pub change-set : (row : Row) (rows : List Row) (place : ℕ) → AreOrdered rows → IsPlaceOf row rows place → place < length rows → is_at_level (get_or rows place no_row) row ≡ true → set rows place row ≡ with_change row rows
change-set row rows place o p lt h = set_split rows place row lt ∙ sym (change-there row rows place o p lt h)

pub change-inserted : (row : Row) (rows : List Row) (place : ℕ) → AreOrdered rows → IsPlaceOf row rows place → (place < length rows → is_at_level (get_or rows place no_row) row ≡ false) → insert rows place row ≡ with_change row rows
change-inserted row rows place o p h = sym (change-new row rows place o p h)

-- ---- the last row

-- a row that comes after all others
pub with-row-last : (r : Row) (rows : List Row) → is_gone r ≡ false → AllByRecursion (λ x. row_before x r ≡ true) rows → with_row r rows ≡ rows ++ r ∷ []
with-row-last r [] shown all = with-row-first r [] tt ∙ ap (λ (b : Bool). cond b [] (r ∷ []) ++ []) shown
with-row-last r (x ∷ rows) shown all = with-row-past r x rows all.0 ∙ ap (λ (q : List Row). x ∷ q) (with-row-last r rows shown all.1)

-- a row after the last one is after each
pub all-before-last : (r : Row) (rows : List Row) (i : ℕ) → AreOrdered rows → length rows ≡ suc i → Behind (get_or rows i no_row) r → AllByRecursion (λ x. row_before x r ≡ true) rows
all-before-last r [] i o e h = tt
all-before-last r (x ∷ []) zero o e h = (h, tt)
all-before-last r (x ∷ []) (suc i) o e h = absurd (omega (arith, e))
all-before-last r (x ∷ y ∷ rows) zero o e h = absurd (omega (arith, e))
all-before-last r (x ∷ y ∷ rows) (suc i) o e h =
    let longer : suc (length (y ∷ rows)) ≡ suc (suc i) = e in
    let all = all-before-last r (y ∷ rows) i o.1 (omega arith) h in
    (behind-then x y r o.0.0 all.0, all)
