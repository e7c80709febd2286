-- The order of rows, and one row that takes effect.
use Rattle.std.proofs.Common.{◌≡◌, Bool, true, false, cond, List, [], ◌∷◌, ◌++◌, filter, refl, sym, ap, ap₂, ◌∙◌, inl, inr}
use Rattle.std.proofs.lemmas.Bool.{cases_Bool, false_from_ne_true, true≢false}
use Rattle.std.specs.List.{AllByRecursion}
use Rattle.book_order.specs.Levels.{Level, is_level, is_before}
use Rattle.book_order.proofs.Before.{before-past, before-apart, before-other}
use Rattle.book_order.proofs.Levels.{is_level-same, is_level-refl, is_before-irrefl}
use Rattle.level_feed.specs.declared.row.Row.{Row}
use Rattle.level_feed.specs.Rows.{level_of_row, is_at_level, row_before, is_gone, with_row, with_rows}

-- ---- two rows

-- both are of one level
abbrev pub Alike : Row → Row → Type 0
Alike a b = level_of_row a ≡ level_of_row b

-- b's level stands after a's
abbrev pub Behind : Row → Row → Type 0
Behind a b = row_before a b ≡ true

pub alike-at : (a b : Row) → is_at_level a b ≡ true → Alike a b
alike-at a b h = is_level-same (level_of_row a) (level_of_row b) h

pub at-alike : (a b : Row) → Alike a b → is_at_level a b ≡ true
at-alike a b e = ap (is_level (level_of_row a)) (sym e) ∙ is_level-refl (level_of_row a)

pub behind-apart : (a b : Row) → Behind a b → row_before b a ≡ false
behind-apart a b h = before-apart (level_of_row a) (level_of_row b) h

pub behind-then : (a b c : Row) → Behind a b → Behind b c → Behind a c
behind-then a b c h g = before-past (level_of_row a) (level_of_row b) (level_of_row c) h (behind-apart b c g)

pub behind-alike : (a b c : Row) → Behind a b → Alike b c → Behind a c
behind-alike a b c h e = ap (is_before (level_of_row a)) (sym e) ∙ h

pub alike-behind : (a b c : Row) → Alike a b → Behind b c → Behind a c
alike-behind a b c e h = ap (λ (l : Level). is_before l (level_of_row c)) e ∙ h

pub behind-itself : (a : Row) → row_before a a ≡ false
behind-itself a = is_before-irrefl (level_of_row a)

-- a row after another is of another level
pub behind-not-at : (a b : Row) → Behind a b → is_at_level b a ≡ false
behind-not-at a b h = false_from_ne_true (is_at_level b a) (λ t. true≢false (sym (behind-alike a b a h (alike-at b a t)) ∙ behind-itself a))

pub behind-not-from : (a b : Row) → Behind a b → is_at_level a b ≡ false
behind-not-from a b h = false_from_ne_true (is_at_level a b) (λ t. true≢false (sym (behind-alike a b a h (sym (alike-at a b t))) ∙ behind-itself a))

pub data Order (a b : Row) : Type 0 where
  First : Behind a b → Order a b
  Last : Behind b a → Order a b
  Level_of : Alike a b → Order a b

pub order-of : (a b : Row) → Order a b
order-of a b =
    elim (cases_Bool (row_before a b)) [
      | inl t ↦ First t
      | inr f ↦ elim (cases_Bool (is_at_level b a)) [
        | inl t ↦ Level_of (sym (alike-at b a t))
        | inr g ↦ Last (before-other (level_of_row a) (level_of_row b) f g)
      ]
    ]

-- ---- lists of rows

abbrev pub AllBehind : Row → List Row → Type 0
AllBehind a rows = AllByRecursion (Behind a) rows

pub all-behind-then : (a b : Row) (rows : List Row) → Behind a b → AllBehind b rows → AllBehind a rows
all-behind-then a b [] h g = tt
all-behind-then a b (r ∷ rows) h g = (behind-then a b r h g.0, all-behind-then a b rows h g.1)

pub all-alike-behind : (a b : Row) (rows : List Row) → Alike a b → AllBehind b rows → AllBehind a rows
all-alike-behind a b [] e g = tt
all-alike-behind a b (r ∷ rows) e g = (alike-behind a b r e g.0, all-alike-behind a b rows e g.1)

module _ {X : Type 0} (p : X → Bool) where
  pub filter-yes : (x : X) (xs : List X) → p x ≡ true → filter p (x ∷ xs) ≡ x ∷ filter p xs
  filter-yes x xs e = ap (λ (b : Bool). cond b (x ∷ filter p xs) (filter p xs)) e

  pub filter-no : (x : X) (xs : List X) → p x ≡ false → filter p (x ∷ xs) ≡ filter p xs
  filter-no x xs e = ap (λ (b : Bool). cond b (x ∷ filter p xs) (filter p xs)) e

  pub filter-all : (xs : List X) → AllByRecursion (λ x. p x ≡ true) xs → filter p xs ≡ xs
  filter-all [] h = refl
  filter-all (x ∷ xs) h = filter-yes x xs h.0 ∙ ap (λ (ys : List X). x ∷ ys) (filter-all xs h.1)

  pub filter-none : (xs : List X) → AllByRecursion (λ x. p x ≡ false) xs → filter p xs ≡ []
  filter-none [] h = refl
  filter-none (x ∷ xs) h = filter-no x xs h.0 ∙ filter-none xs h.1

pub none-before : (r : Row) (rows : List Row) → AllBehind r rows → AllByRecursion (λ x. row_before x r ≡ false) rows
none-before r [] h = tt
none-before r (x ∷ rows) h = (behind-apart r x h.0, none-before r rows h.1)

-- ---- one row takes effect

abbrev pub own : Row → List Row
own r = cond (is_gone r) [] (r ∷ [])

abbrev pub ahead : Row → List Row → List Row
ahead r rows = filter (λ x. row_before x r) rows

abbrev pub rest : Row → List Row → List Row
rest r rows = filter (λ x. row_before r x) rows

-- a row ahead of it stays in front
pub with-row-past : (r x : Row) (rows : List Row) → Behind x r → with_row r (x ∷ rows) ≡ x ∷ with_row r rows
with-row-past r x rows h =
    ap₂ (λ (f : List Row) (b : List Row). (f ++ own r) ++ b) (filter-yes (λ y. row_before y r) x rows h) (filter-no (λ y. row_before r y) x rows (behind-apart x r h))

-- it comes in front of rows after it
pub with-row-first : (r : Row) (rows : List Row) → AllBehind r rows → with_row r rows ≡ own r ++ rows
with-row-first r rows h =
    ap₂ (λ (f : List Row) (b : List Row). (f ++ own r) ++ b) (filter-none (λ y. row_before y r) rows (none-before r rows h)) (filter-all (λ y. row_before r y) rows h)

-- it takes the place of the first row
pub with-row-here : (r x : Row) (rows : List Row) → Alike r x → AllBehind x rows → with_row r (x ∷ rows) ≡ own r ++ rows
with-row-here r x rows e h =
    let not-ahead : row_before x r ≡ false = ap (is_before (level_of_row x)) e ∙ behind-itself x in
    let not-behind : row_before r x ≡ false = ap (λ (l : Level). is_before l (level_of_row x)) e ∙ behind-itself x in
    ap₂ (λ (f : List Row) (b : List Row). (f ++ own r) ++ b) (filter-no (λ y. row_before y r) x rows not-ahead) (filter-no (λ y. row_before r y) x rows not-behind)
    ∙ with-row-first r rows (all-alike-behind r x rows e h)

-- rows after x leave it in front
pub with-rows-past : (x : Row) (more rows : List Row) → AllBehind x more → with_rows more (x ∷ rows) ≡ x ∷ with_rows more rows
with-rows-past x [] rows h = refl
with-rows-past x (r ∷ more) rows h =
    ap (with_rows more) (with-row-past r x rows h.0) ∙ with-rows-past x more (with_row r rows) h.1

pub with-rows-append : (more others rows : List Row) → with_rows (more ++ others) rows ≡ with_rows others (with_rows more rows)
with-rows-append [] others rows = refl
with-rows-append (r ∷ more) others rows = with-rows-append more others (with_row r rows)
