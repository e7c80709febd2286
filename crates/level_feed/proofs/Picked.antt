-- The rows at noted levels differ as all the rows do.
use Rattle.std.proofs.Common.{◌≡◌, ℕ, ◌≤◌, Bool, true, false, cond, not, ◌&&◌, ◌||◌, List, [], ◌∷◌, ◌++◌, length, map, filter, refl, sym, ap, ap₂, subst, ◌∙◌, arith, inl, inr}
use Prim.Native.Nat.{suc}
use Rattle.std.specs.Prelude.{◌==◌}
use Rattle.std.specs.List.{AllByRecursion, list_any}
use Rattle.std.proofs.lemmas.Bool.{cases_Bool, true≢false, and_parts, or_left, or_right}
use Rattle.book_order.specs.Levels.{Level}
use Rattle.book_order.proofs.Each.{all-with, all-filter}
use Rattle.level_feed.specs.declared.row.Row.{Row}
use Rattle.level_feed.specs.Rows.{level_of_row, is_at_level, is_same_row, gone_row, gone, changed, difference, is_gone, with_row, with_rows, AreOrdered}
use Rattle.level_feed.specs.Noted.{Noted, is_among, rows_at, AreNoted}
use Rattle.level_feed.specs.Inner.{picked, Stays}
use Rattle.level_feed.proofs.Order.{AllBehind, First, Last, Level_of, order-of, alike-at, at-alike, all-behind-then, all-alike-behind, behind-not-from, filter-yes, filter-no, filter-none, with-rows-append}
use Rattle.level_feed.proofs.Changes.{AllOpen, same-row-refl, difference-takes-effect}
use Rattle.level_feed.proofs.Lengths.{ordered-filter, stays-gone}
use Rattle.level_feed.proofs.Taking.{gone-gone}
use Rattle.level_feed.proofs.AtLevel.{any-none, none-at-behind}

-- ---- level by level

-- whether the level of a row is among these
abbrev pub among : List Row → Row → Bool
among levels r = is_among (level_of_row r) levels

-- rows after a level are at others
not-of-first : (n : Row) (ns rows : List Row) → AllBehind n rows → AllByRecursion (λ r. among ns r ≡ among (n ∷ ns) r) rows
not-of-first n ns [] h = tt
not-of-first n ns (r ∷ rows) h = (ap (λ (b : Bool). b || among ns r) (sym (behind-not-from n r h.0)), not-of-first n ns rows h.1)

-- no level after a row is its own
not-among-behind : (x : Row) (ns : List Row) → AllBehind x ns → among ns x ≡ false
not-among-behind x ns h = any-none (λ r. is_at_level r x) ns (none-at-behind x ns h)

filter-alike : (p q : Row → Bool) (rows : List Row) → AllByRecursion (λ r. p r ≡ q r) rows → filter p rows ≡ filter q rows
filter-alike p q [] h = refl
filter-alike p q (r ∷ rows) h = ap₂ (λ (b : Bool) (ys : List Row). cond b (r ∷ ys) ys) h.0 (filter-alike p q rows h.1)

-- the rows at a level, and those at the levels after it
level-then : (n : Row) (ns rows : List Row) → AllBehind n ns → AreOrdered rows → rows_at (level_of_row n) rows ++ filter (among ns) rows ≡ filter (among (n ∷ ns)) rows
level-then n ns [] b o = refl
level-then n ns (x ∷ rows) b o =
    let at : Row → Bool = λ (r : Row). is_at_level r n in
    let join = λ (f : List Row) (g : List Row). f ++ g in
    elim (order-of n x) [
      | First h ↦
          let all : AllBehind n (x ∷ rows) = (h, all-behind-then n x rows h o.0) in
          ap (λ (f : List Row). f ++ filter (among ns) (x ∷ rows)) (filter-none at (x ∷ rows) (none-at-behind n (x ∷ rows) all))
          ∙ filter-alike (among ns) (among (n ∷ ns)) (x ∷ rows) (not-of-first n ns (x ∷ rows) all)
      | Last h ↦
          let others = all-behind-then x n ns h b in
          ap₂ join (filter-no at x rows (behind-not-from x n h)) (filter-no (among ns) x rows (not-among-behind x ns others))
          ∙ level-then n ns rows b o.1
          ∙ sym (filter-no (among (n ∷ ns)) x rows (not-among-behind x (n ∷ ns) (h, others)))
      | Level_of e ↦
          let others = all-alike-behind x n ns (sym e) b in
          ap₂ join (filter-yes at x rows (at-alike x n (sym e))) (filter-no (among ns) x rows (not-among-behind x ns others))
          ∙ ap (λ (q : List Row). x ∷ q) (level-then n ns rows b o.1)
          ∙ sym (filter-yes (among (n ∷ ns)) x rows (or_left (is_at_level n x) (among ns x) (at-alike n x e)))
    ]

none-among : (rows : List Row) → AllByRecursion (λ r. among [] r ≡ false) rows
none-among [] = tt
none-among (r ∷ rows) = (refl, none-among rows)

-- what is picked level by level is what is at the levels
pub picked-is : (levels rows : List Row) → AreOrdered levels → AreOrdered rows → picked levels rows ≡ filter (among levels) rows
picked-is [] rows l o = sym (filter-none (among []) rows (none-among rows))
picked-is (n ∷ ns) rows l o = ap (λ (q : List Row). rows_at (level_of_row n) rows ++ q) (picked-is ns rows l.1 o) ∙ level-then n ns rows l.0 o

pub picked-ordered : (levels rows : List Row) → AreOrdered levels → AreOrdered rows → AreOrdered (picked levels rows)
picked-ordered levels rows l o = subst AreOrdered (sym (picked-is levels rows l o)) (ordered-filter (among levels) rows o)

kept-few : (p : Row → Bool) (rows : List Row) → length (filter p rows) ≤ length rows
kept-few p [] = omega arith
kept-few p (r ∷ rows) =
    let more = kept-few p rows in
    elim (p r) as (λ (b : Bool). length (cond b (r ∷ filter p rows) (filter p rows)) ≤ suc (length rows)) [ true ↦ omega arith | false ↦ omega arith ]

pub picked-few : (levels rows : List Row) → AreOrdered levels → AreOrdered rows → length (picked levels rows) ≤ length rows
picked-few levels rows l o = omega (arith, ap length (picked-is levels rows l o), kept-few (among levels) rows)

-- ---- where no other level changed

any-filter : (f p : Row → Bool) (rows : List Row) → ((x : Row) → f x ≡ true → p x ≡ true) → list_any f (filter p rows) ≡ list_any f rows
any-filter f p [] h = refl
any-filter f p (x ∷ rows) h =
    elim (cases_Bool (p x)) [
      | inl t ↦ ap (list_any f) (filter-yes p x rows t) ∙ ap (λ (b : Bool). f x || b) (any-filter f p rows h)
      | inr u ↦ ap (list_any f) (filter-no p x rows u) ∙ any-filter f p rows h ∙ ap (λ (b : Bool). b || list_any f rows) (sym (fails x u))
    ]
  where
    fails : (x : Row) → p x ≡ false → f x ≡ false
    fails x u = elim (cases_Bool (f x)) [ inl t ↦ absurd (true≢false (sym (h x t) ∙ u)) | inr v ↦ v ]

filter-both : (p q s : Row → Bool) (rows : List Row) → AllByRecursion (λ x. (p x ≡ true → q x ≡ s x) × (p x ≡ false → s x ≡ false)) rows → filter q (filter p rows) ≡ filter s rows
filter-both p q s [] h = refl
filter-both p q s (x ∷ rows) h =
    let more = filter-both p q s rows h.1 in
    elim (cases_Bool (p x)) [
      | inl t ↦ ap (filter q) (filter-yes p x rows t) ∙ ap₂ (λ (b : Bool) (ys : List Row). cond b (x ∷ ys) ys) (h.0.0 t) more
      | inr u ↦ ap (filter q) (filter-no p x rows u) ∙ more ∙ sym (filter-no s x rows (h.0.1 u))
    ]

-- each row is one of them
inside : (f : Row → Row → Bool) → ((r : Row) → f r r ≡ true) → (rows : List Row) → AllByRecursion (λ r. list_any (f r) rows ≡ true) rows
inside f same [] = tt
inside f same (x ∷ rows) =
    (or_left (f x x) (list_any (f x) rows) (same x), all-with (λ r. list_any (f r) rows ≡ true) (λ r. list_any (f r) (x ∷ rows) ≡ true) (λ r t. or_right (f r x) (list_any (f r) rows) t) rows (inside f same rows))

same-at : (r x : Row) → is_same_row r x ≡ true → is_at_level r x ≡ true
same-at r x t = (and_parts (is_at_level r x) (r.shown == x.shown) (and_parts (is_at_level r x && (r.shown == x.shown)) (r.orders == x.orders) t).0).0

-- at a level that is not noted a test that only rows of the level pass finds the same in both lists
module _ (n : Noted) (old new : List Row) (each : n.any ≡ false) (noted : AreNoted n old new) where
  abbrev levels : List Row
  levels = n.levels

  found-in-both : (f : Row → Row → Bool) → ((r x : Row) → f r x ≡ true → is_at_level r x ≡ true) → (r : Row) → among levels r ≡ false → list_any (f r) new ≡ list_any (f r) old
  found-in-both f only r h =
      let k = level_of_row r in
      let at : (x : Row) → f r x ≡ true → is_at_level x r ≡ true = λ (x : Row) (t : f r x ≡ true). at-alike x r (sym (alike-at r x (only r x t))) in
      sym (any-filter (f r) (λ x. is_at_level x r) new at)
      ∙ ap (list_any (f r)) (noted k (ap (λ (b : Bool). b || is_among k levels) each ∙ h))
      ∙ any-filter (f r) (λ x. is_at_level x r) old at

  -- among the rows picked it finds the same as among all
  found-in-picked : (f : Row → Row → Bool) → ((r x : Row) → f r x ≡ true → is_at_level r x ≡ true) → (rows : List Row) (r : Row) → among levels r ≡ true → list_any (f r) (filter (among levels) rows) ≡ list_any (f r) rows
  found-in-picked f only rows r h =
      any-filter (f r) (among levels) rows (λ x t. ap (λ (k : Level). is_among k levels) (sym (alike-at r x (only r x t))) ∙ h)

  gone-same : gone (filter (among levels) old) (filter (among levels) new) ≡ gone old new
  gone-same =
      let q : Row → Bool = λ (r : Row). not (list_any (is_at_level r) (filter (among levels) new)) in
      let s : Row → Bool = λ (r : Row). not (list_any (is_at_level r) new) in
      ap (map gone_row) (filter-both (among levels) q s old
      (all-with (λ r. list_any (is_at_level r) old ≡ true) (λ x. (among levels x ≡ true → q x ≡ s x) × (among levels x ≡ false → s x ≡ false))
      (λ x t. (λ h. ap not (found-in-picked is_at_level (λ r y g. g) new x h), λ h. ap not (found-in-both is_at_level (λ r y g. g) x h ∙ t)))
      old (inside is_at_level (λ r. at-alike r r refl) old)))

  changed-same : changed (filter (among levels) old) (filter (among levels) new) ≡ changed old new
  changed-same =
      let q : Row → Bool = λ (r : Row). not (list_any (is_same_row r) (filter (among levels) old)) in
      let s : Row → Bool = λ (r : Row). not (list_any (is_same_row r) old) in
      filter-both (among levels) q s new
      (all-with (λ r. list_any (is_same_row r) new ≡ true) (λ x. (among levels x ≡ true → q x ≡ s x) × (among levels x ≡ false → s x ≡ false))
      (λ x t. (λ h. ap not (found-in-picked is_same_row same-at old x h), λ h. ap not (sym (found-in-both is_same_row same-at x h) ∙ t)))
      new (inside is_same_row same-row-refl new))

  module _ (l : AreOrdered levels) (o : AreOrdered old) (s : AreOrdered new) where
    pub picked-gone : gone (picked levels old) (picked levels new) ≡ gone old new
    picked-gone = ap₂ gone (picked-is levels old l o) (picked-is levels new l s) ∙ gone-same

    pub picked-changed : changed (picked levels old) (picked levels new) ≡ changed old new
    picked-changed = ap₂ changed (picked-is levels old l o) (picked-is levels new l s) ∙ changed-same

-- ---- the rows that changed take effect

pub effect-is : (old new : List Row) → AreOrdered old → AreOrdered new → AllOpen new → with_rows (changed old new) (with_rows (gone old new) old) ≡ new
effect-is old new o s shows = sym (with-rows-append (gone old new) (changed old new) old) ∙ difference-takes-effect old new o s shows

pub stays-parts : (most : ℕ) (more others rows : List Row) → Stays most (more ++ others) rows → Stays most more rows × Stays most others (with_rows more rows)
stays-parts most [] others rows h = (tt, h)
stays-parts most (r ∷ more) others rows h = let parts = stays-parts most more others (with_row r rows) h.1 in ((h.0, parts.0), parts.1)

-- and no row in between makes more of them
pub effect-stays : (most : ℕ) (old new : List Row) → AreOrdered old → AreOrdered new → AllOpen new → length old ≤ most → length new ≤ most → Stays most (gone old new) old × Stays most (changed old new) (with_rows (gone old new) old)
effect-stays most old new o s shows low few =
    let kept = filter (λ r. not (list_any (is_at_level r) new)) old in
    let effect = difference-takes-effect old new o s shows in
    let high : length (with_rows (difference old new) old) ≤ most = omega (arith, ap length effect) in
    stays-parts most (gone old new) (changed old new) old
    (stays-gone most (gone old new) (changed old new) old (gone-gone kept) (all-filter (λ (r : Row). is_gone r ≡ false) (λ r. not (list_any (is_same_row r) old)) new shows) o low high)
