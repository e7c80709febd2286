-- Rows and changes of them that are walked at once.
use Rattle.std.proofs.Common.{◌≡◌, ℕ, ◌+◌, ◌<◌, ◌≤◌, Bool, true, false, cond, List, [], ◌∷◌, ◌++◌, length, drop, get_or, refl, sym, ap, ap₂, subst, ◌∙◌, arith, append_assoc}
use Prim.Native.Nat.{zero, suc}
use Rattle.std.proofs.lemmas.List.{drop_all, drop_more, length-append}
use Rattle.std.proofs.lemmas.Bool.{true≢false}
use Rattle.level_feed.specs.declared.row.Row.{Row}
use Rattle.level_feed.specs.Rows.{is_at_level, is_gone, with_rows, AreOrdered}
use Rattle.level_feed.specs.Inner.{comes_first}
use Rattle.level_feed.proofs.Order.{AllBehind, First, Last, Level_of, order-of, own, alike-at, at-alike, all-behind-then, with-row-first, with-row-here, with-rows-past}
use Rattle.level_feed.proofs.Compared.{no_row, first-behind}

-- what is left of the rows after the changes
abbrev pub merged_from : List Row → List Row → ℕ → ℕ → List Row
merged_from settled changes at next = with_rows (drop next changes) (drop at settled)

-- so many of both have been taken
pub record AreWalked (settled changes : List Row) (at next : ℕ) : Type 0 where
  pub within : at ≤ length settled
  pub inside : next ≤ length changes

-- and this is what they gave
pub record Merged (settled changes : List Row) (at next : ℕ) (into : List Row) (before capacity : ℕ) : Type 0 where
  pub walked : AreWalked settled changes at next
  pub parts : into ++ merged_from settled changes at next ≡ with_rows changes settled
  pub room : capacity ≡ before

-- ---- one step, by the first row or the first change

-- the first row comes before each change
first-row : (r : Row) (rows changes : List Row) → AreOrdered changes → comes_first (r ∷ rows) changes ≡ true → with_rows changes (r ∷ rows) ≡ r ∷ with_rows changes rows
first-row r rows changes o h = with-rows-past r changes rows (first-behind r rows changes o h)

own-stays : (c : Row) (changes rows : List Row) → AllBehind c changes → with_rows changes (own c ++ rows) ≡ own c ++ with_rows changes rows
own-stays c changes rows h =
    elim (is_gone c) as (λ (b : Bool). with_rows changes (cond b [] (c ∷ []) ++ rows) ≡ cond b [] (c ∷ []) ++ with_rows changes rows) [
      | true ↦ refl
      | false ↦ with-rows-past c changes rows h
    ]

-- the first change takes the place of the first row
first-change-here : (c r : Row) (changes rows : List Row) → AreOrdered (c ∷ changes) → AreOrdered (r ∷ rows) → is_at_level r c ≡ true → with_rows (c ∷ changes) (r ∷ rows) ≡ own c ++ with_rows changes rows
first-change-here c r changes rows apart ordered h =
    ap (with_rows changes) (with-row-here c r rows (sym (alike-at r c h)) ordered.0) ∙ own-stays c changes rows apart.0

-- the first change comes before each row
first-change : (c : Row) (changes rows : List Row) → AreOrdered (c ∷ changes) → AllBehind c rows → with_rows (c ∷ changes) rows ≡ own c ++ with_rows changes rows
first-change c changes rows apart h = ap (with_rows changes) (with-row-first c rows h) ∙ own-stays c changes rows apart.0

change-before : (c r : Row) (changes rows : List Row) → AreOrdered (r ∷ rows) → comes_first (r ∷ rows) (c ∷ changes) ≡ false → is_at_level r c ≡ false → AllBehind c (r ∷ rows)
change-before c r changes rows ordered h g =
    elim (order-of r c) [
      | First b ↦ absurd (true≢false (sym b ∙ h))
      | Last b ↦ (b, all-behind-then c r rows b ordered.0)
      | Level_of e ↦ absurd (true≢false (sym (at-alike r c e) ∙ g))
    ]

-- ---- the same by indices

ordered-drop : (i : ℕ) (rows : List Row) → AreOrdered rows → AreOrdered (drop i rows)
ordered-drop zero rows o = o
ordered-drop (suc i) [] o = tt
ordered-drop (suc i) (r ∷ rows) o = ordered-drop i rows o.1

module _ (settled changes : List Row) (at next : ℕ) (o : AreOrdered settled) (p : AreOrdered changes) where
  pub next-row : at < length settled → true ≡ comes_first (drop at settled) (drop next changes) → merged_from settled changes at next ≡ get_or settled at no_row ∷ merged_from settled changes (at + 1) next
  next-row lt h =
      let here = drop_more settled at no_row lt in
      ap (with_rows (drop next changes)) here
      ∙ first-row (get_or settled at no_row) (drop (at + 1) settled) (drop next changes) (ordered-drop next changes p) (sym (h ∙ ap (λ (q : List Row). comes_first q (drop next changes)) here))

  pub next-change-here : at < length settled → next < length changes → true ≡ is_at_level (get_or settled at no_row) (get_or changes next no_row) → merged_from settled changes at next ≡ own (get_or changes next no_row) ++ merged_from settled changes (at + 1) (next + 1)
  next-change-here lo ln h =
      let here = drop_more settled at no_row lo in
      let there = drop_more changes next no_row ln in
      ap₂ with_rows there here
      ∙ first-change-here (get_or changes next no_row) (get_or settled at no_row) (drop (next + 1) changes) (drop (at + 1) settled)
      (subst AreOrdered there (ordered-drop next changes p)) (subst AreOrdered here (ordered-drop at settled o)) (sym h)

  pub next-change : at < length settled → next < length changes → false ≡ comes_first (drop at settled) (drop next changes) → false ≡ is_at_level (get_or settled at no_row) (get_or changes next no_row) → merged_from settled changes at next ≡ own (get_or changes next no_row) ++ merged_from settled changes at (next + 1)
  next-change lo ln h g =
      let c = get_or changes next no_row in
      let here = drop_more settled at no_row lo in
      let there = drop_more changes next no_row ln in
      let first = change-before c (get_or settled at no_row) (drop (next + 1) changes) (drop (at + 1) settled) (subst AreOrdered here (ordered-drop at settled o)) (sym (h ∙ ap₂ comes_first here there)) (sym g) in
      ap (λ (q : List Row). with_rows q (drop at settled)) there
      ∙ first-change c (drop (next + 1) changes) (drop at settled) (subst AreOrdered there (ordered-drop next changes p)) (subst (AllBehind c) (sym here) first)

  pub next-change-alone : length settled ≤ at → next < length changes → merged_from settled changes at next ≡ own (get_or changes next no_row) ++ merged_from settled changes at (next + 1)
  next-change-alone le ln =
      let c = get_or changes next no_row in
      let there = drop_more changes next no_row ln in
      ap (λ (q : List Row). with_rows q (drop at settled)) there
      ∙ first-change c (drop (next + 1) changes) (drop at settled) (subst AreOrdered there (ordered-drop next changes p)) (subst (AllBehind c) (sym (drop_all at settled le)) tt)

-- a change is taken, and with it the first row if both are of one level
abbrev pub Step : List Row → List Row → ℕ → ℕ → ℕ → Type 0
Step settled changes at next after =
    AreWalked settled changes after (next + 1) × (merged_from settled changes at next ≡ own (get_or changes next no_row) ++ merged_from settled changes after (next + 1))

module _ (settled changes : List Row) (at next after : ℕ) (o : AreOrdered settled) (p : AreOrdered changes) (w : AreWalked settled changes at next) where
  pub step-row : at < length settled → AreWalked settled changes (at + 1) next
  step-row lt = record { within = omega arith; inside = w.inside }

  pub step-here : at < length settled → next < length changes → true ≡ is_at_level (get_or settled at no_row) (get_or changes next no_row) → after ≡ at + 1 → Step settled changes at next after
  step-here lo ln h e =
      subst (Step settled changes at next) (sym e) (record { within = omega arith; inside = omega arith }, next-change-here settled changes at next o p lo ln h)

  pub step-first : at < length settled → next < length changes → false ≡ comes_first (drop at settled) (drop next changes) → false ≡ is_at_level (get_or settled at no_row) (get_or changes next no_row) → after ≡ at → Step settled changes at next after
  step-first lo ln h g e =
      subst (Step settled changes at next) (sym e) (record { within = w.within; inside = omega arith }, next-change settled changes at next o p lo ln h g)

  pub step-alone : length settled ≤ at → next < length changes → after ≡ at → Step settled changes at next after
  step-alone le ln e =
      subst (Step settled changes at next) (sym e) (record { within = w.within; inside = omega arith }, next-change-alone settled changes at next o p le ln)

-- ---- what comes of it

pub own-none : (c : Row) (rows : List Row) → true ≡ is_gone c → own c ++ rows ≡ rows
own-none c rows h = ap (λ (b : Bool). cond b [] (c ∷ []) ++ rows) (sym h)

pub own-one : (c : Row) (rows : List Row) → false ≡ is_gone c → own c ++ rows ≡ c ∷ rows
own-one c rows h = ap (λ (b : Bool). cond b [] (c ∷ []) ++ rows) (sym h)

-- one more has room
pub room-left : (into rest whole : List Row) (r : Row) (n : ℕ) → into ++ r ∷ rest ≡ whole → length whole ≤ n → length into < n
room-left into rest whole r n e le = omega (arith, ap length e, length-append into (r ∷ rest))

module _ (settled changes : List Row) (at next : ℕ) (into : List Row) (before capacity : ℕ) (w : Merged settled changes at next into before capacity) where
  pub merged-room : (r : Row) (rest : List Row) → merged_from settled changes at next ≡ r ∷ rest → length (with_rows changes settled) ≤ before → length into < capacity
  merged-room r rest e le = let room = w.room in room-left into rest (with_rows changes settled) r capacity (sym (ap (λ (q : List Row). into ++ q) e) ∙ w.parts) (omega arith)

  pub merged-one : (at' next' : ℕ) (into' : List Row) (capacity' : ℕ) (r : Row) → AreWalked settled changes at' next' → merged_from settled changes at next ≡ r ∷ merged_from settled changes at' next' → into' ≡ into ++ r ∷ [] → capacity' ≡ capacity → Merged settled changes at' next' into' before capacity'
  merged-one at' next' into' capacity' r walked e rows same = record {
    walked = walked;
    parts = ap (λ (q : List Row). q ++ merged_from settled changes at' next') rows ∙ append_assoc into (r ∷ []) (merged_from settled changes at' next') ∙ sym (ap (λ (q : List Row). into ++ q) e) ∙ w.parts;
    room = same ∙ w.room;
  }

  pub merged-none : (at' next' : ℕ) → AreWalked settled changes at' next' → merged_from settled changes at next ≡ merged_from settled changes at' next' → Merged settled changes at' next' into before capacity
  merged-none at' next' walked e = record { walked = walked; parts = sym (ap (λ (q : List Row). into ++ q) e) ∙ w.parts; room = w.room }
