-- One more row among rows whose last changes are kept apart.
use Rattle.std.proofs.Common.{◌≡◌, ℕ, ◌+◌, ◌-◌, ◌<◌, ◌≤◌, Bool, not, cond, true, false, List, [], ◌∷◌, ◌++◌, length, filter, vec_capacity, Option, Some, None, refl, sym, ap, subst, ◌∙◌, arith, inl, inr}
use Rattle.std.specs.Option.{is_some}
use Rattle.std.proofs.lemmas.Bool.{cases_lt}
use Rattle.std.proofs.lemmas.List.Filters.{length-filter_both}
use Rattle.level_feed.specs.declared.row.Row.{Row}
use Rattle.level_feed.specs.declared.level_rows.LevelRows.TheInside.{Inside}
use Rattle.level_feed.specs.declared.level_rows.TheConstants.{MOST_CHANGES}
use Rattle.level_feed.specs.Held.{FeedRows}
use Rattle.level_feed.specs.Rows.{level_of_row, is_at_level, is_gone, with_row, with_rows, AreOrdered}
use Rattle.level_feed.specs.Noted.{rows_at}
use Rattle.level_feed.specs.Inner.{row_found, with_change}
use Rattle.level_feed.proofs.Order.{own}
use Rattle.level_feed.proofs.KeptApart.{change-takes-effect}
use Rattle.level_feed.proofs.Lengths.{ordered-with-rows}
use Rattle.level_feed.proofs.FoundRows.{beside, length-with-row}
use mir.Val.{bool_byte}

-- ---- the rows, and the room for them

-- the rows after the changes
abbrev pub kept : Inside → List Row
kept s = with_rows s.changes.items s.settled.items

abbrev pub is_seen : Inside → FeedRows
is_seen s = record { capacity = s.capacity; rows = kept s }

-- what always holds of them
abbrev pub AreHeld : Inside → Type 0
AreHeld s =
    AreOrdered s.settled.items × AreOrdered s.changes.items × (s.count ≡ length (kept s)) × (s.count ≤ s.capacity) × (length s.settled.items ≤ s.capacity) × (length s.changes.items ≤ MOST_CHANGES) × (s.capacity ≤ vec_capacity s.settled) × (MOST_CHANGES ≤ vec_capacity s.changes) × (s.capacity ≤ vec_capacity s.room)

-- there is room for one more change
pub record HasRoom (held : FeedRows) (s : Inside) : Type 0 where
  pub same : kept s ≡ held.rows
  pub most : s.capacity ≡ held.capacity
  pub ordered : AreOrdered s.settled.items
  pub apart : AreOrdered s.changes.items
  pub few : length s.settled.items ≤ s.capacity
  pub less : length s.changes.items < MOST_CHANGES
  pub settled_fit : s.capacity ≤ vec_capacity s.settled
  pub changes_fit : MOST_CHANGES ≤ vec_capacity s.changes
  pub fit : s.capacity ≤ vec_capacity s.room

-- after all changes are put among the others
pub room-settled : (held : FeedRows) (q s : Inside) → AreHeld q → is_seen q ≡ held → s.capacity ≡ q.capacity → s.settled.items ≡ kept q → s.changes.items ≡ [] → AreOrdered s.settled.items → vec_capacity s.settled ≡ vec_capacity q.room → vec_capacity s.room ≡ vec_capacity q.settled → vec_capacity s.changes ≡ vec_capacity q.changes → HasRoom held s
room-settled held q s h seen most now none ordered a b d =
    let count-is = h.2 in
    let few = h.3 in
    let settled-fit = h.6 in
    let changes-fit = h.7 in
    let fit = h.8 in
    record {
      same = ap (λ (xs : List Row). with_rows xs s.settled.items) none ∙ now ∙ ap (λ (x : FeedRows). x.rows) seen;
      most = most ∙ ap (λ (x : FeedRows). x.capacity) seen;
      ordered = ordered;
      apart = subst AreOrdered (sym none) tt;
      few = omega (arith, ap length now);
      less = omega (arith, ap length none);
      settled_fit = omega arith;
      changes_fit = omega arith;
      fit = omega arith;
    }

-- or if they are few
pub room-left : (held : FeedRows) (q : Inside) → AreHeld q → is_seen q ≡ held → (length q.changes.items ≡ MOST_CHANGES → ⊥) → HasRoom held q
room-left held q h seen not-full =
    let fewer = h.5 in
    record {
      same = ap (λ (x : FeedRows). x.rows) seen;
      most = ap (λ (x : FeedRows). x.capacity) seen;
      ordered = h.0;
      apart = h.1;
      few = h.4;
      less = elim (cases_lt (length q.changes.items) MOST_CHANGES) [ inl lt ↦ lt | inr ge ↦ absurd (not-full (omega arith)) ];
      settled_fit = h.6;
      changes_fit = h.7;
      fit = h.8;
    }

-- ---- how many rows there are

found-byte : (found : Option Row) → bool_byte (is_some found) ≡ length (row_found found)
found-byte None = refl
found-byte (Some r) = refl

own-byte : (r : Row) → bool_byte (not (is_gone r)) ≡ length (own r)
own-byte r = elim (is_gone r) as (λ (b : Bool). bool_byte (not b) ≡ length (cond b [] (r ∷ []))) [ true ↦ refl | false ↦ refl ]

-- one less if there was a row of the level, and one more if there is one now
pub count-then : (r : Row) (held : FeedRows) (q : Inside) (found : Option Row) (some gone : Bool) (was is : ℕ) → AreHeld q → is_seen q ≡ held → rows_at (level_of_row r) held.rows ≡ row_found found → some ≡ is_some found → was ≡ bool_byte some → gone ≡ is_gone r → is ≡ bool_byte (not gone) → q.count - was + is ≡ length (with_row r held.rows)
count-then r held q found some gone was is h seen there some-is was-is gone-is is-is =
    let rows = held.rows in
    let same : kept q ≡ rows = ap (λ (x : FeedRows). x.rows) seen in
    let p : Row → Bool = λ x. is_at_level x r in
    let was-length : was ≡ length (beside r rows) = was-is ∙ ap bool_byte some-is ∙ found-byte found ∙ ap length (sym there) in
    let is-length : is ≡ length (own r) = is-is ∙ ap (λ (b : Bool). bool_byte (not b)) gone-is ∙ own-byte r in
    let parts : length (beside r rows) + length (filter (λ x. not (p x)) rows) ≡ length rows = length-filter_both p (λ x. not (p x)) (λ x. refl) rows in
    let total = length-with-row r rows (subst AreOrdered same (ordered-with-rows q.changes.items q.settled.items h.0)) in
    let counted : q.count ≡ length rows = h.2 ∙ ap length same in
    omega arith

-- ---- the row comes after all others, or is a change

pub row-last : (r : Row) (held : FeedRows) (s : Inside) → HasRoom held s → s.changes.items ≡ [] → with_row r s.settled.items ≡ s.settled.items ++ r ∷ [] → with_row r held.rows ≡ s.settled.items ++ r ∷ []
row-last r held s room none last =
    ap (with_row r) (sym room.same ∙ ap (λ (xs : List Row). with_rows xs s.settled.items) none) ∙ last

pub row-changed : (r : Row) (held : FeedRows) (s : Inside) (changes : List Row) → HasRoom held s → changes ≡ with_change r s.changes.items → with_rows changes s.settled.items ≡ with_row r held.rows
row-changed r held s changes room is =
    ap (λ (xs : List Row). with_rows xs s.settled.items) is
    ∙ change-takes-effect r s.changes.items s.settled.items room.apart room.ordered
    ∙ ap (with_row r) room.same
