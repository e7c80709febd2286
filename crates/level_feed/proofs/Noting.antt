-- What is noted stays noted, and the level of each event's order is noted.
use Rattle.std.proofs.Common.{◌≡◌, ◌<◌, Bool, true, false, cond, ◌||◌, List, [], ◌∷◌, ◌++◌, filter, Option, Some, None, refl, sym, ap, ◌∙◌, inl, inr, ◌⊎◌}
use Rattle.std.specs.Prelude.{nat_le, length}
use Rattle.std.specs.List.{list_any}
use Rattle.std.proofs.lemmas.Bool.{cases_Bool, cond-true, cond-false, true≢false, or_cases, or_left, or_right, lt-leb}
use Rattle.std.proofs.lemmas.List.Folds.{list_any-append}
use Rattle.gx_base.specs.declared.event.Event.{Event}
use Rattle.book_order.specs.Levels.{Level, is_level}
use Rattle.book_order.proofs.Levels.{is_level-same, is_level-refl}
use Rattle.level_feed.specs.declared.noted.TheConstants.{MOST_NOTED}
use Rattle.level_feed.specs.declared.row.Row.{Row}
use Rattle.level_feed.specs.Rows.{level_of_row, row_before, is_gone, with_row}
use Rattle.level_feed.specs.Noted.{Noted, is_among, is_noted, row_noting, noted_new, noted_with, level_of_event, noted_if, noted_event, noted_events, is_level_if, is_event_at, has_event_at}
use Rattle.level_feed.proofs.Order.{First, Last, Level_of, order-of, own, ahead, rest}

-- ---- one row more

-- what passes a test is in the first part or in the second
any-parts : (p q s : Row → Bool) (rows : List Row) → ((x : Row) → p x ≡ true → (q x ≡ true) ⊎ (s x ≡ true)) → list_any p rows ≡ true → (list_any p (filter q rows) ≡ true) ⊎ (list_any p (filter s rows) ≡ true)
any-parts p q s [] h t = absurd (true≢false (sym t))
any-parts p q s (x ∷ rows) h t =
    elim (or_cases (p x) (list_any p rows) t) [
      | inl here ↦ elim (h x here) [ inl a ↦ inl (in-filter p q x rows here a) | inr b ↦ inr (in-filter p s x rows here b) ]
      | inr later ↦ elim (any-parts p q s rows h later) [ inl a ↦ inl (past-filter p q x rows a) | inr b ↦ inr (past-filter p s x rows b) ]
    ]
  where
    in-filter : (p q : Row → Bool) (x : Row) (rows : List Row) → p x ≡ true → q x ≡ true → list_any p (filter q (x ∷ rows)) ≡ true
    in-filter p q x rows here a = ap (list_any p) (cond-true (q x) (x ∷ filter q rows) (filter q rows) a) ∙ or_left (p x) (list_any p (filter q rows)) here

    past-filter : (p q : Row → Bool) (x : Row) (rows : List Row) → list_any p (filter q rows) ≡ true → list_any p (filter q (x ∷ rows)) ≡ true
    past-filter p q x rows t =
        elim (q x) as (λ (b : Bool). list_any p (cond b (x ∷ filter q rows) (filter q rows)) ≡ true) [ true ↦ or_right (p x) (list_any p (filter q rows)) t | false ↦ t ]

-- one of three lists
any-of-three : (p : Row → Bool) (xs ys zs : List Row) → (list_any p xs ≡ true) ⊎ (list_any p zs ≡ true) → list_any p ((xs ++ ys) ++ zs) ≡ true
any-of-three p xs ys zs h =
    list_any-append p (xs ++ ys) zs
    ∙ elim h [
      | inl a ↦ or_left (list_any p (xs ++ ys)) (list_any p zs) (list_any-append p xs ys ∙ or_left (list_any p xs) (list_any p ys) a)
      | inr b ↦ or_right (list_any p (xs ++ ys)) (list_any p zs) b
    ]

at-own : (k : Level) (r : Row) → is_gone r ≡ false → is_level (level_of_row r) k ≡ true → is_among k (own r) ≡ true
at-own k r g h = ap (λ (b : Bool). is_among k (cond b [] (r ∷ []))) g ∙ or_left (is_level (level_of_row r) k) false h

-- the level of a row that takes effect
among-own : (k : Level) (r : Row) (rows : List Row) → is_gone r ≡ false → is_level (level_of_row r) k ≡ true → is_among k (with_row r rows) ≡ true
among-own k r rows g h =
    let p : Row → Bool = λ (x : Row). is_level (level_of_row x) k in
    list_any-append p (ahead r rows ++ own r) (rest r rows)
    ∙ or_left (list_any p (ahead r rows ++ own r)) (list_any p (rest r rows)) (list_any-append p (ahead r rows) (own r) ∙ or_right (list_any p (ahead r rows)) (list_any p (own r)) (at-own k r g h))

-- a level stays among the rows
among-kept : (k : Level) (r : Row) (rows : List Row) → is_gone r ≡ false → is_among k rows ≡ true → is_among k (with_row r rows) ≡ true
among-kept k r rows g h =
    let p : Row → Bool = λ (x : Row). is_level (level_of_row x) k in
    elim (cases_Bool (is_level (level_of_row r) k)) [
      | inl t ↦ among-own k r rows g t
      | inr f ↦ any-of-three p (ahead r rows) (own r) (rest r rows) (any-parts p (λ x. row_before x r) (λ x. row_before r x) rows (λ x t. elim (order-of x r) [
        | First a ↦ inl a
        | Last b ↦ inr b
        | Level_of e ↦ absurd (true≢false (sym t ∙ ap (λ (q : Level). is_level q k) e ∙ f))
      ]) h)
    ]

-- ---- one level more

-- with a level that is not there yet
new-itself : (k : Level) (n : Noted) → is_noted k (noted_new k n) ≡ true
new-itself k n =
    elim (nat_le MOST_NOTED (length n.levels)) as (λ (b : Bool). is_noted k (cond b (record n { any = true }) (record n { levels = with_row (row_noting k) n.levels })) ≡ true) [
      | true ↦ refl
      | false ↦ or_right n.any (is_among k (with_row (row_noting k) n.levels)) (among-own k (row_noting k) n.levels refl (is_level-refl k))
    ]

new-kept : (k j : Level) (n : Noted) → is_noted k n ≡ true → is_noted k (noted_new j n) ≡ true
new-kept k j n h =
    elim (nat_le MOST_NOTED (length n.levels)) as (λ (b : Bool). is_noted k (cond b (record n { any = true }) (record n { levels = with_row (row_noting j) n.levels })) ≡ true) [
      | true ↦ refl
      | false ↦ elim (or_cases n.any (is_among k n.levels) h) [
        | inl a ↦ or_left n.any (is_among k (with_row (row_noting j) n.levels)) a
        | inr b ↦ or_right n.any (is_among k (with_row (row_noting j) n.levels)) (among-kept k (row_noting j) n.levels refl b)
      ]
    ]

-- what was noted stays noted
pub noted-kept : (k j : Level) (n : Noted) → is_noted k n ≡ true → is_noted k (noted_with j n) ≡ true
noted-kept k j n h =
    elim (is_noted j n) as (λ (b : Bool). is_noted k (cond b n (noted_new j n)) ≡ true) [ true ↦ h | false ↦ new-kept k j n h ]

-- the level itself is noted
pub noted-itself : (k : Level) (n : Noted) → is_noted k (noted_with k n) ≡ true
noted-itself k n =
    elim (cases_Bool (is_noted k n)) [
      | inl t ↦ ap (is_noted k) (cond-true (is_noted k n) n (noted_new k n) t) ∙ t
      | inr f ↦ ap (is_noted k) (cond-false (is_noted k n) n (noted_new k n) f) ∙ new-itself k n
    ]

-- ---- what the call makes

pub new-fits : (k : Level) (n : Noted) → length n.levels < MOST_NOTED → noted_new k n ≡ record n { levels = with_row (row_noting k) n.levels }
new-fits k n lt = cond-false (nat_le MOST_NOTED (length n.levels)) (record n { any = true }) (record n { levels = with_row (row_noting k) n.levels }) (lt-leb MOST_NOTED (length n.levels) lt)

pub new-with : (k : Level) (n : Noted) → n.any ≡ false → is_among k n.levels ≡ false → noted_new k n ≡ noted_with k n
new-with k n h g = sym (cond-false (is_noted k n) n (noted_new k n) (ap (λ (b : Bool). b || is_among k n.levels) h ∙ g))

-- ---- one event more

if-kept : (k : Level) (o : Option Level) (n : Noted) → is_noted k n ≡ true → is_noted k (noted_if o n) ≡ true
if-kept k None n h = h
if-kept k (Some j) n h = noted-kept k j n h

pub event-kept : (k : Level) (e : Event) (n : Noted) → is_noted k n ≡ true → is_noted k (noted_event e n) ≡ true
event-kept k e n h = if-kept k (level_of_event e) n h

if-itself : (k : Level) (o : Option Level) (n : Noted) → is_level_if k o ≡ true → is_noted k (noted_if o n) ≡ true
if-itself k None n h = absurd (true≢false (sym h))
if-itself k (Some j) n h = ap (λ (q : Level). is_noted k (noted_with q n)) (is_level-same j k h) ∙ noted-itself k n

-- the level of the event's order is noted
pub event-itself : (k : Level) (e : Event) (n : Noted) → is_event_at k e ≡ true → is_noted k (noted_event e n) ≡ true
event-itself k e n h = if-itself k (level_of_event e) n h

-- ---- events one after the other

pub events-kept : (k : Level) (events : List Event) (n : Noted) → is_noted k n ≡ true → is_noted k (noted_events events n) ≡ true
events-kept k [] n h = h
events-kept k (e ∷ events) n h = events-kept k events (noted_event e n) (event-kept k e n h)

-- the level of the order of each event is noted
pub events-note : (k : Level) (events : List Event) (n : Noted) → has_event_at k events ≡ true → is_noted k (noted_events events n) ≡ true
events-note k [] n h = absurd (true≢false (sym h))
events-note k (e ∷ events) n h =
    elim (or_cases (is_event_at k e) (has_event_at k events) h) [
      | inl here ↦ events-kept k events (noted_event e n) (event-itself k e n here)
      | inr later ↦ events-note k events (noted_event e n) later
    ]
