-- The order of rows, by the number of their side and then by price.
use Rattle.std.proofs.Common.{◌≡◌, ◌≢◌, ℕ, ◌<◌, Bool, true, false, ◌&&◌, ◌||◌, refl, sym, ap, subst, ◌∙◌, arith, inl, inr}
use Rattle.std.specs.Prelude.{ℤ, nat_lt, ◌==◌}
use Rattle.std.specs.Ordering.{int_eq}
use Rattle.std.proofs.lemmas.Bool.{cases_lt, lt-ltb, eq-eqb, eqb-true, and_from, and_parts, or_left, or_right, false_from_ne_true}
use Rattle.gx_base.specs.declared.price.Price.{Price}
use Rattle.gx_base.specs.declared.order.Side.{Side}
use Rattle.gx_base.specs.declared.order.Side.TheVariants.{Buy, Sell}
use Rattle.book_order.specs.Levels.{level, is_before, is_better, is_side, side_before}
use Rattle.book_order.proofs.Before.{before-apart}
use Rattle.book_order.proofs.Levels.{level_at, same, nat_lt-irrefl, is_side-same, is_side-refl}
use Rattle.price_level.specs.declared.row.LevelRow.{LevelRow}
use Rattle.price_level.specs.Rows.{level_of_row, row_on, row_at, row_before}
use Rattle.price_level.specs.Inner.Sides.{side_number, row_number}

-- ---- the number of a side

pub number-same : (i j : ℕ) (s t : Side) → side_number i s ≡ side_number j t → (i ≡ j) × (s ≡ t)
number-same i j Buy Buy h = (omega arith, refl)
number-same i j Buy Sell h = absurd (omega arith)
number-same i j Sell Buy h = absurd (omega arith)
number-same i j Sell Sell h = (omega arith, refl)

earlier : (i j : ℕ) (s t : Side) (p q : ℤ) → i < j → is_before (level_at i s p) (level_at j t q) ≡ true
earlier i j s t p q lt = or_left (nat_lt i j) ((i == j) && (side_before s t || (is_side s t && is_better s p q))) (lt-ltb i j lt)

before_side : (i j : ℕ) (s t : Side) (p q : ℤ) → side_number i s < side_number j t → is_before (level_at i s p) (level_at j t q) ≡ true
before_side i j Buy Buy p q h = earlier i j Buy Buy p q (omega arith)
before_side i j Buy Sell p q h = elim (cases_lt i j) [
  | inl lt ↦ earlier i j Buy Sell p q lt
  | inr ge ↦ let e : i ≡ j = omega arith in or_right (nat_lt i j) ((i == j) && true) (and_from (i == j) true (eq-eqb i j e) refl)
]
before_side i j Sell Buy p q h = earlier i j Sell Buy p q (omega arith)
before_side i j Sell Sell p q h = earlier i j Sell Sell p q (omega arith)

pub before_later : (a b : LevelRow) → row_number a < row_number b → row_before a b ≡ true
before_later a b h = before_side a.instrument b.instrument a.side b.side a.price.0 b.price.0 h

pub not_before_earlier : (a b : LevelRow) → row_number b < row_number a → row_before a b ≡ false
not_before_earlier a b h = before-apart (level_of_row b) (level_of_row a) (before_later b a h)

by_price : (i : ℕ) (s : Side) (p q : ℤ) → is_before (level_at i s p) (level_at i s q) ≡ is_better s p q
by_price i Buy p q = λ k. nat_lt-irrefl i k || (same i k && is_better Buy p q)
by_price i Sell p q = λ k. nat_lt-irrefl i k || (same i k && is_better Sell p q)

pub before_better : (a b : LevelRow) → row_number a ≡ row_number b → row_before a b ≡ is_better a.side a.price.0 b.price.0
before_better a b h =
    let e = number-same a.instrument b.instrument a.side b.side h in
    ap (λ (i : ℕ). is_before (level_of_row a) (level_at i b.side b.price.0)) (sym e.0)
    ∙ ap (λ (s : Side). is_before (level_of_row a) (level_at a.instrument s b.price.0)) (sym e.1)
    ∙ by_price a.instrument a.side a.price.0 b.price.0

-- ---- rows on a side

module _ (i : ℕ) (s : Side) (r : LevelRow) where
  pub row_is_on : row_number r ≡ side_number i s → row_on i s r ≡ true
  row_is_on h =
      let e = number-same r.instrument i r.side s h in
      and_from (r.instrument == i) (is_side r.side s) (eq-eqb r.instrument i e.0) (subst (λ (t : Side). is_side r.side t ≡ true) e.1 (is_side-refl r.side))

  pub row_is_off : row_number r ≢ side_number i s → row_on i s r ≡ false
  row_is_off ne =
      false_from_ne_true (row_on i s r) (λ t.
      let both = and_parts (r.instrument == i) (is_side r.side s) t in
      ne (ap (λ (j : ℕ). side_number j r.side) (eqb-true r.instrument i both.0) ∙ ap (side_number i) (is_side-same r.side s both.1)))

  at_by_parts : (a b c : Bool) → (a && (b && c)) ≡ ((a && b) && c)
  at_by_parts true b c = refl
  at_by_parts false b c = refl

  pub row_at_price : (price : Price) → row_number r ≡ side_number i s → row_at (level i s price) r ≡ int_eq r.price.0 price.0
  row_at_price price h = at_by_parts (r.instrument == i) (is_side r.side s) (int_eq r.price.0 price.0) ∙ ap (λ (b : Bool). b && int_eq r.price.0 price.0) (row_is_on h)

  pub row_at_off : (price : Price) → row_number r ≢ side_number i s → row_at (level i s price) r ≡ false
  row_at_off price ne = at_by_parts (r.instrument == i) (is_side r.side s) (int_eq r.price.0 price.0) ∙ ap (λ (b : Bool). b && int_eq r.price.0 price.0) (row_is_off ne)
