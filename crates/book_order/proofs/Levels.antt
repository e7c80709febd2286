-- Levels that are the same one, and their order.
use Rattle.std.proofs.Common.{◌≡◌, ℕ, Bool, true, false, ◌&&◌, ◌||◌, refl, ap, ◌∙◌, arith, inl, inr, eqb}
use Rattle.std.proofs.lemmas.Bool.Decides.{eqb_tells, leb_tells, Decides-int_eq, Decides-eqb}
use Rattle.std.specs.Prelude.{ℤ, pos, negsuc, int_lt, nat_lt, ◌==◌}
use Prim.Native.Nat.{suc}
use Rattle.std.specs.Ordering.{int_eq}
use Rattle.gx_base.specs.declared.order.Side.{Side}
use Rattle.gx_base.specs.declared.order.Side.TheVariants.{Buy, Sell}
use Rattle.book_order.specs.Levels.{Level, is_level, is_before, is_side, side_before, is_better}

-- a number is itself
pub same : (n : ℕ) → eqb n n ≡ true
same n = elim (eqb_tells n n) [ inl t ↦ t.0 | inr t ↦ absurd (t.1 refl) ]

pub is_side-same : (a b : Side) → is_side a b ≡ true → a ≡ b
is_side-same Buy Buy h = refl
is_side-same Buy Sell h = cc
is_side-same Sell Buy h = cc
is_side-same Sell Sell h = refl

pub is_side-refl : (a : Side) → is_side a a ≡ true
is_side-refl Buy = refl
is_side-refl Sell = refl

pub and-left : (a b : Bool) → (a && b) ≡ true → a ≡ true
and-left true b h = refl
and-left false b h = h

pub and-right : (a b : Bool) → (a && b) ≡ true → b ≡ true
and-right true b h = h
and-right false b h = cc

abbrev pub level_at : ℕ → Side → ℤ → Level
level_at i s p = record { instrument = i; side = s; price = p }

pub is_level-same : (a b : Level) → is_level a b ≡ true → a ≡ b
is_level-same a b h =
    let i : a.instrument ≡ b.instrument = (Decides-eqb a.instrument b.instrument).0 (and-left _ _ h) in
    let r = and-right (a.instrument == b.instrument) _ h in
    let s : a.side ≡ b.side = is_side-same _ _ (and-left _ _ r) in
    let p : a.price ≡ b.price = (Decides-int_eq a.price b.price).0 (and-right (is_side a.side b.side) _ r) in
    ap (λ (n : ℕ). level_at n a.side a.price) i ∙ ap (λ (d : Side). level_at b.instrument d a.price) s ∙ ap (level_at b.instrument b.side) p

pub is_level-refl : (a : Level) → is_level a a ≡ true
is_level-refl a =
    let i : (a.instrument == a.instrument) ≡ true = same a.instrument in
    let p : int_eq a.price a.price ≡ true = (Decides-int_eq a.price a.price).1 refl in
    rw (i, is_side-refl a.side, p) refl

pub nat_lt-irrefl : (n : ℕ) → nat_lt n n ≡ false
nat_lt-irrefl n = elim (leb_tells (suc n) n) [ inl t ↦ absurd (omega (arith, t.1)) | inr t ↦ t.0 ]

int_lt-irrefl : (n : ℤ) → int_lt n n ≡ false
int_lt-irrefl (pos n) = nat_lt-irrefl n
int_lt-irrefl (negsuc n) = nat_lt-irrefl n

pub is_better-irrefl : (s : Side) (p : ℤ) → is_better s p p ≡ false
is_better-irrefl Buy p = int_lt-irrefl p
is_better-irrefl Sell p = int_lt-irrefl p

pub side_before-irrefl : (s : Side) → side_before s s ≡ false
side_before-irrefl Buy = refl
side_before-irrefl Sell = refl

before_from : (a b c d e f : Bool) → a ≡ false → c ≡ false → e ≡ false → (a || (b && (c || (d && e)))) ≡ false
before_from a b c d e f p q r = grind arith

pub is_before-irrefl : (a : Level) → is_before a a ≡ false
is_before-irrefl a = before_from _ (a.instrument == a.instrument) _ (is_side a.side a.side) _ true (nat_lt-irrefl a.instrument) (side_before-irrefl a.side) (is_better-irrefl a.side a.price)
