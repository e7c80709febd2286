-- The order of the levels.
use Rattle.std.proofs.Common.{◌≡◌, ◌≢◌, ℕ, Bool, true, false, ◌&&◌, ◌||◌, refl, sym, ap, ◌∙◌, arith}
use Rattle.std.specs.Prelude.{ℤ, pos, negsuc, int_lt, nat_lt, ◌==◌}
use Rattle.std.specs.Ordering.{int_eq}
use Rattle.std.proofs.lemmas.Bool.Decides.{nat_tests, Decides-int_eq}
use Rattle.gx_base.specs.declared.order.Side.{Side}
use Rattle.gx_base.specs.declared.order.Side.TheVariants.{Buy, Sell}
use Rattle.book_order.specs.Levels.{Level, is_level, is_before, is_side, side_before, is_better}

pub nat-past : (a b c : ℕ) → nat_lt a b ≡ true → nat_lt c b ≡ false → nat_lt a c ≡ true
nat-past a b c h g = grind (arith, nat_tests)

nat-back : (a b c : ℕ) → nat_lt b a ≡ true → nat_lt b c ≡ false → nat_lt c a ≡ true
nat-back a b c h g = grind (arith, nat_tests)

pub nat-apart : (a b : ℕ) → nat_lt a b ≡ true → nat_lt b a ≡ false
nat-apart a b h = grind (arith, nat_tests)

-- what is below b is below what is not below b
pub int-past : (a b c : ℤ) → int_lt a b ≡ true → int_lt c b ≡ false → int_lt a c ≡ true
int-past (pos a) (pos b) (pos c) h g = nat-past a b c h g
int-past (pos a) (pos b) (negsuc c) h g = cc
int-past (pos a) (negsuc b) c h g = cc
int-past (negsuc a) (pos b) (pos c) h g = refl
int-past (negsuc a) (pos b) (negsuc c) h g = cc
int-past (negsuc a) (negsuc b) (pos c) h g = refl
int-past (negsuc a) (negsuc b) (negsuc c) h g = nat-back a b c h g

-- what is above b is above what is not above b
pub int-back : (a b c : ℤ) → int_lt b a ≡ true → int_lt b c ≡ false → int_lt c a ≡ true
int-back a b c h g =
    let go : (x : Bool) → int_lt c a ≡ x → x ≡ true = elim [
      | true ↦ λ k. refl
      | false ↦ λ k. absurd (let z : true ≡ false = sym (int-past b a c h k) ∙ g in cc)
    ] in go (int_lt c a) refl

pub int-apart : (a b : ℤ) → int_lt a b ≡ true → int_lt b a ≡ false
int-apart (pos a) (pos b) h = nat-apart a b h
int-apart (pos a) (negsuc b) h = cc
int-apart (negsuc a) (pos b) h = refl
int-apart (negsuc a) (negsuc b) h = nat-apart b a h

pub better-past : (s : Side) (a b c : ℤ) → is_better s a b ≡ true → is_better s c b ≡ false → is_better s a c ≡ true
better-past Buy a b c h g = int-back a b c h g
better-past Sell a b c h g = int-past a b c h g

pub better-apart : (s : Side) (a b : ℤ) → is_better s a b ≡ true → is_better s b a ≡ false
better-apart Buy a b h = int-apart b a h
better-apart Sell a b h = int-apart a b h

-- by side, and then by price
abbrev inner : Side → ℤ → Side → ℤ → Bool
inner s p t q = side_before s t || (is_side s t && is_better s p q)

inner-past : (s t u : Side) (a b c : ℤ) → inner s a t b ≡ true → inner u c t b ≡ false → inner s a u c ≡ true
inner-past Buy Buy Buy a b c h g = better-past Buy a b c h g
inner-past Buy Buy Sell a b c h g = refl
inner-past Buy Sell Buy a b c h g = cc
inner-past Buy Sell Sell a b c h g = refl
inner-past Sell Buy u a b c h g = cc
inner-past Sell Sell Buy a b c h g = cc
inner-past Sell Sell Sell a b c h g = better-past Sell a b c h g

inner-apart : (s t : Side) (a b : ℤ) → inner s a t b ≡ true → inner t b s a ≡ false
inner-apart Buy Buy a b h = better-apart Buy a b h
inner-apart Buy Sell a b h = refl
inner-apart Sell Buy a b h = cc
inner-apart Sell Sell a b h = better-apart Sell a b h

lex-past : (a b c : ℕ) (p q r : Bool) → (p ≡ true → q ≡ false → r ≡ true) → (nat_lt a b || ((a == b) && p)) ≡ true → (nat_lt c b || ((c == b) && q)) ≡ false → (nat_lt a c || ((a == c) && r)) ≡ true
lex-past a b c p q r k h g = grind (arith, nat_tests, k)

lex-apart : (a b : ℕ) (p q : Bool) → (p ≡ true → q ≡ false) → (nat_lt a b || ((a == b) && p)) ≡ true → (nat_lt b a || ((b == a) && q)) ≡ false
lex-apart a b p q k h = grind (arith, nat_tests, k)

-- what stands before b stands before whatever does not
pub before-past : (a b c : Level) → is_before a b ≡ true → is_before c b ≡ false → is_before a c ≡ true
before-past a b c h g = lex-past a.instrument b.instrument c.instrument _ (inner c.side c.price b.side b.price) _ (inner-past a.side b.side c.side a.price b.price c.price) h g

pub before-apart : (a b : Level) → is_before a b ≡ true → is_before b a ≡ false
before-apart a b h = lex-apart a.instrument b.instrument _ _ (inner-apart a.side b.side a.price b.price) h

-- ---- of two levels one comes before the other

nat-other : (a b : ℕ) (p q e : Bool) → (p ≡ false → e ≡ false → q ≡ true) → (nat_lt a b || ((a == b) && p)) ≡ false → ((b == a) && e) ≡ false → (nat_lt b a || ((b == a) && q)) ≡ true
nat-other a b p q e k h g = grind (arith, nat_tests, k)

int-other : (a b : ℤ) → int_lt a b ≡ false → a ≢ b → int_lt b a ≡ true
int-other (pos a) (pos b) h ne = let n : a ≢ b = λ e. ne (ap pos e) in grind (arith, nat_tests)
int-other (pos a) (negsuc b) h ne = refl
int-other (negsuc a) (pos b) h ne = cc
int-other (negsuc a) (negsuc b) h ne = let n : a ≢ b = λ e. ne (ap negsuc e) in grind (arith, nat_tests)

better-other : (s : Side) (a b : ℤ) → is_better s a b ≡ false → int_eq b a ≡ false → is_better s b a ≡ true
better-other Buy a b h g = int-other b a h (λ e. let t = (Decides-int_eq b a).1 e in cc)
better-other Sell a b h g = int-other a b h (λ e. let t = (Decides-int_eq b a).1 (sym e) in cc)

side-other : (s t : Side) (p q : ℤ) → (side_before s t || (is_side s t && is_better s p q)) ≡ false → (is_side t s && int_eq q p) ≡ false → (side_before t s || (is_side t s && is_better t q p)) ≡ true
side-other Buy Buy p q h g = better-other Buy p q h g
side-other Buy Sell p q h g = cc
side-other Sell Buy p q h g = refl
side-other Sell Sell p q h g = better-other Sell p q h g

pub before-other : (a b : Level) → is_before a b ≡ false → is_level b a ≡ false → is_before b a ≡ true
before-other a b h g =
    nat-other a.instrument b.instrument (side_before a.side b.side || (is_side a.side b.side && is_better a.side a.price b.price)) (side_before b.side a.side || (is_side b.side a.side && is_better b.side b.price a.price)) (is_side b.side a.side && int_eq b.price a.price) (side-other a.side b.side a.price b.price) h g
