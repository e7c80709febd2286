-- What follows of tests.
use Rattle.std.proofs.Common.{◌≡◌, ℕ, Bool, true, false, sym, ap, ◌∙◌, arith}
use Rattle.std.specs.Prelude.{ℤ, pos, negsuc, int_lt, nat_lt}
use Rattle.std.proofs.lemmas.Bool.{true≢false}
use Rattle.std.proofs.lemmas.Bool.Decides.{nat_tests}

pub not-both : {A : Type 0} (b : Bool) → b ≡ true → b ≡ false → A
not-both b h k = absurd (true≢false (sym h ∙ k))

-- of two numbers neither of which is less than the other
pub nat-same : (a b : ℕ) → nat_lt a b ≡ false → nat_lt b a ≡ false → a ≡ b
nat-same a b h k = grind (arith, nat_tests)

pub int-same : (a b : ℤ) → int_lt a b ≡ false → int_lt b a ≡ false → a ≡ b
int-same (pos a) (pos b) h k = ap pos (nat-same a b h k)
int-same (pos a) (negsuc b) h k = cc
int-same (negsuc a) (pos b) h k = cc
int-same (negsuc a) (negsuc b) h k = ap negsuc (nat-same a b k h)
