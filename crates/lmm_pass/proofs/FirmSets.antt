-- Firms as bits of a number.
use Rattle.std.proofs.Common.{◌≡◌, ℕ, ◌*◌, ◌/◌, ◌%◌, ◌^◌, ◌<◌, ◌≤◌, ◌==◌, ◌&&◌, ◌||◌, Bool, true, false, not, refl, sym, ap, ◌∙◌, inl, inr, arith, bit_and, bit_or, nat_lt}
use Rattle.std.specs.Int.{bit_at, bit_not, w64}
use Rattle.std.proofs.lemmas.Bool.Decides.{eqb_tells, leb_tells}
use Rattle.std.proofs.lemmas.Bool.{lt-ltb, le-ltb}
use Rattle.std.proofs.lemmas.Nat.Bits.{bit_at-zero, shr_and_one, bit_at_set_same, bit_at_set_other, bit_at_clear_same, bit_at_clear_other}
use Rattle.lmm_pass.specs.FirmSets.{has_firm}
use Rattle.lmm_pass.specs.declared.firms.FirmSet.{FirmSet}

pub and-false : (a : Bool) → (a && false) ≡ false
and-false true = refl
and-false false = refl

-- firm f is one of those that these bits name
abbrev pub is_in : ℕ → ℕ → Bool
is_in bits f = nat_lt f 64 && bit_at bits f == 1

abbrev pub bits_of : ℕ → FirmSet
bits_of bits = record { bits = bits }

-- no number that no firm can have is in a set
pub high-none : (bits f : ℕ) → 64 ≤ f → is_in bits f ≡ false
high-none bits f high = ap (λ (c : Bool). c && bit_at bits f == 1) (le-ltb f 64 high)

low-bit : (bits f : ℕ) → f < 64 → is_in bits f ≡ (bit_at bits f == 1)
low-bit bits f low = ap (λ (c : Bool). c && bit_at bits f == 1) (lt-ltb f 64 low)

pub zero-none : (bits f : ℕ) → bits ≡ 0 → is_in bits f ≡ false
zero-none bits f none = ap (λ (n : ℕ). nat_lt f 64 && n == 1) (ap (λ (n : ℕ). bit_at n f) none ∙ bit_at-zero f) ∙ and-false (nat_lt f 64)

pub none-has : (set : FirmSet) → set.bits ≡ 0 → (f : ℕ) → has_firm set f ≡ false
unfolding has_firm
none-has set none f = zero-none set.bits f none

-- the test of a bit
pub shifted-in : (bits f : ℕ) → f < 64 → (bit_and (bits / 2 ^ f) 1 == 1) ≡ is_in bits f
shifted-in bits f low = ap (λ (n : ℕ). n == 1) (shr_and_one bits f) ∙ sym (low-bit bits f low)

or-apart : (a n c : Bool) → c ≡ false → a ≡ (a || (c && n))
or-apart true n c h = refl
or-apart false n c h = sym (ap (λ (x : Bool). x && n) h)

or-now : (a n c : Bool) → c ≡ true → n ≡ true → true ≡ (a || (c && n))
or-now true n c h k = refl
or-now false n c h k = sym (ap (λ (x : Bool). x && n) h ∙ k)

-- a bit is set
pub set-in : (bits firm f : ℕ) → firm < 64 → is_in (bit_or bits (1 * 2 ^ firm % 2 ^ 64)) f ≡ (is_in bits f || ((firm == f) && nat_lt f 64))
set-in bits firm f low = elim (eqb_tells firm f) [
  | inl t ↦
      let less : f < 64 = omega (arith, t.1, low) in
      let set : (bit_at (bit_or bits (1 * 2 ^ firm % 2 ^ 64)) f == 1) ≡ true = ap (λ (i : ℕ). bit_at (bit_or bits (1 * 2 ^ firm % 2 ^ 64)) i == 1) (sym t.1) ∙ ap (λ (n : ℕ). n == 1) (bit_at_set_same w64 bits firm low) in
      low-bit (bit_or bits (1 * 2 ^ firm % 2 ^ 64)) f less ∙ set ∙ or-now (is_in bits f) (nat_lt f 64) (firm == f) t.0 (lt-ltb f 64 less)
  | inr t ↦
      ap (λ (n : ℕ). nat_lt f 64 && n == 1) (bit_at_set_other w64 bits firm low f (λ e. t.1 (sym e))) ∙ or-apart (is_in bits f) (nat_lt f 64) (firm == f) t.0
]

and-apart : (a c : Bool) → c ≡ false → a ≡ (a && not c)
and-apart true c h = sym (ap not h)
and-apart false c h = refl

and-now : (a c : Bool) → c ≡ true → false ≡ (a && not c)
and-now true c h = sym (ap not h)
and-now false c h = refl

-- a bit is cleared
pub cleared-in : (bits firm f : ℕ) → firm < 64 → is_in (bit_and bits (bit_not w64 (1 * 2 ^ firm % 2 ^ 64))) f ≡ (is_in bits f && not (firm == f))
cleared-in bits firm f low =
    let cleared = bit_and bits (bit_not w64 (1 * 2 ^ firm % 2 ^ 64)) in
    elim (eqb_tells firm f) [
      | inl t ↦
          let less : f < 64 = omega (arith, t.1, low) in
          low-bit cleared f less ∙ ap (λ (i : ℕ). bit_at cleared i == 1) (sym t.1) ∙ ap (λ (n : ℕ). n == 1) (bit_at_clear_same w64 bits firm low) ∙ and-now (is_in bits f) (firm == f) t.0
      | inr t ↦ elim (leb_tells 64 f) [
        | inl high ↦ high-none cleared f high.1 ∙ sym (high-none bits f high.1) ∙ and-apart (is_in bits f) (firm == f) t.0
        | inr less ↦ ap (λ (n : ℕ). nat_lt f 64 && n == 1) (bit_at_clear_other w64 bits firm low f less.1 (λ e. t.1 (sym e))) ∙ and-apart (is_in bits f) (firm == f) t.0
      ]
    ]

-- a number that no firm can have is taken out
pub high-out : (bits firm f : ℕ) → 64 ≤ firm → is_in bits f ≡ (is_in bits f && not (firm == f))
high-out bits firm f high = elim (eqb_tells firm f) [
  | inl t ↦ high-none bits f (omega (arith, t.1, high)) ∙ and-now (is_in bits f) (firm == f) t.0
  | inr t ↦ and-apart (is_in bits f) (firm == f) t.0
]

-- or put in
pub high-in : (bits firm f : ℕ) → 64 ≤ firm → is_in bits f ≡ (is_in bits f || ((firm == f) && nat_lt f 64))
high-in bits firm f high = elim (eqb_tells firm f) [
  | inl t ↦ sym (ap (λ (n : Bool). is_in bits f || ((firm == f) && n)) (le-ltb f 64 (omega (arith, t.1, high))) ∙ ap (λ (c : Bool). is_in bits f || c) (and-false (firm == f)) ∙ or-false (is_in bits f))
  | inr t ↦ or-apart (is_in bits f) (nat_lt f 64) (firm == f) t.0
]
  where
    or-false : (a : Bool) → (a || false) ≡ a
    or-false true = refl
    or-false false = refl
