-- The first of some parts that is wrong.
use Rattle.std.proofs.Common.{◌≡◌, ℕ, zero, suc, ◌+◌, ◌*◌, ◌<◌, ◌≤◌, inl, inr, Bool, true, false, cond, Some, None, refl, ap, sym, subst, ◌∙◌, arith}
use Rattle.std.proofs.Math.Nat.{eq-or-lt_of_le}
use Rattle.book_image.specs.Faults.{wrong_place}
use Rattle.book_image.specs.Inner.Checking.{AreRightBelow}

below_next : (k n : ℕ) → k < n + 1 → k ≤ n
below_next k n l = omega arith

module _ (is_right : ℕ → Bool) where
  -- one more is right
  pub right-next : (n : ℕ) → AreRightBelow is_right n → is_right n ≡ true → AreRightBelow is_right (n + 1)
  right-next n h e k l =
      elim (eq-or-lt_of_le (below_next k n l)) [
        | inl s ↦ subst (λ (q : ℕ). is_right q ≡ true) (sym s) e
        | inr s ↦ h k s
      ]

  module _ (at size : ℕ) where
    -- none is wrong where each is right
    none-from : (k n : ℕ) → ((j : ℕ) → k ≤ j → j < k + n → is_right j ≡ true) → wrong_place is_right at size k n ≡ None
    none-from k zero h = refl
    none-from k (suc n) h =
        ap (λ (b : Bool). cond b (wrong_place is_right at size (k + 1) n) (Some (at + size * k))) (h k (omega arith) (omega arith))
        ∙ none-from (k + 1) n (λ j l u. h j (omega arith) (omega arith))

    -- the one after those that are right is the first
    first-from : (k n m : ℕ) → ((j : ℕ) → k ≤ j → j < m → is_right j ≡ true) → k ≤ m → m < k + n → is_right m ≡ false
        → wrong_place is_right at size k n ≡ Some (at + size * m)
    first-from k zero m h l u w = absurd (let f : ⊥ = omega arith in f)
    first-from k (suc n) m h l u w =
        elim (eq-or-lt_of_le l) [
          | inl s ↦
              ap (λ (b : Bool). cond b (wrong_place is_right at size (k + 1) n) (Some (at + size * k))) (subst (λ (q : ℕ). is_right q ≡ false) (sym s) w)
              ∙ ap (λ (q : ℕ). Some (at + size * q)) s
          | inr s ↦
              ap (λ (b : Bool). cond b (wrong_place is_right at size (k + 1) n) (Some (at + size * k))) (h k (omega arith) s)
              ∙ first-from (k + 1) n m (λ j low high. h j (omega arith) high) (omega arith) (omega arith) w
        ]

    pub wrong-none : (n : ℕ) → AreRightBelow is_right n → wrong_place is_right at size 0 n ≡ None
    wrong-none n h = none-from 0 n (λ j l u. h j (omega arith))

    -- the same where a walk counts the parts, and ends after the last of them
    pub wrong-none-of : (n k count : ℕ) → count ≡ n → k ≡ count → AreRightBelow is_right k → wrong_place is_right at size 0 n ≡ None
    wrong-none-of n k count all end h = wrong-none n (subst (AreRightBelow is_right) (end ∙ all) h)

    pub wrong-first : (n m : ℕ) → AreRightBelow is_right m → m < n → is_right m ≡ false → wrong_place is_right at size 0 n ≡ Some (at + size * m)
    wrong-first n m h u w = first-from 0 n m (λ j l high. h j high) (omega arith) (omega arith) w

    pub wrong-first-of : (n m count : ℕ) → count ≡ n → AreRightBelow is_right m → m < count → is_right m ≡ false → wrong_place is_right at size 0 n ≡ Some (at + size * m)
    wrong-first-of n m count all h u w = wrong-first n m h (subst (λ (k : ℕ). m < k) all u) w
