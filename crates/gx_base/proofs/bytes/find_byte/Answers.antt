use Rattle.std.proofs.Common.{◌≡◌, ℕ, ◌+◌, ◌-◌, ◌<◌, ◌≤◌, ◌==◌, ltb, Bool, true, false, cond, Some, None, List, length, get_or, refl, inl, inr, arith, sym, ap, subst, ◌∙◌}
use Rattle.std.proofs.lemmas.Bool.{eq-eqb, lt-ltb, cases_lt}
use Rattle.std.proofs.lemmas.Bool.Decides.{nat_tests}
use Rattle.std.proofs.lemmas.List.Quantifiers.{position-Some}
use Rattle.std.proofs.lemmas.List.Sums.{position_or_len_is, fails_before_first}
use Rattle.std.specs.Simd.Lanes.{chunk}
use Rattle.std.specs.List.{position, position_or_len}
use Rattle.std.proofs.lemmas.Simd.{length-chunk, get_or-chunk}
use Rattle.gx_base.proofs.bytes.find_byte.Goals as goal

-- where `position` finds the first byte that passes, from its place and whether that lies in the list
placed : (test : ℕ → Bool) (bytes : List ℕ) (at : ℕ) (inside : Bool) → position_or_len test bytes ≡ at → ltb at (length bytes) ≡ inside → cond inside (Some at) None ≡ position test bytes
placed test bytes at inside e t =
    ap (λ b. cond b (Some at) None) (sym t) ∙ ap (λ n. cond (ltb n (length bytes)) (Some n) None) (sym e)

-- a place that passes, and none before it
found : (test : ℕ → Bool) (bytes : List ℕ) (at : ℕ) → at < length bytes → ((k : ℕ) → k < at → test (get_or bytes k 0) ≡ false) → test (get_or bytes at 0) ≡ true → Some at ≡ position test bytes
found test bytes at low before here =
    placed test bytes at true (position_or_len_is test bytes at 0 (omega arith) before (λ _. here)) (lt-ltb at (length bytes) low)

outside : (n : ℕ) → ltb n n ≡ false
outside n = grind (arith, nat_tests)

-- no place that passes
nowhere : (test : ℕ → Bool) (bytes : List ℕ) → ((k : ℕ) → k < length bytes → test (get_or bytes k 0) ≡ false) → None ≡ position test bytes
nowhere test bytes before =
    placed test bytes (length bytes) false (position_or_len_is test bytes (length bytes) 0 (omega arith) before (λ low. absurd (omega arith))) (outside (length bytes))

-- what holds of each place below `at` and of the next n holds of each below their sum
below_sum : (P : ℕ → Type 0) (at n : ℕ) → ((k : ℕ) → k < at → P k) → ((k : ℕ) → k < n → P (at + k)) → (k : ℕ) → k < at + n → P k
below_sum P at n before within k low =
    elim (cases_lt k at) [ inl below ↦ before k below | inr behind ↦ subst P (omega arith) (within (k - at) (omega arith)) ]

-- the first that passes among the n from `at` on, where none before them does
found_in : (test : ℕ → Bool) (bytes : List ℕ) (at n k : ℕ) → at + n ≤ length bytes → ((j : ℕ) → j < at → test (get_or bytes j 0) ≡ false) → Some k ≡ position test (chunk at n bytes) → Some (at + k) ≡ position test bytes
found_in test bytes at n k room before e =
    let here = position-Some test (chunk at n bytes) k 0 (sym e) in
    let low : k < n = omega (arith, length-chunk at n bytes room, here.0) in
    let moved = λ (j : ℕ) (l : j < n). ap test (sym (get_or-chunk at n bytes j 0 l)) in
    found test bytes (at + k) (omega arith)
    (below_sum (λ j. test (get_or bytes j 0) ≡ false) at k before (λ j l. moved j (omega arith) ∙ here.2 j l))
    (moved k low ∙ here.1)

-- `position` is nothing only where its place lies past the end
none_outside : (at long : ℕ) (b : Bool) → ltb at long ≡ b → None ≡ cond b (Some at) None → long ≤ at
none_outside at long true t e = cc
none_outside at long false t e = grind (arith, nat_tests)

-- where none of those n passes, none up to their end does
missed_in : (test : ℕ → Bool) (bytes : List ℕ) (at n : ℕ) → at + n ≤ length bytes → ((j : ℕ) → j < at → test (get_or bytes j 0) ≡ false) → None ≡ position test (chunk at n bytes)
    → (j : ℕ) → j < at + n → test (get_or bytes j 0) ≡ false
missed_in test bytes at n room before e =
    let part = chunk at n bytes in
    let all : length part ≤ position_or_len test part = none_outside (position_or_len test part) (length part) _ refl e in
    below_sum (λ j. test (get_or bytes j 0) ≡ false) at n before
    (λ j l. ap test (sym (get_or-chunk at n bytes j 0 l)) ∙ fails_before_first test part j 0 (omega (arith, length-chunk at n bytes room)))

pub returns-in-Some : goal.returns-in-Some
returns-in-Some c =
    found_in (λ x. x == c.args.byte) c.args.bytes.now c.loop-at.at (c.loop-at.at + 16 - c.loop-at.at) c.in-Some.k (omega arith) c.loop-at.invariant.1
    (sym c.in-Some.is ∙ c.find_in_sixteen.ensures)

pub loop-at-preserved : goal.loop-at-preserved
loop-at-preserved c = (
  omega arith,
  λ k below. missed_in (λ x. x == c.args.byte) c.args.bytes.now c.loop-at.at (c.loop-at.at + 16 - c.loop-at.at) (omega arith) c.loop-at.invariant.1
      (sym c.in_default.is ∙ c.find_in_sixteen.ensures) k (omega arith),
)

pub returns-then-bytes-k : goal.returns-then-bytes-k
returns-then-bytes-k c = found (λ x. x == c.args.byte) c.args.bytes.now c.loop-k.k (omega arith) c.loop-k.invariant (eq-eqb _ _ c.if-bytes-k.true)

pub returns : goal.returns
returns c = nowhere (λ x. x == c.args.byte) c.args.bytes.now (λ k below. c.loop-k.invariant k (omega arith))
