use Rattle.std.proofs.Common.{◌≡◌, ℕ, suc, ◌+◌, ◌-◌, ◌/◌, ◌%◌, ◌≤◌, ◌<◌, List, [], ◌∷◌, ◌++◌, length, get_or, set, drop, sym, ◌∙◌, ap, ap₂, append_assoc, arith, drop-cons}
use Rattle.std.proofs.lemmas.List.{drop-set, drop-set-add}
use Rattle.gx_base.specs.Numbers.{fixed_digits}
use Rattle.line_parts.proofs.decimal.write_fixed_digits.Goals as goal

-- two bytes that are written at k, and what stands after them
from_pair : (k tens ones : ℕ) (into : List ℕ) → k + 2 ≤ length into → drop k (set (set into k tens) (k + 1) ones) ≡ tens ∷ ones ∷ drop (suc (suc k)) into
from_pair k tens ones into room =
    let here : k < length into = omega arith in
    let next : suc k < length into = omega arith in
    let more : k + 1 ≡ suc k = omega arith in
    drop-set-add k (set into k tens) 1 ones
    ∙ ap (λ (l : List ℕ). set l 1 ones) (drop-set into k tens here)
    ∙ ap (λ n. set (tens ∷ drop n into) 1 ones) more
    ∙ ap (λ (l : List ℕ). set (tens ∷ l) 1 ones) (drop-cons into (suc k) 0 next)

-- the last two digits are those of what is left, and the others those of its hundredth
two_more : (k front tens ones : ℕ) (into : List ℕ) → k + 2 ≤ length into → tens ≡ 48 + front % 100 / 10 → ones ≡ 48 + front % 100 % 10
    → fixed_digits (suc (suc k)) front ++ drop (suc (suc k)) into ≡ fixed_digits k (front / 100) ++ drop k (set (set into k tens) (k + 1) ones)
two_more k front tens ones into room tens_is ones_is =
    let rest : List ℕ = drop (suc (suc k)) into in
    let hundredth : front / 10 / 10 ≡ front / 100 = omega arith in
    let first : 48 + front / 10 % 10 ≡ tens = omega arith in
    let second : 48 + front % 10 ≡ ones = omega arith in
    let digits : List ℕ = fixed_digits k (front / 10 / 10) in
    append_assoc (digits ++ (48 + front / 10 % 10) ∷ []) ((48 + front % 10) ∷ []) rest
    ∙ append_assoc digits ((48 + front / 10 % 10) ∷ []) ((48 + front % 10) ∷ rest)
    ∙ ap₂ (λ (a b : ℕ). digits ++ a ∷ b ∷ rest) first second
    ∙ ap (λ n. fixed_digits k n ++ tens ∷ ones ∷ rest) hundredth
    ∙ ap (λ (l : List ℕ). fixed_digits k (front / 100) ++ l) (sym (from_pair k tens ones into room))

pub loop-at-preserved : goal.loop-at-preserved
loop-at-preserved c =
    let k : ℕ = c.loop-at.at - 2 in
    let two : c.loop-at.at ≡ suc (suc k) = omega arith in
    let digits = c.pair-digits.result in (
      omega arith,
      c.loop-at.invariant.1
          ∙ ap (λ n. fixed_digits n c.loop-at.front ++ drop n c.loop-at.into) two
          ∙ two_more k c.loop-at.front (get_or digits 0 0) (get_or digits 1 0) c.loop-at.into (omega arith) (ap (λ (l : List ℕ). get_or l 0 0) c.pair-digits.ensures) (ap (λ (l : List ℕ). get_or l 1 0) c.pair-digits.ensures),
    )
