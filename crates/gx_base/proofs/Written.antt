-- Bytes that are written after others.
use Rattle.std.proofs.Common.{◌≡◌, ℕ, ◌+◌, ◌-◌, ◌≤◌, List, ◌++◌, length, take, drop, sym, ◌∙◌, ap, arith}
use Rattle.std.proofs.lemmas.List.{drop-drop, length-take-le, take-take}
use Rattle.std.proofs.Math.Seq.{take-append-add}

-- what is the same from a place on is the same further on
pub same_further : (a b : ℕ) (xs ys : List ℕ) → a ≤ b → drop a xs ≡ drop a ys → drop b xs ≡ drop b ys
same_further a b xs ys le same =
    let n : ℕ = b - a in
    let sum : a + n ≡ b = omega arith in
    ap (λ k. drop k xs) (sym sum) ∙ sym (drop-drop n a xs) ∙ ap (drop n) same ∙ drop-drop n a ys ∙ ap (λ k. drop k ys) sum

-- of what was written after `at`, the first bytes
pub front_of : (at len end : ℕ) (old new room : List ℕ) → at ≤ length old → at + len ≤ end → take end new ≡ take at old ++ room → take (at + len) new ≡ take at old ++ take len room
front_of at len end old new room fits within is =
    let before : List ℕ = take at old in
    sym (take-take (at + len) end new within)
    ∙ ap (take (at + len)) is
    ∙ ap (λ k. take (k + len) (before ++ room)) (sym (length-take-le at old fits))
    ∙ take-append-add before room len
