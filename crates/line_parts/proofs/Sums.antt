-- Sums of the lanes of blocks.
use Rattle.std.proofs.Common.{◌≡◌, ℕ, ◌+◌, ◌-◌, ◌%◌, ◌<◌, ◌≤◌, Bool, true, false, List, [], ◌∷◌, cond, length, take, drop, map, replicate, sum, length-drop, take-add, refl, sym, ap, ◌∙◌, arith, suc}
use Rattle.std.proofs.Math.Dec.{leb}
use Rattle.std.proofs.Math.Seq.{drop-nil}
use Rattle.std.proofs.lemmas.Bool.{leb-true, leb-false}
use Rattle.std.proofs.lemmas.List.{take_all, drop-drop}
use Rattle.std.proofs.lemmas.List.Sums.{sum_by-cons, sum_by-append, sum_by-take-drop}
use Rattle.std.specs.List.{range_with_len}
use Rattle.std.specs.Simd.Lanes.{zip2, fold_l, sel_l}

sum-cons : (x : ℕ) (xs : List ℕ) → sum (x ∷ xs) ≡ x + sum xs
sum-cons x xs = sum_by-cons (λ n. n) x xs

-- two vectors are added lane by lane
pub sum-added : (xs ys : List ℕ) → length xs ≡ length ys → sum (zip2 (λ a b. (a + b) % 256) xs ys) % 256 ≡ (sum xs + sum ys) % 256
sum-added [] [] same = refl
sum-added [] (y ∷ ys) same = absurd (omega arith)
sum-added (x ∷ xs) [] same = absurd (omega arith)
sum-added (x ∷ xs) (y ∷ ys) same =
    omega (arith, sum-added xs ys (omega arith), sum-cons x xs, sum-cons y ys, sum-cons ((x + y) % 256) (zip2 (λ a b. (a + b) % 256) xs ys))

-- and a vector is summed lane by lane
sum-folded : (n : ℕ) (xs : List ℕ) → n < 256 → fold_l (λ s x. (s + x) % 256) n xs ≡ (n + sum xs) % 256
sum-folded n [] low = omega arith
sum-folded n (x ∷ xs) low = omega (arith, sum-folded ((n + x) % 256) xs (omega arith), sum-cons x xs)

pub sum-total : (xs : List ℕ) → fold_l (λ s x. (s + x) % 256) 0 xs ≡ sum xs % 256
sum-total xs = omega (arith, sum-folded 0 xs (omega arith))

kept_head : (skip at x : ℕ) (xs kept : List ℕ) (b : Bool) → leb skip at ≡ b → sum kept ≡ sum (drop (skip - (at + 1)) xs) → sum (cond b x 0 ∷ kept) ≡ sum (drop (skip - at) (x ∷ xs))
kept_head skip at x xs kept true e rest =
    let le : skip ≤ at = leb-true skip at e in
    let none : skip - at ≡ 0 = omega arith in
    let none' : skip - (at + 1) ≡ 0 = omega arith in
    let left : sum kept ≡ sum xs = rest ∙ ap (λ (k : ℕ). sum (drop k xs)) none' in
    omega (arith, sum-cons x kept, sum-cons x xs, left, ap (λ (k : ℕ). sum (drop k (x ∷ xs))) none)
kept_head skip at x xs kept false e rest =
    let lt : at < skip = leb-false skip at e in
    let one : skip - at ≡ suc (skip - (at + 1)) = omega arith in
    omega (arith, sum-cons 0 kept, rest, ap (λ (k : ℕ). sum (drop k (x ∷ xs))) one)

-- the lanes from one on, with zeros before it
pub sum-kept : (skip at : ℕ) (xs : List ℕ) → sum (sel_l (map (λ k. leb skip k) (range_with_len at (length xs))) xs (replicate (length xs) 0)) ≡ sum (drop (skip - at) xs)
sum-kept skip at [] = ap (λ (ys : List ℕ). sum ys) (sym (drop-nil (skip - at)))
sum-kept skip at (x ∷ xs) = kept_head skip at x xs (sel_l (map (λ k. leb skip k) (range_with_len (at + 1) (length xs))) xs (replicate (length xs) 0)) (leb skip at) refl (sum-kept skip (at + 1) xs)

-- ---- blocks of a text

pub sum-more : (text : List ℕ) (at : ℕ) → sum (take (at + 32) text) ≡ sum (take at text) + sum (take 32 (drop at text))
sum-more text at = ap (λ (xs : List ℕ). sum xs) (take-add at 32 text) ∙ sum_by-append (λ n. n) (take at text) (take 32 (drop at text))

-- the last block has what is left
pub sum-rest : (text : List ℕ) (at : ℕ) → at ≤ length text → length text - at ≤ 32 → 32 ≤ length text
    → sum (take at text) + sum (drop (32 - (length text - at)) (take 32 (drop (length text - 32) text))) ≡ sum text
sum-rest text at low rest long =
    let last = length text - 32 in
    let skip = 32 - (length text - at) in
    let place : last + skip ≡ at = omega arith in
    let whole : take 32 (drop last text) ≡ drop last text = take_all 32 (drop last text) (omega (arith, length-drop last text)) in
    let left : drop skip (take 32 (drop last text)) ≡ drop at text = ap (λ (xs : List ℕ). drop skip xs) whole ∙ drop-drop skip last text ∙ ap (λ (k : ℕ). drop k text) place in
    ap (λ (xs : List ℕ). sum (take at text) + sum xs) left ∙ sum_by-take-drop (λ n. n) text at
