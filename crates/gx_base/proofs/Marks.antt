-- Marks of bytes as bits: the lowest bit is the first byte that passes, a shift drops the first marks, and zeros add none.
use Rattle.std.proofs.Common.{◌≡◌, ℕ, zero, suc, ◌+◌, ◌*◌, ◌/◌, ◌^◌, ◌<◌, Bool, true, false, not, cond, List, [], ◌∷◌, ◌++◌, length, map, take, drop, replicate, refl, sym, ap, ◌∙◌, arith}
use Rattle.std.specs.Simd.Lanes.{mask_l}
use Rattle.std.specs.List.{position_or_len}
use Rattle.std.proofs.Math.Seq.{drop-nil}
use lib.Pow.{shr-shr}

half : (b : Bool) (n : ℕ) → (cond b 1 0 + 2 * n) / 2 ^ 1 ≡ n
half true n = omega arith
half false n = omega arith

-- a shift drops the first marks
pub shifted : (ms : List Bool) (k : ℕ) → mask_l ms / 2 ^ k ≡ mask_l (drop k ms)
shifted ms zero = omega arith
shifted [] (suc k) = let e : suc k ≡ 1 + k = omega arith in ap (λ j. 0 / 2 ^ j) e ∙ sym (shr-shr 0 1 k) ∙ shifted [] k ∙ ap mask_l (drop-nil k)
shifted (b ∷ ms) (suc k) = let e : suc k ≡ 1 + k = omega arith in ap (λ j. mask_l (b ∷ ms) / 2 ^ j) e ∙ sym (shr-shr (mask_l (b ∷ ms)) 1 k) ∙ ap (λ n. n / 2 ^ k) (half b (mask_l ms)) ∙ shifted ms k

unmarked : (p : ℕ → Bool) (n : ℕ) → p 0 ≡ false → mask_l (map p (replicate n 0)) ≡ 0
unmarked p zero other = refl
unmarked p (suc n) other = rw (other, unmarked p n other) refl

-- zeros that do not pass add no mark
pub padded : (p : ℕ → Bool) (xs : List ℕ) (n : ℕ) → p 0 ≡ false → mask_l (map p (xs ++ replicate n 0)) ≡ mask_l (map p xs)
padded p [] n other = unmarked p n other
padded p (x ∷ xs) n other = ap (λ m. cond (p x) 1 0 + 2 * m) (padded p xs n other)

inside_by : (b : Bool) (rest at long : ℕ) → 0 < cond b 1 0 + 2 * rest → (0 < rest → at < long) → cond (not b) (1 + at) 0 < suc long
inside_by true rest at long some later = omega arith
inside_by false rest at long some later = omega (arith, later (omega arith))

-- if a bit is set, a byte passes
pub inside : (p : ℕ → Bool) (xs : List ℕ) → 0 < mask_l (map p xs) → position_or_len p xs < length xs
inside p [] some = absurd (omega arith)
inside p (x ∷ xs) some = inside_by (p x) _ _ _ some (inside p xs)

further : (b : Bool) (i j long : ℕ) → cond (not b) (1 + i) 0 < suc long → (i < long → i ≡ j) → cond (not b) (1 + i) 0 ≡ cond (not b) (1 + j) 0
further true i j long low later = refl
further false i j long low later = ap (λ k. 1 + k) (later (omega arith))

-- the first that passes among the first bytes is the first of all
pub in_front : (p : ℕ → Bool) (n : ℕ) (xs : List ℕ) → position_or_len p (take n xs) < length (take n xs) → position_or_len p (take n xs) ≡ position_or_len p xs
in_front p zero xs low = absurd (omega arith)
in_front p (suc n) [] low = refl
in_front p (suc n) (x ∷ xs) low = further (p x) (position_or_len p (take n xs)) (position_or_len p xs) (length (take n xs)) low (in_front p n xs)
