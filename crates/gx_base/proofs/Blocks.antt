-- Bytes of names that are tried by blocks.
use Rattle.std.proofs.Common.{◌≡◌, ℕ, zero, suc, ◌+◌, ◌*◌, ◌%◌, ◌^◌, ◌≤◌, ◌==◌, nat_le, Bool, true, false, ◌&&◌, cond, List, [], ◌∷◌, length, map, replicate, bit_and, refl, sym, ap, ◌∙◌, arith}
use Rattle.std.proofs.lemmas.Bool.Decides.{nat_tests}
use Rattle.std.proofs.lemmas.List.{length-map}
use Rattle.std.proofs.lemmas.List.Folds.{list_all-map}
use Rattle.std.proofs.lemmas.Simd.{mask_l-mod}
use Rattle.std.specs.Simd.Lanes.{mask_l, zip2, top}
use Rattle.std.specs.List.{list_all}
use Rattle.gx_base.specs.Texts.{is_name_byte}

-- the number whose bits are all set
abbrev ones : ℕ → ℕ
ones zero = 0
ones (suc n) = 1 + 2 * ones n

abbrev yes : Bool → Bool
yes b = b

one_more : (b : Bool) (m k : ℕ) → (cond b 1 0 + 2 * m == 1 + 2 * k) ≡ (b && (m == k))
one_more true m k = grind (arith, nat_tests)
one_more false m k = grind (arith, nat_tests)

-- all bits are set exactly where all marks are
full : (ms : List Bool) → (mask_l ms == ones (length ms)) ≡ list_all yes ms
full [] = refl
full (m ∷ ms) = one_more m (mask_l ms) (ones (length ms)) ∙ ap (λ b. m && b) (full ms)

abbrev compared : ℕ → ℕ → ℕ
compared a b = cond (nat_le a b) 255 0

lane : (low high : Bool) → top 7 (bit_and (cond low 255 0) (cond high 255 0)) ≡ (low && high)
lane true true = refl
lane true false = refl
lane false true = refl
lane false false = refl

marked : (xs : List ℕ) (n : ℕ) → length xs ≡ n → map (top 7) (zip2 bit_and (zip2 compared (replicate n 32) xs) (zip2 compared xs (replicate n 126))) ≡ map is_name_byte xs
marked [] n long = rw (sym long) refl
marked (x ∷ xs) zero long = absurd (omega (arith, long))
marked (x ∷ xs) (suc n) long = rw (lane (nat_le 32 x) (nat_le x 126), marked xs n (omega (arith, long))) refl

pub tried : (n : ℕ) (xs : List ℕ) → length xs ≡ n → n ≤ 64
    → (mask_l (map (top 7) (zip2 bit_and (zip2 compared (replicate n 32) xs) (zip2 compared xs (replicate n 126)))) % 2 ^ 64 == ones n) ≡ list_all is_name_byte xs
tried n xs long few =
    let ms : List Bool = map is_name_byte xs in
    ap (λ (l : List Bool). mask_l l % 2 ^ 64 == ones n) (marked xs n long)
    ∙ ap (λ m. m == ones n) (mask_l-mod ms 64 (omega (arith, length-map xs is_name_byte)))
    ∙ ap (λ m. mask_l ms == ones m) (sym long ∙ sym (length-map xs is_name_byte))
    ∙ full ms
    ∙ list_all-map yes is_name_byte xs
