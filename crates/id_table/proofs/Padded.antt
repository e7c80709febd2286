-- The rooms of ids: the words that tell them, and the ids that they tell.
use Rattle.std.proofs.Common.{◌≡◌, ℕ, zero, suc, true, List, [], ◌∷◌, ◌++◌, length, take, drop, replicate, bytes_eq, refl, sym, ap, ◌∙◌, length-drop, arith}
use Rattle.std.proofs.lemmas.Bool.{and_parts}
use Rattle.std.proofs.lemmas.Bool.Decides.{same_from_decides}
use Rattle.std.proofs.lemmas.List.{take-append-drop, take_all, drop-drop}
use Rattle.std.proofs.lemmas.Slice.Eq.{bytes_eq-Decides}
use Rattle.std.specs.List.{list_all}
use Rattle.gx_base.specs.Texts.{is_name_byte, is_name}
use Rattle.id_table.specs.Inner.Ways.{padded}

-- three words of eight bytes
abbrev words : List ℕ → List ℕ
words xs = take 8 xs ++ (take 8 (drop 8 xs) ++ take 8 (drop 16 xs))

whole : (xs : List ℕ) → length xs ≡ 24 → words xs ≡ xs
whole xs long =
    let last : take 8 (drop 16 xs) ≡ drop 8 (drop 8 xs) = take_all 8 (drop 16 xs) (omega (arith, length-drop 16 xs, long)) ∙ sym (drop-drop 8 8 xs) in
    ap (λ (l : List ℕ). take 8 xs ++ (take 8 (drop 8 xs) ++ l)) last
    ∙ ap (λ (l : List ℕ). take 8 xs ++ l) (take-append-drop 8 (drop 8 xs))
    ∙ take-append-drop 8 xs

same_words : (xs ys : List ℕ) → length xs ≡ 24 → length ys ≡ 24 → take 8 xs ≡ take 8 ys → take 8 (drop 8 xs) ≡ take 8 (drop 8 ys) → take 8 (drop 16 xs) ≡ take 8 (drop 16 ys)
    → xs ≡ ys
same_words xs ys long_xs long_ys first second third =
    sym (whole xs long_xs)
    ∙ ap (λ (l : List ℕ). l ++ (take 8 (drop 8 xs) ++ take 8 (drop 16 xs))) first
    ∙ ap (λ (l : List ℕ). take 8 ys ++ (l ++ take 8 (drop 16 xs))) second
    ∙ ap (λ (l : List ℕ). take 8 ys ++ (take 8 (drop 8 ys) ++ l)) third
    ∙ whole ys long_ys

-- the last word tells, after the first two are the same
pub last_tells : (xs ys : List ℕ) → length xs ≡ 24 → length ys ≡ 24 → bytes_eq (take 8 xs) (take 8 ys) ≡ true → bytes_eq (take 8 (drop 8 xs)) (take 8 (drop 8 ys)) ≡ true
    → bytes_eq (take 8 (drop 16 xs)) (take 8 (drop 16 ys)) ≡ bytes_eq xs ys
last_tells xs ys long_xs long_ys first second =
    let tells = bytes_eq-Decides (take 8 (drop 16 xs)) (take 8 (drop 16 ys)) in
    same_from_decides _ _ (
      λ yes. same_words xs ys long_xs long_ys ((bytes_eq-Decides _ _).0 first) ((bytes_eq-Decides _ _).0 second) (tells.0 yes),
      λ same. tells.1 (ap (λ (l : List ℕ). take 8 (drop 16 l)) same),
    )
    (bytes_eq-Decides xs ys)

-- the bytes before the first zero
abbrev before_zero : List ℕ → List ℕ
before_zero [] = []
before_zero (zero ∷ xs) = []
before_zero (suc x ∷ xs) = suc x ∷ before_zero xs

unpadded : (xs : List ℕ) (n : ℕ) → list_all is_name_byte xs ≡ true → before_zero (xs ++ replicate n 0) ≡ xs
unpadded [] zero names = refl
unpadded [] (suc n) names = refl
unpadded (zero ∷ xs) n names = cc
unpadded (suc x ∷ xs) n names = ap (λ (l : List ℕ). suc x ∷ l) (unpadded xs n (and_parts _ _ names).1)

-- two ids are the same exactly if their rooms are
pub same_rooms : (xs ys : List ℕ) → is_name xs ≡ true → is_name ys ≡ true → bytes_eq (padded xs) (padded ys) ≡ bytes_eq xs ys
same_rooms xs ys name_xs name_ys =
    let room : (id : List ℕ) → is_name id ≡ true → before_zero (padded id) ≡ id = λ id name. unpadded id _ (and_parts _ _ name).1 in
    let tells = bytes_eq-Decides (padded xs) (padded ys) in
    same_from_decides _ _ (
      λ yes. sym (room xs name_xs) ∙ ap before_zero (tells.0 yes) ∙ room ys name_ys,
      λ same. tells.1 (ap padded same),
    )
    (bytes_eq-Decides xs ys)
