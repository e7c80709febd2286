-- The first difference of two texts.
use Rattle.std.proofs.Common.{◌≡◌, ◌≢◌, ◌⊎◌, inl, inr, ⊎_elim, ℕ, zero, suc, ◌+◌, ◌<◌, ◌≤◌, min, List, [], ◌∷◌, ◌++◌, length, take, drop, refl, sym, ◌∙◌, ap, arith}
use Rattle.std.specs.Bool.{nat_eq}
use Rattle.std.proofs.lemmas.Bool.{cond-true, cond-false, eq-eqb, cases_lt}
use Rattle.std.proofs.lemmas.Bool.Decides.{eqb_tells}
use Rattle.std.proofs.lemmas.List.{take-append-drop, drop_all, length-take-le}
use Rattle.std.proofs.lemmas.List.Sums.{common_prefix_len-le}
use Rattle.match_journal.specs.Classes.{first_difference}

pub fd_step : (x y : ℕ) (xs ys : List ℕ) → x ≡ y → first_difference (x ∷ xs) (y ∷ ys) ≡ 1 + first_difference xs ys
fd_step x y xs ys same = cond-true (nat_eq x y) _ _ (eq-eqb x y same)

pub fd_stop : (x y : ℕ) (xs ys : List ℕ) → x ≢ y → first_difference (x ∷ xs) (y ∷ ys) ≡ 0
fd_stop x y xs ys other = ⊎_elim (λ t. absurd (other t.1)) (λ t. cond-false (nat_eq x y) _ _ t.0) (eqb_tells x y)

pub fd_le : (a b : List ℕ) → (first_difference a b ≤ length a) × (first_difference a b ≤ length b)
fd_le a b = common_prefix_len-le nat_eq a b

pub fd_nil : (a : List ℕ) → first_difference a [] ≡ 0
fd_nil [] = refl
fd_nil (x ∷ xs) = refl

pub fd_self : (a : List ℕ) → first_difference a a ≡ length a
fd_self [] = refl
fd_self (x ∷ xs) = fd_step x x xs xs refl ∙ ap (λ n. 1 + n) (fd_self xs) ∙ omega arith

-- one text is the front of the other
pub fd_front : (a b : List ℕ) → first_difference a b ≡ length a → take (length a) b ≡ a
fd_front [] b whole = refl
fd_front (x ∷ xs) [] whole = absurd (omega (arith, whole))
fd_front (x ∷ xs) (y ∷ ys) whole = ⊎_elim
    (λ t. ap (λ (l : List ℕ). y ∷ l) (fd_front xs ys (omega (arith, whole, fd_step x y xs ys t.1))) ∙ ap (λ z. z ∷ xs) (sym t.1))
    (λ t. absurd (omega (arith, whole, fd_stop x y xs ys t.1)))
    (eqb_tells x y)

pub fd_of_front : (a b : List ℕ) → take (length a) b ≡ a → first_difference a b ≡ length a
fd_of_front [] b front = refl
fd_of_front (x ∷ xs) [] front = absurd (omega (arith, ap length front))
fd_of_front (x ∷ xs) (y ∷ ys) front = fd_step x y xs ys (sym (cc front)) ∙ ap (λ n. 1 + n) (fd_of_front xs ys (cc front)) ∙ omega arith

-- bytes after as many as the first text has do not count
pub fd_take : (n : ℕ) (a b : List ℕ) → length a ≤ n → first_difference a (take n b) ≡ first_difference a b
fd_take n [] b le = refl
fd_take zero (x ∷ xs) b le = absurd (omega (arith, le))
fd_take (suc n) (x ∷ xs) [] le = refl
fd_take (suc n) (x ∷ xs) (y ∷ ys) le = ⊎_elim
    (λ t. fd_step x y xs (take n ys) t.1 ∙ ap (λ k. 1 + k) (fd_take n xs ys (omega (arith, le))) ∙ sym (fd_step x y xs ys t.1))
    (λ t. fd_stop x y xs (take n ys) t.1 ∙ sym (fd_stop x y xs ys t.1))
    (eqb_tells x y)

-- two fronts that are as long
pub fd_append : (p q a b : List ℕ) → length p ≡ length q → first_difference p q ≡ length p → first_difference (p ++ a) (q ++ b) ≡ length p + first_difference a b
fd_append [] [] a b size whole = omega arith
fd_append [] (y ∷ ys) a b size whole = absurd (omega (arith, size))
fd_append (x ∷ xs) [] a b size whole = absurd (omega (arith, size))
fd_append (x ∷ xs) (y ∷ ys) a b size whole = ⊎_elim
    (λ t. fd_step x y (xs ++ a) (ys ++ b) t.1 ∙ ap (λ n. 1 + n) (fd_append xs ys a b (omega (arith, size)) (omega (arith, whole, fd_step x y xs ys t.1))) ∙ omega arith)
    (λ t. absurd (omega (arith, whole, fd_stop x y xs ys t.1)))
    (eqb_tells x y)

pub fd_inside : (p q a b : List ℕ) → length p ≡ length q → first_difference p q < length p → first_difference (p ++ a) (q ++ b) ≡ first_difference p q
fd_inside [] [] a b size less = absurd (omega (arith, less))
fd_inside [] (y ∷ ys) a b size less = absurd (omega (arith, size))
fd_inside (x ∷ xs) [] a b size less = absurd (omega (arith, size))
fd_inside (x ∷ xs) (y ∷ ys) a b size less = ⊎_elim
    (λ t. fd_step x y (xs ++ a) (ys ++ b) t.1 ∙ ap (λ n. 1 + n) (fd_inside xs ys a b (omega (arith, size)) (omega (arith, less, fd_step x y xs ys t.1))) ∙ sym (fd_step x y xs ys t.1))
    (λ t. fd_stop x y (xs ++ a) (ys ++ b) t.1 ∙ sym (fd_stop x y xs ys t.1))
    (eqb_tells x y)

-- ---- two texts, by their fronts of n bytes

module _ (n : ℕ) (a b : List ℕ) (in_a : n ≤ length a) (in_b : n ≤ length b) where
  sizes : length (take n a) ≡ length (take n b)
  sizes = length-take-le n a in_a ∙ sym (length-take-le n b in_b)

  pub fd_more : first_difference (take n a) (take n b) ≡ n → first_difference a b ≡ n + first_difference (drop n a) (drop n b)
  fd_more whole =
      ap (λ (l : List ℕ). first_difference l b) (sym (take-append-drop n a))
      ∙ ap (first_difference (take n a ++ drop n a)) (sym (take-append-drop n b))
      ∙ fd_append (take n a) (take n b) (drop n a) (drop n b) sizes (whole ∙ sym (length-take-le n a in_a))
      ∙ ap (λ k. k + first_difference (drop n a) (drop n b)) (length-take-le n a in_a)

  pub fd_here : first_difference (take n a) (take n b) < n → first_difference a b ≡ first_difference (take n a) (take n b)
  fd_here less =
      ap (λ (l : List ℕ). first_difference l b) (sym (take-append-drop n a))
      ∙ ap (first_difference (take n a ++ drop n a)) (sym (take-append-drop n b))
      ∙ fd_inside (take n a) (take n b) (drop n a) (drop n b) sizes (omega (arith, less, length-take-le n a in_a))

-- ---- what a difference says

pub fd_same : (a b : List ℕ) → first_difference a b ≡ length a → length a ≡ length b → a ≡ b
fd_same a b whole size = sym (fd_front a b whole) ∙ ap (λ n. take n b) size ∙ take_whole b
  where
    take_whole : (l : List ℕ) → take (length l) l ≡ l
    take_whole [] = refl
    take_whole (x ∷ xs) = ap (λ (l : List ℕ). x ∷ l) (take_whole xs)

pub fd_other : (a b : List ℕ) → first_difference a b < length a → a ≢ b
fd_other a b less same = omega (arith, less, ap (first_difference a) (sym same), fd_self a)

-- one of them has ended
pub fd_ended : (a b : List ℕ) (n : ℕ) → (length a ≤ n) ⊎ (length b ≤ n) → first_difference (drop n a) (drop n b) ≡ 0
fd_ended a b n ended = ⊎_elim
    (λ le. ap (λ (l : List ℕ). first_difference l (drop n b)) (drop_all n a le))
    (λ le. ap (first_difference (drop n a)) (drop_all n b le) ∙ fd_nil (drop n a))
    ended

pub fd_end : (a b : List ℕ) (most i : ℕ) → most ≡ min (length a) (length b) → most ≤ i → i ≤ most → first_difference a b ≡ i + first_difference (drop i a) (drop i b) → most ≡ first_difference a b
fd_end a b most i is ended within so_far =
    let none : first_difference (drop i a) (drop i b) ≡ 0 = fd_ended a b i (⊎_elim (λ lt. inl (omega (arith, lt, is, ended))) (λ le. inr (omega (arith, le, is, ended))) (cases_lt (length a) (length b))) in
    omega (arith, none, so_far, ended, within)
