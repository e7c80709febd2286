-- Texts in a row, one for each number.
use Rattle.std.proofs.Common.{◌≡◌, ℕ, ◌+◌, ◌-◌, ◌<◌, List, [], ◌++◌, sym, ap, ◌∙◌, append_assoc, arith}
use Prim.Native.Nat.{zero, suc}
use Rattle.std.proofs.lemmas.List.{append-nil}

-- `texts i count` is the texts of so many numbers from i on
module _ (one : ℕ → List ℕ) (texts : ℕ → ℕ → List ℕ) (none : (i : ℕ) → texts i zero ≡ []) (first : (i count : ℕ) → texts i (suc count) ≡ one i ++ texts (i + 1) count) where
  texts-more : (i a b : ℕ) → texts i (a + b) ≡ texts i a ++ texts (i + a) b
  texts-more i zero b =
      let from : i + 0 ≡ i = omega arith in
      let count : zero + b ≡ b = omega arith in
      ap (λ (n : ℕ). texts i n) count ∙ ap (λ (n : ℕ). texts n b) (sym from) ∙ ap (λ (l : List ℕ). l ++ texts (i + 0) b) (sym (none i))
  texts-more i (suc a) b =
      let count : suc a + b ≡ suc (a + b) = omega arith in
      let from : (i + 1) + a ≡ i + suc a = omega arith in
      ap (λ (n : ℕ). texts i n) count
      ∙ first i (a + b)
      ∙ ap (λ (l : List ℕ). one i ++ l) (texts-more (i + 1) a b)
      ∙ sym (append_assoc (one i) (texts (i + 1) a) (texts ((i + 1) + a) b))
      ∙ ap (λ (l : List ℕ). l ++ texts ((i + 1) + a) b) (sym (first i a))
      ∙ ap (λ (n : ℕ). texts i (suc a) ++ texts n b) from

  from-none : (k : ℕ) → 0 + k ≡ k
  from-none k = omega arith

  alone : (i : ℕ) → texts i 1 ≡ one i
  alone i = first i zero ∙ ap (λ (l : List ℕ). one i ++ l) (none (i + 1)) ∙ append-nil (one i)

  -- one number more
  pub texts-next : (k : ℕ) → texts 0 k ++ one k ≡ texts 0 (k + 1)
  texts-next k =
      sym (texts-more 0 k 1
      ∙ ap (λ (l : List ℕ). texts 0 k ++ l) (alone (0 + k))
      ∙ ap (λ (i : ℕ). texts 0 k ++ one i) (from-none k))

  -- those before a number, its own, and those after it
  pub texts-around : (k n : ℕ) → k < n → texts 0 n ≡ texts 0 k ++ (one k ++ texts (k + 1) (n - (k + 1)))
  texts-around k n lt =
      let all : n ≡ k + suc (n - (k + 1)) = omega (arith, lt) in
      ap (λ (x : ℕ). texts 0 x) all ∙ texts-more 0 k (suc (n - (k + 1)))
      ∙ ap (λ (i : ℕ). texts 0 k ++ texts i (suc (n - (k + 1)))) (from-none k)
      ∙ ap (λ (l : List ℕ). texts 0 k ++ l) (first k (n - (k + 1)))
