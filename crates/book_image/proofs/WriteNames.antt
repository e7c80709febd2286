-- An id that is filled up with zeros.
use Rattle.std.proofs.Common.{◌≡◌, ℕ, ◌+◌, ◌-◌, ◌≤◌, true, List, [], ◌∷◌, ◌++◌, length, take, drop, replicate, ap, ◌∙◌, arith}
use Rattle.std.specs.Prelude.{IsTrue, nat_le}
use Rattle.std.proofs.lemmas.List.{take_rest, drop-replicate, length-replicate}
use Rattle.std.proofs.lemmas.Bool.Decides.{nat_tests}
use Rattle.gx_base.specs.Texts.{is_name}
use Rattle.plain_book.proofs.Levels.{and-left, and-right}
use Rattle.book_image.specs.Inner.Writing.{Appends, name_bytes}
use Rattle.book_image.proofs.WriteWalks.{appends-then, appends-as}

-- those of 24 zeros that stand after the first n
abbrev zeros_from : ℕ → List ℕ
zeros_from n = take (24 - n) (drop n (replicate 24 0))

zeros-behind : (n : ℕ) → zeros_from n ≡ replicate (24 - n) 0
zeros-behind n = let zeros : List ℕ = replicate 24 0 in take_rest zeros n ∙ drop-replicate n 24 0

at-most : (a b : ℕ) → nat_le a b ≡ true → a ≤ b
at-most a b h = grind (arith, nat_tests)

short : (id : List ℕ) → IsTrue (is_name id) → length id ≤ 24
short id h = at-most (length id) 24 (and-right (nat_le 1 (length id)) (nat_le (length id) 24) (and-left _ _ h))

module _ (id : List ℕ) (name : IsTrue (is_name id)) where
  length-name : (1 + length id) + length (zeros_from (length id)) ≡ 25
  length-name = omega (arith, short id name, ap (λ (l : List ℕ). length l) (zeros-behind (length id)), length-replicate {A = ℕ} (24 - length id) 0)

  -- its length, itself and the zeros, written one after the other
  pub name-written : {old one two new : List ℕ} {at after behind end : ℕ}
      → Appends old one at after 1 (length id ∷ []) → Appends one two after behind (length id) id
      → Appends two new behind end (length (zeros_from (length id))) (zeros_from (length id))
      → Appends old new at end 25 (name_bytes id)
  name-written p q r =
      appends-as _ 25 _ (name_bytes id) length-name (ap (λ (l : List ℕ). (length id ∷ id) ++ l) (zeros-behind (length id))) (appends-then (appends-then p q) r)
