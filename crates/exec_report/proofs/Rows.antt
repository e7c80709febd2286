-- Fields that are written one after the other are those in a row.
use Rattle.std.proofs.Common.{◌≡◌, ℕ, List, [], ◌∷◌, ◌++◌, take, append_assoc}
use Rattle.gx_base.specs.Frames.{soh}
use Rattle.line_parts.specs.Rows.{ended}

pub two_in_a_row : (old a b l1 l2 : List ℕ) → l1 ≡ old ++ a → l2 ≡ l1 ++ b → l2 ≡ old ++ (a ++ b)
two_in_a_row old a b l1 l2 p1 p2 = rw (p2, p1) (simp append_assoc)

pub four_in_a_row : (old a b c d l1 l2 l3 l4 : List ℕ) → l1 ≡ old ++ a → l2 ≡ l1 ++ b → l3 ≡ l2 ++ c → l4 ≡ l3 ++ d → l4 ≡ old ++ (a ++ b ++ c ++ d)
four_in_a_row old a b c d l1 l2 l3 l4 p1 p2 p3 p4 = rw (p4, p3, p2, p1) (simp append_assoc)

pub five_in_a_row : (old a b c d e l1 l2 l3 l4 l5 : List ℕ) → l1 ≡ old ++ a → l2 ≡ l1 ++ b → l3 ≡ l2 ++ c → l4 ≡ l3 ++ d → l5 ≡ l4 ++ e → l5 ≡ old ++ (a ++ b ++ c ++ d ++ e)
five_in_a_row old a b c d e l1 l2 l3 l4 l5 p1 p2 p3 p4 p5 = rw (p5, p4, p3, p2, p1) (simp append_assoc)

-- the last two of four fields are written at once
pub pair_in_a_row : (old a b c d l1 l2 l3 : List ℕ) → l1 ≡ old ++ a → l2 ≡ l1 ++ b → l3 ≡ l2 ++ (c ++ d) → l3 ≡ old ++ (a ++ b ++ c ++ d)
pair_in_a_row old a b c d l1 l2 l3 p1 p2 p3 = rw (p3, p2, p1) (simp append_assoc)

-- whole fields and the tag of the next, and then its value
pub fronted : (old mid new front tag value : List ℕ) (at end last : ℕ) → take end mid ≡ take at old ++ (soh ∷ front ++ tag) → ended last new ≡ take end mid ++ (value ++ soh ∷ [])
    → ended last new ≡ ended at old ++ (front ++ (tag ++ (value ++ soh ∷ [])))
unfolding ended
fronted old mid new front tag value at end last p1 p2 = rw (p2, p1) (simp append_assoc)

-- the head, the number and the ids of an order's report, and what comes after them
pub ids_in_a_row : (old head number id by a b l1 l2 l3 l4 : List ℕ) → l1 ≡ old ++ (head ++ number) → l2 ≡ l1 ++ (id ++ by) → l3 ≡ l2 ++ a → l4 ≡ l3 ++ b
    → l4 ≡ old ++ (head ++ (number ++ id ++ by) ++ a ++ b)
ids_in_a_row old head number id by a b l1 l2 l3 l4 p1 p2 p3 p4 = rw (p4, p3, p2, p1) (simp append_assoc)

-- an instrument, a quantity, and the other terms of an order
pub terms_in_a_row : (old front quantity kind price life l1 l2 : List ℕ) → l1 ≡ old ++ (front ++ quantity) → l2 ≡ l1 ++ (kind ++ price ++ life) → l2 ≡ old ++ (front ++ quantity ++ kind ++ price ++ life)
terms_in_a_row old front quantity kind price life l1 l2 p1 p2 = rw (p2, p1) (simp append_assoc)
