-- The first bytes of a text.
use Rattle.std.proofs.Common.{◌≡◌, ℕ, ◌+◌, ◌-◌, ◌≤◌, min, List, [], ◌++◌, length, take, inl, inr, sym, ap, ◌∙◌, arith}
use Rattle.std.proofs.lemmas.Bool.{cases_lt}
use Rattle.std.proofs.lemmas.List.{append-nil, length-take-le, take_all, take-take, take-append-le}
use Rattle.std.proofs.Math.Seq.{take-append-add}
use Rattle.feed_reader.specs.declared.feed.TheConstants.{MOST_FEED}
use Rattle.feed_reader.specs.Feeds.{feed_part}

-- more of a text than its first part
take-behind : (n : ℕ) (xs ys : List ℕ) → length xs ≤ n → take n (xs ++ ys) ≡ xs ++ take (n - length xs) ys
take-behind n xs ys long =
    let e : n ≡ length xs + (n - length xs) = omega arith in
    ap (λ (k : ℕ). take k (xs ++ ys)) e ∙ take-append-add xs ys (n - length xs)

take-of-take : (k n most : ℕ) (text : List ℕ) → n ≤ length text → most ≡ min n k → take k (take n text) ≡ take most text
take-of-take k n most text within is =
    elim (cases_lt n k) [
      | inl above ↦ take_all k (take n text) (omega (arith, length-take-le n text within)) ∙ ap (λ (j : ℕ). take j text) (let e : n ≡ most = omega arith in e)
      | inr below ↦ take-take k n text below ∙ ap (λ (j : ℕ). take j text) (let e : k ≡ most = omega arith in e)
    ]

take-of-both : (m : ℕ) (taken text : List ℕ) (n most : ℕ) → length taken ≤ m → n ≤ length text → most ≡ min n (m - length taken) → take m (taken ++ take n text) ≡ taken ++ take most text
take-of-both m taken text n most few within is =
    take-behind m taken (take n text) few ∙ ap (λ (l : List ℕ). taken ++ l) (take-of-take (m - length taken) n most text within is)

-- what stands in the front of a longer text is that of the shorter one, and maybe more
record IsLonger (n : ℕ) (xs ys : List ℕ) : Type 0 where
  more : List ℕ
  is : take n (xs ++ ys) ≡ take n xs ++ more

take-longer : (n : ℕ) (xs ys : List ℕ) → IsLonger n xs ys
take-longer n xs ys =
    elim (cases_lt (length xs) n) [
      | inl long ↦ record { more = take (n - length xs) ys; is = take-behind n xs ys (omega arith) ∙ ap (λ (l : List ℕ). l ++ take (n - length xs) ys) (sym (take_all n xs (omega arith))) }
      | inr short ↦ record { more = []; is = take-append-le n xs ys short ∙ sym (append-nil (take n xs)) }
    ]

-- ---- the bytes that are read as a feed

pub part-few : (text : List ℕ) → length text ≤ MOST_FEED → feed_part text ≡ text
unfolding feed_part
part-few text few = take_all MOST_FEED text few

pub part-many : (xs ys : List ℕ) → MOST_FEED ≤ length xs → feed_part (xs ++ ys) ≡ feed_part xs
unfolding feed_part
part-many xs ys many = take-append-le MOST_FEED xs ys many

-- of what was taken before, and the bytes that a read gave
pub part-of-both : (taken text : List ℕ) (n most : ℕ) → length taken ≤ MOST_FEED → n ≤ length text → most ≡ min n (MOST_FEED - length taken) → feed_part (taken ++ take n text) ≡ taken ++ take most text
unfolding feed_part
part-of-both taken text n most few within is = take-of-both MOST_FEED taken text n most few within is

-- after a text stand more bytes, of which some are read as a feed
pub record PartGrows (xs ys : List ℕ) : Type 0 where
  pub more : List ℕ
  pub is : feed_part (xs ++ ys) ≡ feed_part xs ++ more

pub part-grows : (xs ys : List ℕ) → PartGrows xs ys
unfolding feed_part
part-grows xs ys = let longer = take-longer MOST_FEED xs ys in record { more = longer.more; is = longer.is }
