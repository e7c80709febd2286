-- Where the first of some fields end: marks of SOH as bits.
use Rattle.std.proofs.Common.{◌≡◌, ℕ, ◌+◌, ◌-◌, ◌/◌, ◌^◌, ◌<◌, ◌≤◌, List, length, map, take, drop, sym, ap, ◌∙◌, arith}
use Rattle.std.specs.Simd.Lanes.{mask_l}
use Rattle.std.specs.List.{position_or_len}
use Rattle.std.proofs.lemmas.List.{drop-map, drop-take, length-take}
use Rattle.std.proofs.lemmas.Simd.{trailing_mask_l}
use lib.Pow.{shr-shr}
use lib.Count.{count_trailing_zeros}
use Rattle.gx_base.proofs.Marks.{shifted, inside, in_front}
use Rattle.fix_request.specs.Fields.{is_soh}

-- bit k is set where byte k is SOH, of the first bytes
abbrev pub AreMarks : ℕ → List ℕ → Type 0
AreMarks marks bytes = (n : ℕ) × (n ≤ 64) × (marks ≡ mask_l (map is_soh (take n bytes)))

-- what the lowest bit tells, and what is left without it
pub record IsFirstMark (marks : ℕ) (bytes : List ℕ) : Type 0 where
  pub place : count_trailing_zeros 64 marks ≡ position_or_len is_soh bytes
  pub low : position_or_len is_soh bytes < length bytes
  pub others : AreMarks (marks / 2 ^ position_or_len is_soh bytes / 2 ^ 1) (drop (position_or_len is_soh bytes + 1) bytes)

marked_after : (n k : ℕ) (bytes : List ℕ) → k ≤ n → mask_l (map is_soh (take n bytes)) / 2 ^ k ≡ mask_l (map is_soh (take (n - k) (drop k bytes)))
marked_after n k bytes low =
    let e : k + (n - k) ≡ n = omega arith in
    shifted (map is_soh (take n bytes)) k
    ∙ ap mask_l (drop-map is_soh k (take n bytes))
    ∙ ap (λ m. mask_l (map is_soh (drop k (take m bytes)))) (sym e)
    ∙ ap (λ (xs : List ℕ). mask_l (map is_soh xs)) (drop-take k (n - k) bytes)

pub first_mark : (marks : ℕ) (bytes : List ℕ) → AreMarks marks bytes → 0 < marks → IsFirstMark marks bytes
first_mark marks bytes (n, short, e) some =
    let front = take n bytes in
    let few : length front ≤ 64 = omega (arith, length-take n bytes) in
    let any : 0 < mask_l (map is_soh front) = omega arith in
    let there = inside is_soh front any in
    let same = in_front is_soh n bytes there in
    let k = position_or_len is_soh bytes in
    let low : k + 1 ≤ n = omega (arith, length-take n bytes) in
    record {
      place = ap (count_trailing_zeros 64) e ∙ trailing_mask_l is_soh 64 front few any ∙ same;
      low = omega (arith, length-take n bytes);
      others = (n - (k + 1), omega arith, shr-shr marks k 1 ∙ ap (λ m. m / 2 ^ (k + 1)) e ∙ marked_after n (k + 1) bytes low);
    }
