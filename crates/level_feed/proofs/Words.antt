-- Numbers and words of a line, written and read again.
use Rattle.std.proofs.Common.{◌≡◌, ℕ, ◌<◌, ◌≤◌, cond, ◌&&◌, nat_le, List, [], ◌∷◌, ◌++◌, length, decimal, bytes_eq, Option, Some, None, refl, ap, ◌∙◌, arith}
use Rattle.std.specs.Prelude.{◌==◌}
use Rattle.std.proofs.lemmas.Bool.{and_from, cond-true, cond-false, le-leb, ne_eqb}
use Rattle.std.proofs.lemmas.Fmt.{length-decimal-le}
use Rattle.std.proofs.lemmas.Slice.Eq.{bytes_eq-Decides}
use Rattle.gx_base.proofs.NumberTexts.{Lacks, decimal-value}
use Rattle.gx_base.specs.declared.order.Side.{Side}
use Rattle.gx_base.specs.declared.order.Side.TheVariants.{Buy, Sell}
use Rattle.line_parts.specs.Words.{side_letter}
use Rattle.level_feed.specs.Lines.{onto_split, split_last, number_of, greatest_number, side_of}

-- ---- the last word

pub split-none : (word : List ℕ) → Lacks 32 word → split_last word ≡ None
split-none [] h = refl
split-none (c ∷ word) h = ap (onto_split c word) (split-none word h.1) ∙ cond-false (c == 32) (Some (record { front = []; word = word })) None h.0

pub split-at : (front word : List ℕ) → Lacks 32 word → split_last (front ++ 32 ∷ word) ≡ Some (record { front = front; word = word })
split-at [] word h = ap (onto_split 32 word) (split-none word h)
split-at (c ∷ front) word h = ap (onto_split c (front ++ 32 ∷ word)) (split-at front word h)

-- ---- numbers

pub short-decimal : (n : ℕ) → n ≤ greatest_number → length (decimal n) ≤ 19
short-decimal n h = length-decimal-le 19 n (omega arith) (omega arith) (omega arith)

abbrev pub number-by : List ℕ → ℕ → Option ℕ
number-by text v = cond (bytes_eq text (decimal v) && nat_le v greatest_number) (Some v) None

pub number-read : (n : ℕ) → n ≤ greatest_number → number_of (decimal n) ≡ Some n
number-read n h =
    ap (number-by (decimal n)) (decimal-value n (omega arith))
    ∙ cond-true (bytes_eq (decimal n) (decimal n) && nat_le n greatest_number) (Some n) None (and_from _ _ ((bytes_eq-Decides (decimal n) (decimal n)).1 refl) (le-leb n greatest_number h))

-- ---- sides

pub side-read : (side : Side) → side_of (side_letter side) ≡ Some side
side-read Buy = refl
side-read Sell = refl

pub side-lacks : (b : ℕ) (side : Side) → b < 48 → Lacks b (side_letter side)
side-lacks b Buy low = (ne_eqb 66 b (λ e. absurd (omega arith)), tt)
side-lacks b Sell low = (ne_eqb 83 b (λ e. absurd (omega arith)), tt)

pub side-length : (side : Side) → length (side_letter side) ≤ 1
side-length Buy = omega arith
side-length Sell = omega arith
