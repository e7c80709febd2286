-- The head of a frame, written into the gap before the body, and the frame that this makes.
use Rattle.std.proofs.Common.{◌≡◌, ℕ, ◌+◌, ◌-◌, ◌^◌, ◌<◌, ◌≤◌, List, ◌++◌, length, take, drop, decimal, sym, ◌∙◌, ap, length-append, arith}
use Rattle.std.proofs.lemmas.List.{drop_at, drop-append-le, drop-take, length-take-le, take-take}
use Rattle.std.proofs.lemmas.Fmt.{length-decimal-le}
use Rattle.std.proofs.Math.Seq.{take-add}
use Rattle.gx_base.specs.Frames.{frame_of}
use Rattle.gx_base.proofs.Written.{same_further}
use Rattle.line_parts.specs.declared.fields.TheConstants.{GAP}

-- the length of a body of fewer than 100 bytes has at most two digits
pub few_digits : (n : ℕ) → n < 100 → length (decimal n) ≤ 2
few_digits n few =
    let fits : n < 2 ^ 64 = omega arith in
    length-decimal-le 2 n (omega arith) few fits

-- the body after the gap
body_behind : (old : List ℕ) (end : ℕ) → GAP ≤ end → take (end - GAP) (drop GAP old) ≡ drop GAP (take end old)
body_behind old end gap =
    let sum : GAP + (end - GAP) ≡ end = omega arith in
    sym (drop-take GAP (end - GAP) old) ∙ ap (λ k. drop GAP (take k old)) sum

-- a head as long as the gap stands right before the body
pub head_fills : (old new head : List ℕ) (at end : ℕ) → GAP ≤ end → at ≡ GAP → take at new ≡ head → drop at new ≡ drop at old
    → take (at + (end - GAP)) new ≡ head ++ drop GAP (take end old)
head_fills old new head at end gap full front same =
    take-add at (end - GAP) new
    ∙ ap (λ (l : List ℕ). l ++ take (end - GAP) (drop at new)) front
    ∙ ap (λ (l : List ℕ). head ++ take (end - GAP) l) (same ∙ ap (λ k. drop k old) full)
    ∙ ap (λ (l : List ℕ). head ++ l) (body_behind old end gap)

-- the front of a body that stands after the gap
pub body_front : (old : List ℕ) (end from : ℕ) → GAP ≤ end → end ≤ from → take (end - GAP) (drop GAP (take from old)) ≡ drop GAP (take end old)
body_front old end from gap within =
    ap (take (end - GAP)) (sym (body_behind old from (omega arith)))
    ∙ take-take (end - GAP) (from - GAP) (drop GAP old) (omega arith)
    ∙ body_behind old end gap

-- a body and the bytes after it
pub body_longer : (old : List ℕ) (from more : ℕ) → GAP ≤ from → from ≤ length old → drop GAP (take from old) ++ take more (drop from old) ≡ drop GAP (take (from + more) old)
body_longer old from more gap fits =
    sym (ap (drop GAP) (take-add from more old) ∙ drop-append-le GAP (take from old) (take more (drop from old)) (omega (arith, length-take-le from old fits)))

-- the body is moved to a shorter head
pub body_moved : (old new head moved : List ℕ) (at end : ℕ) → GAP ≤ end → at ≤ GAP → take at new ≡ head → drop at new ≡ drop at old
    → moved ≡ take at new ++ drop GAP (take end new) → moved ≡ head ++ drop GAP (take end old)
body_moved old new head moved at end gap short front same is =
    is
    ∙ ap (λ (l : List ℕ). l ++ drop GAP (take end new)) front
    ∙ ap (λ (l : List ℕ). head ++ l) (sym (body_behind new end gap) ∙ ap (take (end - GAP)) (same_further at GAP new old short same) ∙ body_behind old end gap)

-- a body that is written after the gap ends after it
pub ends_behind_gap : (old new body : List ℕ) (end : ℕ) → GAP ≤ length old → end ≤ length new → take end new ≡ take GAP old ++ body → GAP ≤ end
ends_behind_gap old new body end room fits is =
    omega (arith, ap length is, length-take-le end new fits, length-take-le GAP old room, length-append (take GAP old) body)

-- the frame of such a body
pub framed : (old new body whole : List ℕ) (end : ℕ) → GAP ≤ length old → end ≤ length new → take end new ≡ take GAP old ++ body
    → whole ≡ frame_of (decimal (end - GAP)) (drop GAP (take end new)) → whole ≡ frame_of (decimal (length body)) body
framed old new body whole end room fits is whole_is =
    let gap : length (take GAP old) ≡ GAP = length-take-le GAP old room in
    let count : end - GAP ≡ length body = omega (arith, ap length is, length-take-le end new fits, gap, length-append (take GAP old) body) in
    let rest : drop GAP (take end new) ≡ body = ap (drop GAP) is ∙ drop_at (take GAP old) body GAP gap in
    whole_is
    ∙ ap (λ n. frame_of (decimal n) (drop GAP (take end new))) count
    ∙ ap (λ (l : List ℕ). frame_of (decimal (length body)) l) rest
