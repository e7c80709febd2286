use Rattle.std.proofs.Common.{◌≡◌, ◌+◌, List, ℕ, take, sum, sym, ap, ◌∙◌, arith}
use Rattle.std.proofs.lemmas.List.{take_all}
use Rattle.gx_base.specs.Frames.{checksum_of}
use Rattle.line_parts.proofs.Sums.{sum-more}
use Rattle.line_parts.proofs.sum.checksum_of_blocks.Goals as goal
use Rattle.line_parts.proofs.sum.checksum_of_blocks.Goals.{then-at-bytes, else-at-bytes}

pub loop-at-preserved : goal.loop-at-preserved
loop-at-preserved c =
    let at = c.loop-at.at in
    let text = c.args.bytes.now in
    let further : at + 32 + 32 ≡ at + 64 = omega arith in
    let more : sum (take (at + 64) text) ≡ sum (take (at + 32 + 32) text) = ap (λ (k : ℕ). sum (take k text)) (sym further) in (
      omega arith,
      omega (arith, c.loop-at.invariant.1),
      omega (arith, c.added-sums.ensures, c.added-first.ensures, more, sum-more text at, sum-more text (at + 32), c.loop-at.invariant.2),
    )

pub returns : goal.returns
returns c =
    let at = c.loop-at.at in
    let text = c.args.bytes.now in
    let total = λ (sums : List ℕ). checksum_of sums in
    c.total.ensures
    ∙ elim c.if-at-bytes.branch [
      | then-at-bytes w ↦
          let whole = ap (λ (xs : List ℕ). sum xs) (take_all (at + 32) text (omega (arith, c.loop-at.invariant.1))) in
          ap total w.sums-is ∙ omega (arith, w.added-sums-then-at-bytes.ensures, sum-more text at, whole, c.loop-at.invariant.2)
      | else-at-bytes w ↦
          let whole = ap (λ (xs : List ℕ). sum xs) (take_all at text (omega arith)) in
          ap total w.sums-is ∙ omega (arith, whole, c.loop-at.invariant.2)
    ]
