use Rattle.std.proofs.Common.{◌≡◌, ℕ, ◌+◌, ◌-◌, drop, ap, ◌∙◌, arith}
use lib.Seq.{paste}
use Rattle.std.proofs.lemmas.List.Edits.{paste_none}
use Rattle.price_chunks.proofs.chunk.close_gap.Goals as goal

pub returns-else-place-count : goal.returns-else-place-count
returns-else-place-count c =
    let xs = c.args.steps.now in
    let p = c.args.place in
    let none : 0 ≡ c.args.count - (p + 1) = omega (arith, c.if-place-count.false) in
    paste_none xs p (drop (p + 1) xs) ∙ ap (λ (n : ℕ). paste xs p (drop (p + 1) xs) n) none
