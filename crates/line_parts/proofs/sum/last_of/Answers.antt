use Rattle.std.proofs.Common.{◌≡◌, ℕ, ◌-◌, Bool, List, drop, map, replicate, sum, subst, ap, ◌∙◌, refl, arith, w8}
use Rattle.std.proofs.Math.Dec.{leb}
use Rattle.std.proofs.lemmas.Simd.{tops_compared, zip2_splat}
use Rattle.std.specs.List.{range_with_len}
use Rattle.std.specs.Simd.Lanes.{sel_l}
use Rattle.line_parts.proofs.Sums.{sum-kept}
use Rattle.line_parts.proofs.sum.last_of.Goals as goal

pub returns : goal.returns
returns c =
    let block = c.args.block in
    let skip = 32 - c.args.count in
    let same : skip - 0 ≡ skip = omega arith in
    let places = range_with_len 0 32 in
    let marks = tops_compared w8 (λ a b. leb b a) places (replicate 32 skip) ∙ zip2_splat (λ a b. leb b a) places 32 skip refl in
    ap (λ (ms : List Bool). sum (sel_l ms block (replicate 32 0))) marks
    ∙ subst (λ (n : ℕ). sum (sel_l (map (λ k. leb skip k) (range_with_len 0 n)) block (replicate n 0)) ≡ sum (drop (skip - 0) block)) c.fits-block.0 (sum-kept skip 0 block)
    ∙ ap (λ (k : ℕ). sum (drop k block)) same
