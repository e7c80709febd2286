use Rattle.std.proofs.Common.{◌≡◌, ℕ, zero, suc, ◌+◌, ◌-◌, ◌*◌, ◌/◌, ◌%◌, ◌≤◌, List, ◌++◌, length, take, replicate, fold, sum, refl, sym, ◌∙◌, ap, arith}
use Rattle.std.proofs.lemmas.List.{length-take-le, take-take, take-replicate, take_at}
use Rattle.std.proofs.lemmas.List.Sums.{fold-append}
use Rattle.gx_base.specs.Frames.{checksum_of}
use Rattle.line_parts.specs.declared.sum.TheConstants.{BLOCK}
use Rattle.gx_base.proofs.Written.{front_of}
use Rattle.line_parts.proofs.fields.checksum_before.Goals as goal

-- zeros add nothing
fold_zeros : (k n : ℕ) → fold ◌+◌ n (replicate k 0) ≡ n
fold_zeros zero n = refl
fold_zeros (suc k) n = let same : n + 0 ≡ n = omega arith in fold_zeros k (n + 0) ∙ same

sum_then_zeros : (xs : List ℕ) (k : ℕ) → sum (xs ++ replicate k 0) ≡ sum xs
sum_then_zeros xs k = fold-append ◌+◌ 0 xs (replicate k 0) ∙ fold_zeros k (sum xs)

-- the first bytes and some of the zeros after them
summed : (end whole : ℕ) (old new : List ℕ) → end ≤ length old → end ≤ whole → whole ≤ end + BLOCK → take (end + BLOCK) new ≡ take end old ++ replicate BLOCK 0 → checksum_of (take whole new) ≡ checksum_of (take end old)
summed end whole old new fits from to is =
    let k : ℕ = whole - end in
    let same : whole ≡ end + k = omega arith in
    ap (λ n. checksum_of (take n new)) same
    ∙ ap checksum_of (front_of end k (end + BLOCK) old new (replicate BLOCK 0) fits (omega arith) is)
    ∙ ap (λ (l : List ℕ). checksum_of (take end old ++ l)) (take-replicate k BLOCK 0 (omega arith))
    ∙ ap (λ n. n % 256) (sum_then_zeros (take end old) k)

-- the first bytes stay
kept : (end : ℕ) (old new : List ℕ) → end ≤ length old → take (end + BLOCK) new ≡ take end old ++ replicate BLOCK 0 → take end new ≡ take end old
kept end old new fits is =
    sym (take-take end (end + BLOCK) new (omega arith))
    ∙ ap (take end) is
    ∙ take_at (take end old) (replicate BLOCK 0) end (length-take-le end old fits)

pub returns-clause-sum : goal.returns-clause-sum
returns-clause-sum c =
    let end = c.args.end in
    let new = c.append_few.new.into in
    c.checksum_of_blocks.ensures
    ∙ summed end ((end + BLOCK - 1) / BLOCK * BLOCK) c.args.into.now new (omega arith) (omega arith) (omega arith) (ap (λ n. take n new) (sym c.append_few.ensures.end) ∙ c.append_few.ensures.bytes)

pub returns-clause-before : goal.returns-clause-before
returns-clause-before c =
    let new = c.append_few.new.into in
    kept c.args.end c.args.into.now new (omega arith) (ap (λ n. take n new) (sym c.append_few.ensures.end) ∙ c.append_few.ensures.bytes)
