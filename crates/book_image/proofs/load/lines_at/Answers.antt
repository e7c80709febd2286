use Rattle.std.proofs.Common.{◌≡◌, ℕ, ◌++◌, ◌∷◌, [], List, drop, set, replicate, sym, ap, ◌∙◌, arith}
use Rattle.std.proofs.lemmas.List.{length-replicate}
use Rattle.book_image.specs.Reading.{numbers_at}
use Rattle.book_image.proofs.LoadParts.{next-set, all-set, numbers-length, numbers-last}
use Rattle.book_image.proofs.load.lines_at.Goals as goal

pub loop-k-preserved : goal.loop-k-preserved
loop-k-preserved c =
    let p = c.args.payload.now in
    let k = c.loop-k.k in
    let v = c.number_at.result in
    let all : List ℕ = replicate 65 0 in
    ap (λ (l : List ℕ). set l k v) c.loop-k.invariant
    ∙ next-set (numbers_at p 32) all k v 0 (numbers-length p 32 k) (omega (arith, length-replicate {A = ℕ} 65 0, c.loop-k-test.true))
    (numbers-last p 32 k ∙ ap (λ (n : ℕ). numbers_at p 32 k ++ n ∷ []) (sym c.number_at.ensures))

pub returns : goal.returns
returns c =
    let p = c.args.payload.now in
    let all : List ℕ = replicate 65 0 in
    let e : c.loop-k.k ≡ 65 = omega (arith, c.loop-k-test.false, c.loop-k.auto.k-end) in
    c.loop-k.invariant
    ∙ ap (λ (k : ℕ). numbers_at p 32 k ++ drop k all) e
    ∙ all-set (numbers_at p 32 65) all 65 (omega (arith, length-replicate {A = ℕ} 65 0))
