use Rattle.std.proofs.Common.{◌≡◌, ◌+◌, ◌<◌, ◌^◌, ℕ, List, [], ◌++◌, length, take, drop, subst, sym, ap, ◌∙◌, arith, add-one}
use Prim.Native.Nat.{suc}
use Rattle.std.proofs.lemmas.List.{drop_more}
use Rattle.std.proofs.lemmas.List.Sums.{sum_by-append}
use Rattle.std.specs.List.{filter}
use Rattle.price_chunks.specs.declared.place.Step.{Step}
use Rattle.price_chunks.proofs.Steps.{open_fits}
use Rattle.price_chunks.proofs.Flat.{flat-at, order-chunk, open_chunk}
use Rattle.price_chunks.proofs.side.open_lots.Goals as goal
use Rattle.price_chunks.specs.Steps.{AreWorstFirst, is_open_step, open_at}
use Rattle.price_chunks.specs.Inner.Chunks.{flat, chunk_at}
use Rattle.price_chunks.specs.Inner.Pool.{chunks_at}

pub open_lots-total-requires-clause-ordered : goal.open_lots-total-requires-clause-ordered
open_lots-total-requires-clause-ordered c =
    let chunks = chunks_at c.args.pool.now.sides c.args.side_at in
    let j = c.chunk_of-at.result in
    let e = c.steps.ensures ∙ c.chunk.ensures in
    subst (AreWorstFirst c.args.side) (sym e) (order-chunk c.args.side chunks j c.chunk_of-at.ensures.within c.requires.ordered)

-- a chunk has no more than all
chunk_fits : (chunks : List (List Step)) (j : ℕ) → j < length chunks → open_at (flat chunks) < 2 ^ 63 → open_at (chunk_at chunks j) < 2 ^ 63
chunk_fits chunks j lt h =
    let f : Step → ℕ = λ s. s.leaves in
    let a = ap {B = ℕ} open_at (flat-at chunks j lt) in
    omega (arith, sum_by-append f (flat (take j chunks)) (chunk_at chunks j ++ flat (drop (suc j) chunks)), sum_by-append f (chunk_at chunks j) (flat (drop (suc j) chunks)))

pub open_lots-total-requires-clause-fits : goal.open_lots-total-requires-clause-fits
open_lots-total-requires-clause-fits c =
    let chunks = chunks_at c.args.pool.now.sides c.args.side_at in
    let j = c.chunk_of-at.result in
    let e = c.steps.ensures ∙ c.chunk.ensures in
    subst (λ (l : List Step). open_at l < 2 ^ 63) (sym e) (chunk_fits chunks j c.chunk_of-at.ensures.within c.requires.fits)

pub loop-i-init : goal.loop-i-init
loop-i-init c =
    let chunks = chunks_at c.args.pool.now.sides c.args.side_at in
    let j = c.chunk_of-at.result in
    let q = is_open_step c.args.side c.args.limit in
    let e = c.steps.ensures ∙ c.chunk.ensures in
    let a : c.open_lots-total.result ≡ open_at (filter q (chunk_at chunks j)) = c.open_lots-total.ensures ∙ ap (λ (l : List Step). open_at (filter q l)) e in
    let b = ap {B = ℕ} open_at (open_chunk c.args.side c.args.limit chunks j c.chunk_of-at.ensures) in
    let s = sum_by-append (λ (s : Step). s.leaves) (filter q (chunk_at chunks j)) (flat (drop (suc j) chunks)) in
    let k : c.open_lots-total.result + open_at (flat (drop (suc j) chunks)) ≡ open_at (filter q (flat chunks)) = omega arith in
    subst (λ (n : ℕ). c.open_lots-total.result + open_at (flat (drop n chunks)) ≡ open_at (filter q (flat chunks))) (sym (add-one j)) k

pub lots-total-requires : goal.lots-total-requires
lots-total-requires c =
    let chunks = chunks_at c.args.pool.now.sides c.args.side_at in
    let e = c.chunk-in-loop-i.ensures in
    let f = chunk_fits chunks c.loop-i.i (omega (arith, c.loop-i-test.true, c.len-count.ensures)) c.requires.fits in
    subst (λ (l : List Step). open_at l < 2 ^ 64) (sym e) (omega arith)

-- what is still to come
next_open : (chunks : List (List Step)) (i : ℕ) → i < length chunks → open_at (flat (drop i chunks)) ≡ open_at (chunk_at chunks i) + open_at (flat (drop (i + 1) chunks))
next_open chunks i lt = ap (λ (l : List (List Step)). open_at (flat l)) (drop_more chunks i [] lt) ∙ sum_by-append (λ (s : Step). s.leaves) (chunk_at chunks i) (flat (drop (i + 1) chunks))

pub overflow_add-total : goal.overflow_add-total
overflow_add-total c =
    let chunks = chunks_at c.args.pool.now.sides c.args.side_at in
    let i = c.loop-i.i in
    let v : c.loop-i.total + open_at (flat (drop i chunks)) ≡ open_at (filter (is_open_step c.args.side c.args.limit) (flat chunks)) = c.loop-i.invariant in
    let n = next_open chunks i (omega (arith, c.loop-i-test.true, c.len-count.ensures)) in
    let e : c.lots-total.result ≡ open_at (chunk_at chunks i) = c.lots-total.ensures ∙ ap open_at (c.chunk-in-loop-i.ensures) in
    let all = open_fits c.args.side c.args.limit (λ (s : Step). s.leaves) (flat chunks) in
    let fits = c.requires.fits in
    omega arith
