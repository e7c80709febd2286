use Rattle.std.proofs.Common.{◌≡◌, ℕ, ◌-◌, ◌<◌, true, List, length, Some, subst, sym, ap, ◌∙◌, arith}
use Rattle.price_chunks.specs.declared.place.Step.{Step}
use Rattle.price_chunks.proofs.Best.{queue_level, queue_none}
use Rattle.price_chunks.proofs.side.queue_at.Goals as goal
use Rattle.price_chunks.specs.Steps.{step_at, is_worse_step}
use Rattle.price_chunks.specs.Inner.Chunks.{IsAt, chunk_at}
use Rattle.price_chunks.specs.Inner.Pool.{chunks_at}

pub returns-then-is_best : goal.returns-then-is_best
returns-then-is_best c =
    let chunks = chunks_at c.args.pool.now.sides c.args.side_at in
    let j = c.len-last.result - 1 in
    let n = c.len-last.ensures in
    let some = c.requires.chunks.some in
    let lt : j < length chunks = omega arith in
    let e = c.chunk.ensures in
    let f = c.chunk-then-is_best.ensures in
    let best = subst (λ (l : List Step). IsAt c.args.price l (length l - 1)) e (c.is_best.ensures c.if-is_best.true) in
    ap (λ (n : ℕ). Some n) (c.best_queue.ensures ∙ ap (λ (l : List Step). (step_at l (length l - 1)).queue) f)
    ∙ sym (queue_level c.args.side c.args.price chunks c.requires.ordered j (length (chunk_at chunks j) - 1) (record { within = lt; here = best }))

pub returns-then-is_all_worse : goal.returns-then-is_all_worse
returns-then-is_all_worse c =
    let chunks = chunks_at c.args.pool.now.sides c.args.side_at in
    let j = c.len-last.result - 1 in
    let n = c.len-last.ensures in
    let some = c.requires.chunks.some in
    let e = c.chunk-2.ensures in
    let worse = subst (λ (l : List Step). 0 < length l → is_worse_step c.args.side c.args.price (step_at l (length l - 1)) ≡ true) e (c.is_all_worse.ensures c.if-is_all_worse.true) in
    sym (queue_none c.args.side c.args.price chunks c.requires.chunks c.requires.ordered j (omega arith) worse)
