use Rattle.std.proofs.Common.{◌≡◌, ◌+◌, ◌-◌, ◌<◌, true, List, length, subst, arith}
use Rattle.price_chunks.specs.declared.place.Step.{Step}
use Rattle.price_chunks.proofs.Best.{all_worse}
use Rattle.price_chunks.specs.Steps.{step_at, is_worse_step}
use Rattle.price_chunks.specs.Inner.Pool.{chunks_at}
use Rattle.price_chunks.proofs.side.put_in.Goals as goal

pub put_best-requires-clause-worse : goal.put_best-requires-clause-worse
put_best-requires-clause-worse c =
    let chunks = (chunks_at c.args.pool.now.sides c.args.side_at) in
    let j = c.len.result - 1 in
    let m : j + 1 ≡ length chunks = omega (arith, c.requires.chunks.some, c.len.ensures) in
    let worse = subst (λ (l : List Step). 0 < length l → is_worse_step c.args.side c.args.step.price (step_at l (length l - 1)) ≡ true) c.chunk.ensures (c.is_all_worse.ensures c.if-is_all_worse.true) in
    all_worse c.args.side c.args.step.price chunks c.requires.chunks c.requires.ordered j m worse
