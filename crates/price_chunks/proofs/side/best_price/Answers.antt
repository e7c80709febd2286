use Rattle.std.proofs.Common.{◌-◌, sym, ap, ◌∙◌, arith}
use Rattle.price_chunks.proofs.Asked.{best_last}
use Rattle.price_chunks.proofs.side.best_price.Goals as goal
use Rattle.price_chunks.specs.Steps.{price_of_last}
use Rattle.price_chunks.specs.Inner.Pool.{chunks_at}

pub returns : goal.returns
returns c =
    let chunks = chunks_at c.args.pool.now.sides c.args.side_at in
    let j = c.len.result - 1 in
    let n = c.len.ensures in
    let some = c.requires.chunks.some in
    let e = c.chunk.ensures in
    c.best_price.ensures ∙ ap price_of_last (c.steps.ensures ∙ e) ∙ sym (best_last chunks j c.requires.chunks (omega arith))
