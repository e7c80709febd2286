use Rattle.std.proofs.Common.{sym, ap, ◌∙◌}
use Rattle.price_chunks.proofs.Better.{worst_first}
use Rattle.price_chunks.proofs.side.worst_price.Goals as goal
use Rattle.price_chunks.specs.Steps.{price_of_first}
use Rattle.price_chunks.specs.Inner.Pool.{chunks_at}

pub returns : goal.returns
returns c =
    let chunks = chunks_at c.args.pool.now.sides c.args.side_at in
    let e = c.chunk.ensures in
    c.worst_price.ensures ∙ ap price_of_first (c.steps.ensures ∙ e) ∙ sym (worst_first chunks c.requires.chunks)
