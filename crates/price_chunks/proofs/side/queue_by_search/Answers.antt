use Rattle.std.proofs.Common.{subst, sym, ap, ◌∙◌}
use Rattle.std.specs.List.{filter}
use Rattle.price_chunks.proofs.Flat.{order-chunk, at_chunk}
use Rattle.price_chunks.proofs.side.queue_by_search.Goals as goal
use Rattle.price_chunks.specs.Steps.{AreWorstFirst, is_step_at, queue_of_last}
use Rattle.price_chunks.specs.Inner.Pool.{chunks_at}

pub queue_at-requires : goal.queue_at-requires
queue_at-requires c =
    let chunks = chunks_at c.args.pool.now.sides c.args.side_at in
    let j = c.chunk_of.result in
    let e = c.steps.ensures ∙ c.chunk.ensures in
    subst (AreWorstFirst c.args.side) (sym e) (order-chunk c.args.side chunks j c.chunk_of.ensures.within c.requires.ordered)

pub returns : goal.returns
returns c =
    let chunks = chunks_at c.args.pool.now.sides c.args.side_at in
    let j = c.chunk_of.result in
    let e = c.steps.ensures ∙ c.chunk.ensures in
    c.queue_at.ensures ∙ ap queue_of_last (ap (filter (is_step_at c.args.price)) e ∙ sym (at_chunk c.args.side c.args.price chunks j c.chunk_of.ensures))
