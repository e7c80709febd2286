use Rattle.std.proofs.Common.{ℕ, List, length, set, ap, ◌∙◌}
use Rattle.std.proofs.lemmas.List.{length-map}
use Rattle.price_chunks.specs.declared.place.Step.{Step}
use Rattle.price_chunks.proofs.Best.{level_chunk, level_open}
use Rattle.price_chunks.proofs.Flat.{order-chunk, lots_chunk}
use Rattle.price_chunks.proofs.Gone.{gone_seen, same_rest, same_chunks}
use Rattle.price_chunks.specs.Steps.{step_at, opened}
use Rattle.price_chunks.specs.Inner.Chunks.{flat, chunk_at}
use Rattle.price_chunks.specs.Inner.Pool.{chunks_at}
use Rattle.price_chunks.proofs.side.set_lots.Goals as goal

pub set_at-requires-clause-within : goal.set_at-requires-clause-within
set_at-requires-clause-within c =
    let at = c.is_at.ensures c.if-is_at.true in
    at.within

pub set_at-requires-clause-here : goal.set_at-requires-clause-here
set_at-requires-clause-here c =
    let at = c.is_at.ensures c.if-is_at.true in
    at.here.within

pub returns-then-is_at-clause-rest : goal.returns-then-is_at-clause-rest
returns-then-is_at-clause-rest c =
    let at = c.is_at.ensures c.if-is_at.true in
    same_rest c.args.pool.now c.args.side_at c.requires.listed c.requires.chunks c.args.spot.chunk (at.within) (set (chunk_at (chunks_at c.args.pool.now.sides c.args.side_at) c.args.spot.chunk) c.args.spot.place (record (step_at (chunk_at (chunks_at c.args.pool.now.sides c.args.side_at) c.args.spot.chunk) c.args.spot.place) { leaves = c.args.leaves })) c.set_at.new.self c.set_at.ensures

pub returns-then-is_at-clause-flat : goal.returns-then-is_at-clause-flat
returns-then-is_at-clause-flat c =
    let at = c.is_at.ensures c.if-is_at.true in
    ap flat (gone_seen c.args.pool.now c.args.side_at c.requires.listed c.requires.chunks c.args.spot.chunk (at.within) (set (chunk_at (chunks_at c.args.pool.now.sides c.args.side_at) c.args.spot.chunk) c.args.spot.place (record (step_at (chunk_at (chunks_at c.args.pool.now.sides c.args.side_at) c.args.spot.chunk) c.args.spot.place) { leaves = c.args.leaves })) c.set_at.new.self c.set_at.ensures)
    ∙ ap (λ (l : List Step). flat (set (chunks_at c.args.pool.now.sides c.args.side_at) c.args.spot.chunk l)) (level_open c.args.side c.args.price (chunk_at (chunks_at c.args.pool.now.sides c.args.side_at) c.args.spot.chunk) (order-chunk c.args.side (chunks_at c.args.pool.now.sides c.args.side_at) c.args.spot.chunk at.within c.requires.ordered) c.args.spot.place at.here c.args.leaves)
    ∙ lots_chunk c.args.side c.args.price (chunks_at c.args.pool.now.sides c.args.side_at) c.args.spot.chunk c.args.leaves (level_chunk c.args.side c.args.price (chunks_at c.args.pool.now.sides c.args.side_at) c.requires.ordered c.args.spot.chunk c.args.spot.place at)

pub returns-then-is_at-clause-chunks : goal.returns-then-is_at-clause-chunks
returns-then-is_at-clause-chunks c =
    let at = c.is_at.ensures c.if-is_at.true in
    same_chunks c.args.pool.now c.args.side_at c.requires.listed c.requires.chunks c.args.spot.chunk (at.within) (set (chunk_at (chunks_at c.args.pool.now.sides c.args.side_at) c.args.spot.chunk) c.args.spot.place (record (step_at (chunk_at (chunks_at c.args.pool.now.sides c.args.side_at) c.args.spot.chunk) c.args.spot.place) { leaves = c.args.leaves })) c.set_at.new.self c.set_at.ensures (ap {B = ℕ} length (level_open c.args.side c.args.price (chunk_at (chunks_at c.args.pool.now.sides c.args.side_at) c.args.spot.chunk) (order-chunk c.args.side (chunks_at c.args.pool.now.sides c.args.side_at) c.args.spot.chunk at.within c.requires.ordered) c.args.spot.place at.here c.args.leaves) ∙ length-map (chunk_at (chunks_at c.args.pool.now.sides c.args.side_at) c.args.spot.chunk) (opened c.args.price c.args.leaves))
