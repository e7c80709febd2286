use Rattle.std.proofs.Common.{ap, ◌∙◌}
use Rattle.std.proofs.lemmas.List.{length-map}
use Rattle.price_chunks.proofs.Flat.{order-chunk, lots_chunk}
use Rattle.price_chunks.proofs.Gone.{gone_seen, same_rest, same_chunks}
use Rattle.price_chunks.specs.Steps.{with_open, opened}
use Rattle.price_chunks.specs.Inner.Chunks.{flat, chunk_at}
use Rattle.price_chunks.specs.Inner.Pool.{chunks_at}
use Rattle.price_chunks.proofs.side.set_by_search.Goals as goal

pub set_lots-requires-clause-within : goal.set_lots-requires-clause-within
set_lots-requires-clause-within c = c.chunk_of-at.ensures.within

pub set_lots-requires-clause-ordered : goal.set_lots-requires-clause-ordered
set_lots-requires-clause-ordered c = order-chunk c.args.side (chunks_at c.args.pool.now.sides c.args.side_at) c.chunk_of-at.result c.chunk_of-at.ensures.within c.requires.ordered

pub returns-clause-rest : goal.returns-clause-rest
returns-clause-rest c = same_rest c.args.pool.now c.args.side_at c.requires.listed c.requires.chunks c.chunk_of-at.result c.chunk_of-at.ensures.within (with_open c.args.price c.args.leaves (chunk_at (chunks_at c.args.pool.now.sides c.args.side_at) c.chunk_of-at.result)) c.set_lots.new.self c.set_lots.ensures

pub returns-clause-flat : goal.returns-clause-flat
returns-clause-flat c = ap flat (gone_seen c.args.pool.now c.args.side_at c.requires.listed c.requires.chunks c.chunk_of-at.result c.chunk_of-at.ensures.within (with_open c.args.price c.args.leaves (chunk_at (chunks_at c.args.pool.now.sides c.args.side_at) c.chunk_of-at.result)) c.set_lots.new.self c.set_lots.ensures) ∙ lots_chunk c.args.side c.args.price (chunks_at c.args.pool.now.sides c.args.side_at) c.chunk_of-at.result c.args.leaves c.chunk_of-at.ensures

pub returns-clause-chunks : goal.returns-clause-chunks
returns-clause-chunks c = same_chunks c.args.pool.now c.args.side_at c.requires.listed c.requires.chunks c.chunk_of-at.result c.chunk_of-at.ensures.within (with_open c.args.price c.args.leaves (chunk_at (chunks_at c.args.pool.now.sides c.args.side_at) c.chunk_of-at.result)) c.set_lots.new.self c.set_lots.ensures (length-map (chunk_at (chunks_at c.args.pool.now.sides c.args.side_at) c.chunk_of-at.result) (opened c.args.price c.args.leaves))
