use Rattle.std.proofs.Common.{◌∙◌}
use Rattle.price_chunks.proofs.Flat.{order-chunk, take_chunk}
use Rattle.price_chunks.proofs.Enough.{length_without}
use Rattle.price_chunks.proofs.Gone.{gone_listed, gone_less, gone_rest, gone_flat}
use Rattle.price_chunks.specs.Steps.{without_step}
use Rattle.price_chunks.specs.Inner.Chunks.{chunk_at}
use Rattle.price_chunks.specs.Inner.Pool.{chunks_at}
use Rattle.price_chunks.proofs.side.take_by_search.Goals as goal

pub take_out-requires-clause-within : goal.take_out-requires-clause-within
take_out-requires-clause-within c = c.chunk_of-at.ensures.within

pub take_out-requires-clause-ordered : goal.take_out-requires-clause-ordered
take_out-requires-clause-ordered c = order-chunk c.args.side (chunks_at c.args.pool.now.sides c.args.side_at) c.chunk_of-at.result c.chunk_of-at.ensures.within c.requires.ordered

pub tidy-requires-clause-listed : goal.tidy-requires-clause-listed
tidy-requires-clause-listed c = gone_listed c.args.pool.now c.args.side_at c.requires.listed c.requires.chunks c.chunk_of-at.result c.chunk_of-at.ensures.within (without_step c.args.price (chunk_at (chunks_at c.args.pool.now.sides c.args.side_at) c.chunk_of-at.result)) c.take_out.new.self c.take_out.ensures.out

pub tidy-requires-clause-chunks : goal.tidy-requires-clause-chunks
tidy-requires-clause-chunks c = gone_less c.args.pool.now c.args.side_at c.requires.listed c.requires.chunks c.chunk_of-at.result c.chunk_of-at.ensures.within (without_step c.args.price (chunk_at (chunks_at c.args.pool.now.sides c.args.side_at) c.chunk_of-at.result)) c.take_out.new.self c.take_out.ensures.out c.take_out.ensures.less (length_without c.args.price (chunk_at (chunks_at c.args.pool.now.sides c.args.side_at) c.chunk_of-at.result))

pub returns-clause-rest : goal.returns-clause-rest
returns-clause-rest c = gone_rest c.args.pool.now c.args.side_at c.requires.listed c.requires.chunks c.chunk_of-at.result c.chunk_of-at.ensures.within (without_step c.args.price (chunk_at (chunks_at c.args.pool.now.sides c.args.side_at) c.chunk_of-at.result)) c.take_out.new.self c.take_out.ensures.out c.tidy.new.pool c.tidy.ensures.rest

pub returns-clause-flat : goal.returns-clause-flat
returns-clause-flat c = gone_flat c.args.pool.now c.args.side_at c.requires.listed c.requires.chunks c.chunk_of-at.result c.chunk_of-at.ensures.within (without_step c.args.price (chunk_at (chunks_at c.args.pool.now.sides c.args.side_at) c.chunk_of-at.result)) c.take_out.new.self c.take_out.ensures.out c.tidy.new.pool c.tidy.ensures.rest c.tidy.ensures.flat ∙ take_chunk c.args.side c.args.price (chunks_at c.args.pool.now.sides c.args.side_at) c.chunk_of-at.result c.chunk_of-at.ensures
