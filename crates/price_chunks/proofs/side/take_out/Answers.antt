use Rattle.std.proofs.Common.{List, set, ap, ◌∙◌, arith}
use Rattle.std.specs.List.{remove}
use Rattle.std.proofs.lemmas.List.Edits.{length-remove}
use Rattle.price_chunks.specs.declared.place.Step.{Step}
use Rattle.price_chunks.proofs.Best.{level_chunk, level_out}
use Rattle.price_chunks.proofs.Flat.{order-chunk, take_chunk}
use Rattle.price_chunks.proofs.Gone.{gone_listed, gone_less, gone_rest, gone_flat}
use Rattle.price_chunks.specs.Inner.Chunks.{flat, chunk_at}
use Rattle.price_chunks.specs.Inner.Pool.{chunks_at}
use Rattle.price_chunks.proofs.side.take_out.Goals as goal

pub take_at-requires-clause-within : goal.take_at-requires-clause-within
take_at-requires-clause-within c =
    let at = c.is_at.ensures c.if-is_at.true in
    at.within

pub take_at-requires-clause-here : goal.take_at-requires-clause-here
take_at-requires-clause-here c =
    let at = c.is_at.ensures c.if-is_at.true in
    at.here.within

pub tidy-requires-clause-listed : goal.tidy-requires-clause-listed
tidy-requires-clause-listed c =
    let at = c.is_at.ensures c.if-is_at.true in
    gone_listed c.args.pool.now c.args.side_at c.requires.listed c.requires.chunks c.args.spot.chunk (at.within) (remove (chunk_at (chunks_at c.args.pool.now.sides c.args.side_at) c.args.spot.chunk) c.args.spot.place) c.take_at.new.self c.take_at.ensures

pub tidy-requires-clause-chunks : goal.tidy-requires-clause-chunks
tidy-requires-clause-chunks c =
    let at = c.is_at.ensures c.if-is_at.true in
    let n = length-remove (chunk_at (chunks_at c.args.pool.now.sides c.args.side_at) c.args.spot.chunk) c.args.spot.place at.here.within in
    gone_less c.args.pool.now c.args.side_at c.requires.listed c.requires.chunks c.args.spot.chunk (at.within) (remove (chunk_at (chunks_at c.args.pool.now.sides c.args.side_at) c.args.spot.chunk) c.args.spot.place) c.take_at.new.self c.take_at.ensures (omega arith) (omega arith)

pub returns-then-is_at-clause-rest : goal.returns-then-is_at-clause-rest
returns-then-is_at-clause-rest c =
    let at = c.is_at.ensures c.if-is_at.true in
    gone_rest c.args.pool.now c.args.side_at c.requires.listed c.requires.chunks c.args.spot.chunk (at.within) (remove (chunk_at (chunks_at c.args.pool.now.sides c.args.side_at) c.args.spot.chunk) c.args.spot.place) c.take_at.new.self c.take_at.ensures c.tidy.new.pool c.tidy.ensures.rest

pub returns-then-is_at-clause-flat : goal.returns-then-is_at-clause-flat
returns-then-is_at-clause-flat c =
    let at = c.is_at.ensures c.if-is_at.true in
    gone_flat c.args.pool.now c.args.side_at c.requires.listed c.requires.chunks c.args.spot.chunk (at.within) (remove (chunk_at (chunks_at c.args.pool.now.sides c.args.side_at) c.args.spot.chunk) c.args.spot.place) c.take_at.new.self c.take_at.ensures c.tidy.new.pool c.tidy.ensures.rest c.tidy.ensures.flat
    ∙ ap (λ (l : List Step). flat (set (chunks_at c.args.pool.now.sides c.args.side_at) c.args.spot.chunk l)) (level_out c.args.side c.args.price (chunk_at (chunks_at c.args.pool.now.sides c.args.side_at) c.args.spot.chunk) (order-chunk c.args.side (chunks_at c.args.pool.now.sides c.args.side_at) c.args.spot.chunk at.within c.requires.ordered) c.args.spot.place at.here)
    ∙ take_chunk c.args.side c.args.price (chunks_at c.args.pool.now.sides c.args.side_at) c.args.spot.chunk (level_chunk c.args.side c.args.price (chunks_at c.args.pool.now.sides c.args.side_at) c.requires.ordered c.args.spot.chunk c.args.spot.place at)
