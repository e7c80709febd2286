use Rattle.std.proofs.Common.{ℕ, length, ap, refl, ◌∙◌, arith}
use Rattle.price_chunks.proofs.Flat.{order-chunk, put_chunk}
use Rattle.price_chunks.proofs.Enough.{length_with}
use Rattle.price_chunks.proofs.Changes.{all-chunk}
use Rattle.price_chunks.proofs.Come.{come_listed, come_within, come_room, come_rest, come_kept, come_flat, split_rest, split_chunks, split_flat}
use Rattle.price_chunks.proofs.side.put_by_search.Goals as goal
use Rattle.price_chunks.specs.Steps.{with_step}
use Rattle.price_chunks.specs.Inner.Chunks.{chunk_at}
use Rattle.price_chunks.specs.Inner.Pool.{chunks_at}

pub put-requires-clause-within : goal.put-requires-clause-within
put-requires-clause-within c = c.chunk_of-at.ensures.within

pub put-requires-clause-ordered : goal.put-requires-clause-ordered
put-requires-clause-ordered c = order-chunk c.args.side (chunks_at c.args.pool.now.sides c.args.side_at) c.chunk_of-at.result c.chunk_of-at.ensures.within c.requires.ordered

pub put-requires-clause-room : goal.put-requires-clause-room
put-requires-clause-room c = all-chunk (chunks_at c.args.pool.now.sides c.args.side_at) c.chunk_of-at.result c.requires.chunks.below

pub chunk-requires-clause-listed : goal.chunk-requires-clause-listed
chunk-requires-clause-listed c = come_listed c.args.pool.now c.args.side_at c.requires.listed c.requires.chunks c.chunk_of-at.result c.chunk_of-at.ensures.within (with_step c.args.side c.args.step (chunk_at (chunks_at c.args.pool.now.sides c.args.side_at) c.chunk_of-at.result)) (length_with c.args.side c.args.step (chunk_at (chunks_at c.args.pool.now.sides c.args.side_at) c.chunk_of-at.result)) c.put.new.self c.put.ensures

pub chunk-requires-clause-within : goal.chunk-requires-clause-within
chunk-requires-clause-within c = come_within c.args.pool.now c.args.side_at c.requires.listed c.requires.chunks c.chunk_of-at.result c.chunk_of-at.ensures.within (with_step c.args.side c.args.step (chunk_at (chunks_at c.args.pool.now.sides c.args.side_at) c.chunk_of-at.result)) (length_with c.args.side c.args.step (chunk_at (chunks_at c.args.pool.now.sides c.args.side_at) c.chunk_of-at.result)) c.put.new.self c.put.ensures

pub split-requires-clause-listed : goal.split-requires-clause-listed
split-requires-clause-listed c = come_listed c.args.pool.now c.args.side_at c.requires.listed c.requires.chunks c.chunk_of-at.result c.chunk_of-at.ensures.within (with_step c.args.side c.args.step (chunk_at (chunks_at c.args.pool.now.sides c.args.side_at) c.chunk_of-at.result)) (length_with c.args.side c.args.step (chunk_at (chunks_at c.args.pool.now.sides c.args.side_at) c.chunk_of-at.result)) c.put.new.self c.put.ensures

pub split-requires-clause-within : goal.split-requires-clause-within
split-requires-clause-within c = come_within c.args.pool.now c.args.side_at c.requires.listed c.requires.chunks c.chunk_of-at.result c.chunk_of-at.ensures.within (with_step c.args.side c.args.step (chunk_at (chunks_at c.args.pool.now.sides c.args.side_at) c.chunk_of-at.result)) (length_with c.args.side c.args.step (chunk_at (chunks_at c.args.pool.now.sides c.args.side_at) c.chunk_of-at.result)) c.put.new.self c.put.ensures

pub split-requires-clause-full : goal.split-requires-clause-full
split-requires-clause-full c = omega (arith, c.len.ensures, ap {B = ℕ} length c.chunk.ensures, c.if-len-eq-ROOM.true)

pub split-requires-clause-room : goal.split-requires-clause-room
split-requires-clause-room c = come_room c.args.pool.now c.args.side_at c.requires.listed c.requires.chunks c.chunk_of-at.result c.chunk_of-at.ensures.within (with_step c.args.side c.args.step (chunk_at (chunks_at c.args.pool.now.sides c.args.side_at) c.chunk_of-at.result)) (length_with c.args.side c.args.step (chunk_at (chunks_at c.args.pool.now.sides c.args.side_at) c.chunk_of-at.result)) c.put.new.self c.put.ensures c.requires.room

pub returns-else-len-eq-ROOM-clause-rest : goal.returns-else-len-eq-ROOM-clause-rest
returns-else-len-eq-ROOM-clause-rest c = come_rest c.args.pool.now c.args.side_at c.requires.listed c.requires.chunks c.chunk_of-at.result c.chunk_of-at.ensures.within (with_step c.args.side c.args.step (chunk_at (chunks_at c.args.pool.now.sides c.args.side_at) c.chunk_of-at.result)) (length_with c.args.side c.args.step (chunk_at (chunks_at c.args.pool.now.sides c.args.side_at) c.chunk_of-at.result)) c.put.new.self c.put.ensures

pub returns-else-len-eq-ROOM-clause-flat : goal.returns-else-len-eq-ROOM-clause-flat
returns-else-len-eq-ROOM-clause-flat c = come_flat c.args.pool.now c.args.side_at c.requires.listed c.requires.chunks c.chunk_of-at.result c.chunk_of-at.ensures.within (with_step c.args.side c.args.step (chunk_at (chunks_at c.args.pool.now.sides c.args.side_at) c.chunk_of-at.result)) (length_with c.args.side c.args.step (chunk_at (chunks_at c.args.pool.now.sides c.args.side_at) c.chunk_of-at.result)) c.put.new.self c.put.ensures c.args.side c.args.step (put_chunk c.args.side c.args.step.price (chunks_at c.args.pool.now.sides c.args.side_at) c.chunk_of-at.result c.chunk_of-at.ensures c.args.step refl)

pub returns-else-len-eq-ROOM-clause-chunks : goal.returns-else-len-eq-ROOM-clause-chunks
returns-else-len-eq-ROOM-clause-chunks c = come_kept c.args.pool.now c.args.side_at c.requires.listed c.requires.chunks c.chunk_of-at.result c.chunk_of-at.ensures.within (with_step c.args.side c.args.step (chunk_at (chunks_at c.args.pool.now.sides c.args.side_at) c.chunk_of-at.result)) (length_with c.args.side c.args.step (chunk_at (chunks_at c.args.pool.now.sides c.args.side_at) c.chunk_of-at.result)) c.put.new.self c.put.ensures c.len.result (c.len.ensures ∙ ap {B = ℕ} length c.chunk.ensures) c.if-len-eq-ROOM.false

pub returns-then-len-eq-ROOM-clause-rest : goal.returns-then-len-eq-ROOM-clause-rest
returns-then-len-eq-ROOM-clause-rest c = split_rest c.args.pool.now c.args.side_at c.requires.listed c.requires.chunks c.chunk_of-at.result c.chunk_of-at.ensures.within (with_step c.args.side c.args.step (chunk_at (chunks_at c.args.pool.now.sides c.args.side_at) c.chunk_of-at.result)) (length_with c.args.side c.args.step (chunk_at (chunks_at c.args.pool.now.sides c.args.side_at) c.chunk_of-at.result)) c.put.new.self c.put.ensures c.len.result (c.len.ensures ∙ ap {B = ℕ} length c.chunk.ensures) c.split.new.self c.split.ensures

pub returns-then-len-eq-ROOM-clause-flat : goal.returns-then-len-eq-ROOM-clause-flat
returns-then-len-eq-ROOM-clause-flat c = split_flat c.args.pool.now c.args.side_at c.requires.listed c.requires.chunks c.chunk_of-at.result c.chunk_of-at.ensures.within (with_step c.args.side c.args.step (chunk_at (chunks_at c.args.pool.now.sides c.args.side_at) c.chunk_of-at.result)) (length_with c.args.side c.args.step (chunk_at (chunks_at c.args.pool.now.sides c.args.side_at) c.chunk_of-at.result)) c.put.new.self c.put.ensures c.len.result (c.len.ensures ∙ ap {B = ℕ} length c.chunk.ensures) c.split.new.self c.split.ensures c.args.side c.args.step (put_chunk c.args.side c.args.step.price (chunks_at c.args.pool.now.sides c.args.side_at) c.chunk_of-at.result c.chunk_of-at.ensures c.args.step refl)

pub returns-then-len-eq-ROOM-clause-chunks : goal.returns-then-len-eq-ROOM-clause-chunks
returns-then-len-eq-ROOM-clause-chunks c = split_chunks c.args.pool.now c.args.side_at c.requires.listed c.requires.chunks c.chunk_of-at.result c.chunk_of-at.ensures.within (with_step c.args.side c.args.step (chunk_at (chunks_at c.args.pool.now.sides c.args.side_at) c.chunk_of-at.result)) (length_with c.args.side c.args.step (chunk_at (chunks_at c.args.pool.now.sides c.args.side_at) c.chunk_of-at.result)) c.put.new.self c.put.ensures c.len.result (c.len.ensures ∙ ap {B = ℕ} length c.chunk.ensures) c.split.new.self c.split.ensures c.if-len-eq-ROOM.true
