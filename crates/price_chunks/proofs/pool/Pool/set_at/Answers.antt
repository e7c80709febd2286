use Rattle.std.proofs.Common.{◌<◌, List, length, set, vec_capacity, subst, sym, ap, ◌∙◌, arith}
use Rattle.price_chunks.specs.declared.place.Step.{Step}
use Rattle.price_chunks.proofs.Held.{listed_in, within_in, in_chunks, chunk_is, chunk_set}
use Rattle.price_chunks.proofs.pool.Pool.set_at.Goals as goal
use Rattle.price_chunks.specs.Steps.{step_at}
use Rattle.price_chunks.specs.Inner.Chunks.{chunk_at}
use Rattle.price_chunks.specs.Inner.Pool.{rooms_of, chunks_at}

pub number_of-requires-clause-listed : goal.number_of-requires-clause-listed
number_of-requires-clause-listed c = listed_in c.self.inside.chunks.items (vec_capacity c.self.inside.chunks) c.self.inside.sides.items (rooms_of c.self.inside.sides.items) c.self.inside.free.items (vec_capacity c.self.inside.free) c.self.invariant.0 c.args.self.now c.self.view_is c.args.side_at c.requires.listed

pub number_of-requires-clause-within : goal.number_of-requires-clause-within
number_of-requires-clause-within c = within_in c.self.inside.chunks.items (vec_capacity c.self.inside.chunks) c.self.inside.sides.items (rooms_of c.self.inside.sides.items) c.self.inside.free.items (vec_capacity c.self.inside.free) c.self.invariant.0 c.args.self.now c.self.view_is c.args.side_at c.requires.listed c.args.at c.requires.within

pub index_mut-requires : goal.index_mut-requires
index_mut-requires c = omega (arith, in_chunks c.self.inside.chunks.items (vec_capacity c.self.inside.chunks) c.self.inside.sides.items (rooms_of c.self.inside.sides.items) c.self.inside.free.items (vec_capacity c.self.inside.free) c.self.invariant.0 c.args.self.now c.self.view_is c.args.side_at c.requires.listed c.args.at c.requires.within c.number_of.result c.number_of.ensures, c.self.inside.chunks.ok.0)

pub set_at-requires : goal.set_at-requires
set_at-requires c = subst (λ (l : List Step). c.args.place < length l) (sym (chunk_is c.self.inside.chunks.items (vec_capacity c.self.inside.chunks) c.self.inside.sides.items (rooms_of c.self.inside.sides.items) c.self.inside.free.items (vec_capacity c.self.inside.free) c.self.invariant.0 c.args.self.now c.self.view_is c.args.side_at c.requires.listed c.args.at c.requires.within c.number_of.result c.number_of.ensures c.index_mut.result.now c.index_mut.ensures.value)) c.requires.here

pub returns : goal.returns
returns c =
    let is = chunk_is c.self.inside.chunks.items (vec_capacity c.self.inside.chunks) c.self.inside.sides.items (rooms_of c.self.inside.sides.items) c.self.inside.free.items (vec_capacity c.self.inside.free) c.self.invariant.0 c.args.self.now c.self.view_is c.args.side_at c.requires.listed c.args.at c.requires.within c.number_of.result c.number_of.ensures c.index_mut.result.now c.index_mut.ensures.value in
    chunk_set c.self.inside.chunks.items (vec_capacity c.self.inside.chunks) c.self.inside.sides.items (rooms_of c.self.inside.sides.items) c.self.inside.free.items (vec_capacity c.self.inside.free) c.self.invariant.0 c.args.self.now c.self.view_is c.args.side_at c.requires.listed c.args.at c.requires.within c.number_of.result c.number_of.ensures c.set_at.new.self (set (chunk_at (chunks_at c.args.self.now.sides c.args.side_at) c.args.at) c.args.place (record (step_at (chunk_at (chunks_at c.args.self.now.sides c.args.side_at) c.args.at) c.args.place) { leaves = c.args.leaves })) (c.set_at.ensures ∙ ap (λ (l : List Step). set l c.args.place (record (step_at l c.args.place) { leaves = c.args.leaves })) is)
