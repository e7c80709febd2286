use Rattle.std.proofs.Common.{vec_capacity, arith}
use Rattle.price_chunks.proofs.Held.{listed_in, within_in, in_chunks, chunk_is}
use Rattle.price_chunks.proofs.pool.Pool.chunk.Goals as goal
use Rattle.price_chunks.specs.Inner.Pool.{rooms_of}

pub number_of-requires-clause-listed : goal.number_of-requires-clause-listed
number_of-requires-clause-listed c = listed_in c.self.inside.chunks.items (vec_capacity c.self.inside.chunks) c.self.inside.sides.items (rooms_of c.self.inside.sides.items) c.self.inside.free.items (vec_capacity c.self.inside.free) c.self.invariant.0 c.args.self.now c.self.view_is c.args.side_at c.requires.listed

pub number_of-requires-clause-within : goal.number_of-requires-clause-within
number_of-requires-clause-within c = within_in c.self.inside.chunks.items (vec_capacity c.self.inside.chunks) c.self.inside.sides.items (rooms_of c.self.inside.sides.items) c.self.inside.free.items (vec_capacity c.self.inside.free) c.self.invariant.0 c.args.self.now c.self.view_is c.args.side_at c.requires.listed c.args.at c.requires.within

pub index-requires : goal.index-requires
index-requires c = omega (arith, in_chunks c.self.inside.chunks.items (vec_capacity c.self.inside.chunks) c.self.inside.sides.items (rooms_of c.self.inside.sides.items) c.self.inside.free.items (vec_capacity c.self.inside.free) c.self.invariant.0 c.args.self.now c.self.view_is c.args.side_at c.requires.listed c.args.at c.requires.within c.number_of.result c.number_of.ensures, c.self.inside.chunks.ok.0)

pub returns : goal.returns
returns c = chunk_is c.self.inside.chunks.items (vec_capacity c.self.inside.chunks) c.self.inside.sides.items (rooms_of c.self.inside.sides.items) c.self.inside.free.items (vec_capacity c.self.inside.free) c.self.invariant.0 c.args.self.now c.self.view_is c.args.side_at c.requires.listed c.args.at c.requires.within c.number_of.result c.number_of.ensures c.index.result.now c.index.ensures
