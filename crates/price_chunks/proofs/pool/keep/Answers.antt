use Rattle.std.proofs.Common.{arith}
use Rattle.price_chunks.proofs.Apart.{in_free, taken_free}
use Rattle.price_chunks.proofs.pool.keep.Goals as goal

pub index_mut-requires : goal.index_mut-requires
index_mut-requires c = omega (arith, in_free c.args.chunks.now.items c.args.free.now.items c.requires.below c.pop.new.self.items c.in-Some.number c.in-Some.ensures.items, c.args.chunks.now.ok.0)

pub returns-in-Some-clause-taken : goal.returns-in-Some-clause-taken
returns-in-Some-clause-taken c = taken_free c.args.chunks.now.items c.args.free.now.items c.requires.below c.pop.new.self.items c.in-Some.number c.in-Some.ensures.items c.args.chunk
