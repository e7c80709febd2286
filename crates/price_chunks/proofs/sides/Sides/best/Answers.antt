use Rattle.std.proofs.Common.{vec_capacity, arith}
use Rattle.price_chunks.proofs.Prices.{kept_here, seen_best}
use Rattle.price_chunks.proofs.sides.Sides.best.Goals as goal

pub index-requires : goal.index-requires
index-requires c = omega (arith, c.self.inside.best.ok.0, kept_here c.self.inside.capacity c.self.inside.pool c.args.self.now c.self.view_is c.self.inside.best.items (vec_capacity c.self.inside.best) c.self.invariant.1 c.args.at c.requires)

pub returns : goal.returns
returns c = seen_best c.self.inside.capacity c.self.inside.pool c.args.self.now c.self.view_is c.self.inside.best.items (vec_capacity c.self.inside.best) c.self.invariant.1 c.args.at c.requires c.index.result.now c.index.ensures
