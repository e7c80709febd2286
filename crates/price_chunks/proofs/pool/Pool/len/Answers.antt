use Rattle.std.proofs.Common.{ℕ, length, vec_capacity, ap, arith}
use Rattle.price_chunks.proofs.Held.{row_is, long_row}
use Rattle.price_chunks.proofs.pool.Pool.len.Goals as goal
use Rattle.price_chunks.specs.Inner.Pool.{rooms_of}

pub returns : goal.returns
returns c =
    let row = ap {B = ℕ} length (row_is c.self.inside.chunks.items (vec_capacity c.self.inside.chunks) c.self.inside.sides.items (rooms_of c.self.inside.sides.items) c.self.inside.free.items (vec_capacity c.self.inside.free) c.self.invariant.0 c.args.self.now c.self.view_is c.args.side_at c.requires c.index.result.now c.index.ensures) in
    let long = long_row c.self.inside.chunks.items (vec_capacity c.self.inside.chunks) c.self.inside.sides.items (rooms_of c.self.inside.sides.items) c.self.inside.free.items (vec_capacity c.self.inside.free) c.self.invariant.0 c.args.self.now c.self.view_is c.args.side_at c.requires in
    omega (arith, c.len.ensures, c.index.result.now.ok.0)
