use Rattle.std.proofs.Common.{◌≡◌, ◌+◌, ◌<◌, Bool, cond, length, take, drop, vec_capacity, sym, ap, ◌∙◌, arith}
use Rattle.std.specs.List.{insert}
use Rattle.std.proofs.lemmas.List.{length-set}
use Rattle.price_chunks.proofs.Held.{chunk_is}
use Rattle.price_chunks.proofs.Moves.{counted, room_is, row_below, row_room, split_pool, split_view}
use Rattle.price_chunks.proofs.pool.Pool.split.Goals as goal
use Rattle.price_chunks.specs.Inner.Chunks.{half}
use Rattle.price_chunks.specs.Inner.Pool.{rooms_of}

pub keep-number-requires-clause-room : goal.keep-number-requires-clause-room
keep-number-requires-clause-room c =
    omega (arith, length-set c.self.inside.chunks.items c.number_of.result c.split_off-back.new.self, counted c.self.inside.chunks.items (vec_capacity c.self.inside.chunks) c.self.inside.sides.items c.self.inside.free.items (vec_capacity c.self.inside.free) c.self.invariant.0 c.args.self.now c.self.view_is, room_is c.self.inside.chunks.items (vec_capacity c.self.inside.chunks) c.self.inside.sides.items c.self.inside.free.items (vec_capacity c.self.inside.free) c.self.invariant.0 c.args.self.now c.self.view_is, c.requires.room)

pub unreachable-requires : goal.unreachable-requires
unreachable-requires c =
    let v = c.index_mut-2.result.now in
    let ok = c.insert.ensures.succeeds (omega (arith, row_below c.self.inside.chunks.items (vec_capacity c.self.inside.chunks) c.self.inside.sides.items c.self.inside.free.items (vec_capacity c.self.inside.free) c.self.invariant.0 c.args.self.now c.self.view_is c.args.side_at c.requires.listed c.index_mut-2.result.now c.index_mut-2.ensures.value, row_room c.self.inside.chunks.items (vec_capacity c.self.inside.chunks) c.self.inside.sides.items c.self.inside.free.items (vec_capacity c.self.inside.free) c.self.invariant.0 c.args.self.now c.self.view_is c.args.side_at c.requires.listed c.index_mut-2.result.now c.index_mut-2.ensures.value, room_is c.self.inside.chunks.items (vec_capacity c.self.inside.chunks) c.self.inside.sides.items c.self.inside.free.items (vec_capacity c.self.inside.free) c.self.invariant.0 c.args.self.now c.self.view_is, c.requires.room, v.ok.0)) in
    let bad = c.if-is_err.ensures.negation in cc

module _ (c : goal.Else-is_err) where
  has_room : length c.index_mut-2.result.now.items < vec_capacity c.index_mut-2.result.now
  has_room = omega (arith, row_below c.self.inside.chunks.items (vec_capacity c.self.inside.chunks) c.self.inside.sides.items c.self.inside.free.items (vec_capacity c.self.inside.free) c.self.invariant.0 c.args.self.now c.self.view_is c.args.side_at c.requires.listed c.index_mut-2.result.now c.index_mut-2.ensures.value, row_room c.self.inside.chunks.items (vec_capacity c.self.inside.chunks) c.self.inside.sides.items c.self.inside.free.items (vec_capacity c.self.inside.free) c.self.invariant.0 c.args.self.now c.self.view_is c.args.side_at c.requires.listed c.index_mut-2.result.now c.index_mut-2.ensures.value, room_is c.self.inside.chunks.items (vec_capacity c.self.inside.chunks) c.self.inside.sides.items c.self.inside.free.items (vec_capacity c.self.inside.free) c.self.invariant.0 c.args.self.now c.self.view_is, c.requires.room)

  come : c.insert.new.self.items ≡ insert c.index_mut-2.result.now.items (c.args.at + 1) c.keep-number.result
  come = c.insert.ensures.items ∙ ap (λ (b : Bool). cond b (insert c.index_mut-2.result.now.items (c.args.at + 1) c.keep-number.result) c.index_mut-2.result.now.items) c.if-is_err.ensures.negation

pub invariant_of-self : goal.invariant_of-self
invariant_of-self c =
    let v = c.index_mut-2.result.now in
    let lt = has_room c in (
      split_pool c.self.inside.chunks.items (vec_capacity c.self.inside.chunks) c.self.inside.sides.items c.self.inside.free.items (vec_capacity c.self.inside.free) c.self.invariant.0 c.args.self.now c.self.view_is c.args.side_at c.requires.listed c.index_mut-2.result.now c.index_mut-2.ensures.value c.insert.new.self c.args.at c.requires.within c.number_of.result c.number_of.ensures c.split_off-back.new.self c.split_off-back.result c.keep-number.new.chunks.items c.keep-number.new.free.items c.keep-number.result c.keep-number.ensures.taken (come c) (c.insert.ensures.in_place (omega (arith, v.ok.0))).1.0 (vec_capacity c.keep-number.new.chunks) (vec_capacity c.keep-number.new.free) c.keep-number.ensures.capacity c.keep-number.ensures.free_capacity,
      c.self.invariant.1 ∙ sym (length-set c.self.inside.sides.items c.args.side_at c.insert.new.self),
    )

pub returns : goal.returns
returns c =
    let e = chunk_is c.self.inside.chunks.items (vec_capacity c.self.inside.chunks) c.self.inside.sides.items (rooms_of c.self.inside.sides.items) c.self.inside.free.items (vec_capacity c.self.inside.free) c.self.invariant.0 c.args.self.now c.self.view_is c.args.side_at c.requires.listed c.args.at c.requires.within c.number_of.result c.number_of.ensures c.index_mut.result.now c.index_mut.ensures.value in
    split_view c.self.inside.chunks.items (vec_capacity c.self.inside.chunks) c.self.inside.sides.items c.self.inside.free.items (vec_capacity c.self.inside.free) c.self.invariant.0 c.args.self.now c.self.view_is c.args.side_at c.requires.listed c.index_mut-2.result.now c.index_mut-2.ensures.value c.insert.new.self c.args.at c.requires.within c.number_of.result c.number_of.ensures c.split_off-back.new.self c.split_off-back.result c.keep-number.new.chunks.items c.keep-number.new.free.items c.keep-number.result c.keep-number.ensures.taken (come c) (vec_capacity c.keep-number.new.chunks) c.keep-number.ensures.capacity (c.split_off-back.ensures.front ∙ ap (take half) e) (c.split_off-back.ensures.back ∙ ap (drop half) e)
