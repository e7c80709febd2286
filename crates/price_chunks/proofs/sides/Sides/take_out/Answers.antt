use Rattle.std.proofs.Common.{vec_capacity, ℕ, length, subst, sym, ap, ◌∙◌, arith}
use Rattle.price_chunks.proofs.Enough.{kept_chunks, changed, listed, list_is, seen_set, length_without}
use Rattle.price_chunks.specs.Steps.{AreWorstFirst, without_step, list_at}
use Rattle.price_chunks.specs.Inner.Chunks.{flat}
use Rattle.price_chunks.specs.Inner.Pool.{chunks_at}
use Rattle.price_chunks.proofs.Sided.{listed_still}
use Rattle.price_chunks.proofs.Prices.{priced, best_set}
use Rattle.price_chunks.proofs.sides.Sides.take_out.Goals as goal

pub take_out-requires-clause-listed : goal.take_out-requires-clause-listed
take_out-requires-clause-listed c = listed c.self.inside.capacity c.self.inside.pool c.args.self.now c.self.view_is c.args.at c.requires.listed

pub take_out-requires-clause-chunks : goal.take_out-requires-clause-chunks
take_out-requires-clause-chunks c = kept_chunks c.self.inside.capacity c.self.inside.pool c.self.invariant.0 c.args.at (listed c.self.inside.capacity c.self.inside.pool c.args.self.now c.self.view_is c.args.at c.requires.listed)

pub take_out-requires-clause-ordered : goal.take_out-requires-clause-ordered
take_out-requires-clause-ordered c = subst (AreWorstFirst c.args.side) (sym (list_is c.self.inside.capacity c.self.inside.pool c.args.self.now c.self.view_is c.args.at c.requires.listed)) c.requires.ordered

pub best_price-requires-clause-listed : goal.best_price-requires-clause-listed
best_price-requires-clause-listed c = listed_still c.self.inside.pool c.args.at (listed c.self.inside.capacity c.self.inside.pool c.args.self.now c.self.view_is c.args.at c.requires.listed) c.take_out.new.pool (chunks_at c.take_out.new.pool.sides c.args.at) c.take_out.ensures.rest

pub best_price-requires-clause-chunks : goal.best_price-requires-clause-chunks
best_price-requires-clause-chunks c = c.take_out.ensures.chunks

pub index_mut-requires : goal.index_mut-requires
index_mut-requires c = omega (arith, c.self.inside.best.ok.0, priced c.self.inside.pool c.self.inside.best.items (vec_capacity c.self.inside.best) c.self.invariant.1 c.args.at (listed c.self.inside.capacity c.self.inside.pool c.args.self.now c.self.view_is c.args.at c.requires.listed))

pub invariant_of-self : goal.invariant_of-self
invariant_of-self c =
    let at = c.args.at in
    let old = c.self.inside.pool in
    let new = c.take_out.new.pool in
    let chunks = chunks_at new.sides at in
    let here = listed c.self.inside.capacity old c.args.self.now c.self.view_is at c.requires.listed in (
      changed c.self.inside.capacity old c.self.invariant.0 at here new chunks c.take_out.ensures.rest c.take_out.ensures.chunks (omega (arith, ap {B = ℕ} length c.take_out.ensures.flat, length_without c.args.price (flat (chunks_at old.sides at)), c.self.invariant.0.few)),
      best_set old c.self.inside.best.items (vec_capacity c.self.inside.best) c.self.invariant.1 at here new chunks c.best_price.result c.take_out.ensures.rest c.best_price.ensures,
    )

pub returns : goal.returns
returns c = seen_set c.self.inside.capacity c.self.inside.pool c.args.self.now c.self.view_is c.args.at c.take_out.new.pool (chunks_at c.take_out.new.pool.sides c.args.at) (without_step c.args.price (list_at c.args.self.now.lists c.args.at)) c.take_out.ensures.rest (c.take_out.ensures.flat ∙ ap (without_step c.args.price) (list_is c.self.inside.capacity c.self.inside.pool c.args.self.now c.self.view_is c.args.at c.requires.listed))
