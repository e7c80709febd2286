use Rattle.std.proofs.Common.{vec_capacity, ℕ, length, subst, sym, ap, ◌∙◌, arith}
use Rattle.std.specs.List.{sum_by}
use Rattle.price_chunks.proofs.Enough.{few_used, kept_chunks, changed, listed, list_is, seen_set, length_with}
use Rattle.price_chunks.specs.Steps.{AreWorstFirst, with_step, SideLists, list_at, price_of_last}
use Rattle.price_chunks.specs.Inner.Chunks.{flat}
use Rattle.price_chunks.specs.Inner.Pool.{chunks_at, best_with}
use Rattle.price_chunks.proofs.Prices.{priced, best_set, last_with, read_best}
use Rattle.price_chunks.proofs.sides.Sides.put.Goals as goal

pub put_in-spot-requires-clause-listed : goal.put_in-spot-requires-clause-listed
put_in-spot-requires-clause-listed c = listed c.self.inside.capacity c.self.inside.pool c.args.self.now c.self.view_is c.args.at c.requires.listed

pub put_in-spot-requires-clause-chunks : goal.put_in-spot-requires-clause-chunks
put_in-spot-requires-clause-chunks c = kept_chunks c.self.inside.capacity c.self.inside.pool c.self.invariant.0 c.args.at (listed c.self.inside.capacity c.self.inside.pool c.args.self.now c.self.view_is c.args.at c.requires.listed)

pub put_in-spot-requires-clause-ordered : goal.put_in-spot-requires-clause-ordered
put_in-spot-requires-clause-ordered c = subst (AreWorstFirst c.args.side) (sym (list_is c.self.inside.capacity c.self.inside.pool c.args.self.now c.self.view_is c.args.at c.requires.listed)) c.requires.ordered

pub put_in-spot-requires-clause-room : goal.put_in-spot-requires-clause-room
put_in-spot-requires-clause-room c = few_used c.self.inside.capacity c.self.inside.pool c.self.invariant.0 c.args.at (listed c.self.inside.capacity c.self.inside.pool c.args.self.now c.self.view_is c.args.at c.requires.listed)

pub index-requires : goal.index-requires
index-requires c = omega (arith, c.self.inside.best.ok.0, priced c.self.inside.pool c.self.inside.best.items (vec_capacity c.self.inside.best) c.self.invariant.1 c.args.at (listed c.self.inside.capacity c.self.inside.pool c.args.self.now c.self.view_is c.args.at c.requires.listed))

pub index_mut-requires : goal.index_mut-requires
index_mut-requires c = omega (arith, c.self.inside.best.ok.0, priced c.self.inside.pool c.self.inside.best.items (vec_capacity c.self.inside.best) c.self.invariant.1 c.args.at (listed c.self.inside.capacity c.self.inside.pool c.args.self.now c.self.view_is c.args.at c.requires.listed))

pub invariant_of-self : goal.invariant_of-self
invariant_of-self c =
    let at = c.args.at in
    let old = c.self.inside.pool in
    let new = c.put_in-spot.new.pool in
    let chunks = chunks_at new.sides at in
    let levels = flat (chunks_at old.sides at) in
    let ordered = subst (AreWorstFirst c.args.side) (sym (list_is c.self.inside.capacity old c.args.self.now c.self.view_is at c.requires.listed)) c.requires.ordered in
    let best = read_best c.self.inside.capacity old c.args.self.now c.self.view_is c.self.inside.best.items (vec_capacity c.self.inside.best) c.self.invariant.1 at c.requires.listed c.index.result.now c.index.ensures in
    let here = listed c.self.inside.capacity old c.args.self.now c.self.view_is at c.requires.listed in (
      changed c.self.inside.capacity old c.self.invariant.0 at here new chunks c.put_in-spot.ensures.rest c.put_in-spot.ensures.chunks (omega (arith, ap {B = ℕ} length c.put_in-spot.ensures.flat, length_with c.args.side c.args.step levels, ap {B = ℕ} (λ (x : SideLists). sum_by length x.lists) c.self.view_is, ap {B = ℕ} (λ (x : SideLists). x.capacity) c.self.view_is, c.requires.room)),
      best_set old c.self.inside.best.items (vec_capacity c.self.inside.best) c.self.invariant.1 at here new chunks c.best_with.result c.put_in-spot.ensures.rest (c.best_with.ensures ∙ ap (best_with c.args.side c.args.step.price) best ∙ sym (ap price_of_last c.put_in-spot.ensures.flat ∙ last_with c.args.side c.args.step levels ordered)),
    )

pub returns : goal.returns
returns c = seen_set c.self.inside.capacity c.self.inside.pool c.args.self.now c.self.view_is c.args.at c.put_in-spot.new.pool (chunks_at c.put_in-spot.new.pool.sides c.args.at) (with_step c.args.side c.args.step (list_at c.args.self.now.lists c.args.at)) c.put_in-spot.ensures.rest (c.put_in-spot.ensures.flat ∙ ap (with_step c.args.side c.args.step) (list_is c.self.inside.capacity c.self.inside.pool c.args.self.now c.self.view_is c.args.at c.requires.listed))
