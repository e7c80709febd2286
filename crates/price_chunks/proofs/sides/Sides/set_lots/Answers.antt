use Rattle.std.proofs.Common.{vec_capacity, ℕ, length, subst, sym, ap, ◌∙◌, arith}
use Rattle.std.proofs.lemmas.List.{length-map}
use Rattle.price_chunks.proofs.Enough.{kept_chunks, changed, listed, list_is, seen_set}
use Rattle.price_chunks.specs.Steps.{AreWorstFirst, with_open, opened, list_at, price_of_last}
use Rattle.price_chunks.specs.Inner.Chunks.{flat}
use Rattle.price_chunks.specs.Inner.Pool.{chunks_at}
use Rattle.price_chunks.proofs.Prices.{best_kept, last_open}
use Rattle.price_chunks.proofs.sides.Sides.set_lots.Goals as goal

pub set_lots-requires-clause-listed : goal.set_lots-requires-clause-listed
set_lots-requires-clause-listed c = listed c.self.inside.capacity c.self.inside.pool c.args.self.now c.self.view_is c.args.at c.requires.listed

pub set_lots-requires-clause-chunks : goal.set_lots-requires-clause-chunks
set_lots-requires-clause-chunks c = kept_chunks c.self.inside.capacity c.self.inside.pool c.self.invariant.0 c.args.at (listed c.self.inside.capacity c.self.inside.pool c.args.self.now c.self.view_is c.args.at c.requires.listed)

pub set_lots-requires-clause-ordered : goal.set_lots-requires-clause-ordered
set_lots-requires-clause-ordered c = subst (AreWorstFirst c.args.side) (sym (list_is c.self.inside.capacity c.self.inside.pool c.args.self.now c.self.view_is c.args.at c.requires.listed)) c.requires.ordered

pub invariant_of-self : goal.invariant_of-self
invariant_of-self c =
    let at = c.args.at in
    let old = c.self.inside.pool in
    let new = c.set_lots.new.pool in
    let chunks = chunks_at new.sides at in
    let levels = flat (chunks_at old.sides at) in
    let here = listed c.self.inside.capacity old c.args.self.now c.self.view_is at c.requires.listed in (
      changed c.self.inside.capacity old c.self.invariant.0 at here new chunks c.set_lots.ensures.rest c.set_lots.ensures.chunks (omega (arith, ap {B = ℕ} length c.set_lots.ensures.flat, length-map levels (opened c.args.price c.args.leaves), c.self.invariant.0.few)),
      best_kept old c.self.inside.best.items (vec_capacity c.self.inside.best) c.self.invariant.1 at here new chunks c.set_lots.ensures.rest (ap price_of_last c.set_lots.ensures.flat ∙ last_open c.args.price c.args.leaves levels),
    )

pub returns : goal.returns
returns c = seen_set c.self.inside.capacity c.self.inside.pool c.args.self.now c.self.view_is c.args.at c.set_lots.new.pool (chunks_at c.set_lots.new.pool.sides c.args.at) (with_open c.args.price c.args.leaves (list_at c.args.self.now.lists c.args.at)) c.set_lots.ensures.rest (c.set_lots.ensures.flat ∙ ap (with_open c.args.price c.args.leaves) (list_is c.self.inside.capacity c.self.inside.pool c.args.self.now c.self.view_is c.args.at c.requires.listed))
