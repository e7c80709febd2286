use Rattle.std.proofs.Common.{List, subst, sym, ap, ◌∙◌}
use Rattle.std.specs.List.{filter}
use Rattle.price_chunks.specs.declared.place.Step.{Step}
use Rattle.price_chunks.proofs.Enough.{kept_chunks, listed, list_is}
use Rattle.price_chunks.specs.Steps.{AreWorstFirst, is_worse_step, price_of_last}
use Rattle.price_chunks.proofs.sides.Sides.worse.Goals as goal

pub worse_price-requires-clause-listed : goal.worse_price-requires-clause-listed
worse_price-requires-clause-listed c = listed c.self.inside.capacity c.self.inside.pool c.args.self.now c.self.view_is c.args.at c.requires.listed

pub worse_price-requires-clause-chunks : goal.worse_price-requires-clause-chunks
worse_price-requires-clause-chunks c = kept_chunks c.self.inside.capacity c.self.inside.pool c.self.invariant.0 c.args.at (listed c.self.inside.capacity c.self.inside.pool c.args.self.now c.self.view_is c.args.at c.requires.listed)

pub worse_price-requires-clause-ordered : goal.worse_price-requires-clause-ordered
worse_price-requires-clause-ordered c = subst (AreWorstFirst c.args.side) (sym (list_is c.self.inside.capacity c.self.inside.pool c.args.self.now c.self.view_is c.args.at c.requires.listed)) c.requires.ordered

pub returns : goal.returns
returns c = c.worse_price.ensures ∙ ap (λ (l : List Step). price_of_last (filter (is_worse_step c.args.side c.args.price) l)) (list_is c.self.inside.capacity c.self.inside.pool c.args.self.now c.self.view_is c.args.at c.requires.listed)
