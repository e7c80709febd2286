use Rattle.std.proofs.Common.{List, ap, ◌∙◌}
use Rattle.price_chunks.specs.declared.place.Step.{Step}
use Rattle.price_chunks.proofs.Enough.{kept_chunks, listed, list_is}
use Rattle.price_chunks.specs.Steps.{price_of_first}
use Rattle.price_chunks.proofs.sides.Sides.worst.Goals as goal

pub worst_price-requires-clause-listed : goal.worst_price-requires-clause-listed
worst_price-requires-clause-listed c = listed c.self.inside.capacity c.self.inside.pool c.args.self.now c.self.view_is c.args.at c.requires

pub worst_price-requires-clause-chunks : goal.worst_price-requires-clause-chunks
worst_price-requires-clause-chunks c = kept_chunks c.self.inside.capacity c.self.inside.pool c.self.invariant.0 c.args.at (listed c.self.inside.capacity c.self.inside.pool c.args.self.now c.self.view_is c.args.at c.requires)

pub returns : goal.returns
returns c = c.worst_price.ensures ∙ ap (λ (l : List Step). price_of_first l) (list_is c.self.inside.capacity c.self.inside.pool c.args.self.now c.self.view_is c.args.at c.requires)
