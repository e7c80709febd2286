use Rattle.std.proofs.Common.{List, subst, sym, ap, ◌∙◌}
use Rattle.std.specs.List.{filter}
use Rattle.price_chunks.specs.declared.place.Step.{Step}
use Rattle.price_chunks.proofs.Enough.{kept_chunks, listed, list_is}
use Rattle.price_chunks.specs.Steps.{AreWorstFirst, is_step_at, queue_of_last}
use Rattle.price_chunks.proofs.sides.Sides.find.Goals as goal

pub queue_at-requires-clause-listed : goal.queue_at-requires-clause-listed
queue_at-requires-clause-listed c = listed c.self.inside.capacity c.self.inside.pool c.args.self.now c.self.view_is c.args.at c.requires.listed

pub queue_at-requires-clause-chunks : goal.queue_at-requires-clause-chunks
queue_at-requires-clause-chunks c = kept_chunks c.self.inside.capacity c.self.inside.pool c.self.invariant.0 c.args.at (listed c.self.inside.capacity c.self.inside.pool c.args.self.now c.self.view_is c.args.at c.requires.listed)

pub queue_at-requires-clause-ordered : goal.queue_at-requires-clause-ordered
queue_at-requires-clause-ordered c = subst (AreWorstFirst c.args.side) (sym (list_is c.self.inside.capacity c.self.inside.pool c.args.self.now c.self.view_is c.args.at c.requires.listed)) c.requires.ordered

pub returns : goal.returns
returns c = c.queue_at.ensures ∙ ap (λ (l : List Step). queue_of_last (filter (is_step_at c.args.price) l)) (list_is c.self.inside.capacity c.self.inside.pool c.args.self.now c.self.view_is c.args.at c.requires.listed)
