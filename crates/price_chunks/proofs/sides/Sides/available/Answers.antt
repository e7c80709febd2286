use Rattle.std.proofs.Common.{◌<◌, ◌^◌, List, subst, sym, ap, ◌∙◌}
use Rattle.std.specs.List.{filter}
use Rattle.price_chunks.specs.declared.place.Step.{Step}
use Rattle.price_chunks.proofs.Enough.{kept_chunks, listed, list_is}
use Rattle.price_chunks.specs.Steps.{AreWorstFirst, is_open_step, open_at}
use Rattle.price_chunks.proofs.sides.Sides.available.Goals as goal

pub open_lots-requires-clause-listed : goal.open_lots-requires-clause-listed
open_lots-requires-clause-listed c = listed c.self.inside.capacity c.self.inside.pool c.args.self.now c.self.view_is c.args.at c.requires.listed

pub open_lots-requires-clause-chunks : goal.open_lots-requires-clause-chunks
open_lots-requires-clause-chunks c = kept_chunks c.self.inside.capacity c.self.inside.pool c.self.invariant.0 c.args.at (listed c.self.inside.capacity c.self.inside.pool c.args.self.now c.self.view_is c.args.at c.requires.listed)

pub open_lots-requires-clause-ordered : goal.open_lots-requires-clause-ordered
open_lots-requires-clause-ordered c = subst (AreWorstFirst c.args.side) (sym (list_is c.self.inside.capacity c.self.inside.pool c.args.self.now c.self.view_is c.args.at c.requires.listed)) c.requires.ordered

pub open_lots-requires-clause-fits : goal.open_lots-requires-clause-fits
open_lots-requires-clause-fits c = subst (λ (l : List Step). open_at l < 2 ^ 63) (sym (list_is c.self.inside.capacity c.self.inside.pool c.args.self.now c.self.view_is c.args.at c.requires.listed)) c.requires.fits

pub returns : goal.returns
returns c = c.open_lots.ensures ∙ ap (λ (l : List Step). open_at (filter (is_open_step c.args.side c.args.limit) l)) (list_is c.self.inside.capacity c.self.inside.pool c.args.self.now c.self.view_is c.args.at c.requires.listed)
