use Rattle.std.proofs.Common.{List, subst, ◌∙◌}
use Rattle.price_chunks.specs.declared.place.Step.{Step}
use Rattle.price_chunks.proofs.Best.{level_open, none_set}
use Rattle.price_chunks.proofs.chunk.Chunk.set_lots.Goals as goal
use Rattle.price_chunks.specs.Inner.Chunks.{IsPlace}

pub returns-then-is_at-clause-set : goal.returns-then-is_at-clause-set
returns-then-is_at-clause-set c =
    c.set_at.ensures ∙ level_open c.args.side c.args.price c.args.self.now c.requires c.place_of-place.result (c.is_at.ensures.is c.if-is_at.true) c.args.leaves

pub returns-else-is_at-clause-set : goal.returns-else-is_at-clause-set
returns-else-is_at-clause-set c =
    let p = c.place_of-place.result in
    let place = subst (λ (xs : List Step). IsPlace c.args.side c.args.price xs p) c.steps.ensures c.place_of-place.ensures in
    none_set c.args.side c.args.price c.args.self.now c.requires p place (c.is_at.ensures.other c.if-is_at.false) c.args.leaves
