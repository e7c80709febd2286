use Rattle.std.proofs.Common.{List, subst, ◌∙◌}
use Rattle.price_chunks.specs.declared.place.Step.{Step}
use Rattle.price_chunks.proofs.Best.{level_out, none_out}
use Rattle.price_chunks.proofs.chunk.Chunk.take_out.Goals as goal
use Rattle.price_chunks.specs.Inner.Chunks.{IsPlace}

pub returns-then-is_at-clause-out : goal.returns-then-is_at-clause-out
returns-then-is_at-clause-out c =
    c.take_at.ensures ∙ level_out c.args.side c.args.price c.args.self.now c.requires.ordered c.place_of-place.result (c.is_at.ensures.is c.if-is_at.true)

pub returns-else-is_at-clause-out : goal.returns-else-is_at-clause-out
returns-else-is_at-clause-out c =
    let p = c.place_of-place.result in
    let place = subst (λ (xs : List Step). IsPlace c.args.side c.args.price xs p) c.steps.ensures c.place_of-place.ensures in
    none_out c.args.side c.args.price c.args.self.now c.requires.ordered p place (c.is_at.ensures.other c.if-is_at.false)
