use Rattle.std.proofs.Common.{List, subst, refl, ◌∙◌}
use Rattle.price_chunks.specs.declared.place.Step.{Step}
use Rattle.price_chunks.proofs.Steps.{put_at}
use Rattle.price_chunks.proofs.chunk.Chunk.put.Goals as goal
use Rattle.price_chunks.specs.Inner.Chunks.{IsPlace}

pub returns-clause-put : goal.returns-clause-put
returns-clause-put c =
    let p = c.place_of-place.result in
    let place = subst (λ (xs : List Step). IsPlace c.args.side c.args.step.price xs p) c.steps.ensures c.place_of-place.ensures in
    c.insert.ensures ∙ put_at c.args.side c.args.step.price c.args.self.now p c.requires.ordered place c.args.step refl
