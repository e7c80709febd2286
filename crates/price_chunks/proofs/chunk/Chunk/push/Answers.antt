use Rattle.std.proofs.Common.{◌<◌, List, length, subst, sym}
use Rattle.price_chunks.specs.declared.place.Step.{Step}
use Rattle.price_chunks.proofs.Row.{push_chunk}
use Rattle.price_chunks.proofs.chunk.Chunk.push.Goals as goal
use Rattle.price_chunks.specs.Inner.Chunks.{room}

pub invariant_of-self : goal.invariant_of-self
invariant_of-self c =
    let i = c.self.inside in
    push_chunk i.steps i.count i.lots c.self.invariant c.args.step (subst (λ (l : List Step). length l < room) (sym c.self.view_is) c.requires)
