use Rattle.std.proofs.Common.{◌-◌, ◌+◌, ◌%◌, ◌<◌, List, take, length, ap, subst, sym, ◌∙◌, arith}
use Rattle.std.specs.List.{remove}
use Rattle.price_chunks.specs.declared.place.Step.{Step}
use Rattle.price_chunks.proofs.Row.{remove_row, remove_chunk}
use Rattle.price_chunks.proofs.chunk.Chunk.take_at.Goals as goal
use Rattle.price_chunks.specs.Steps.{step_at}
use Rattle.price_chunks.specs.Inner.Sums.{IsChunk}

pub invariant_of-self : goal.invariant_of-self
invariant_of-self c =
    let i = c.self.inside in
    let p = c.args.place in
    let gone = c.leaves_at-gone.result in
    let lt = subst (λ (l : List Step). p < length l) (sym c.self.view_is) c.requires in
    let is = c.leaves_at-gone.ensures ∙ ap (λ (l : List Step). (step_at l p).leaves) (sym c.self.view_is) in
    subst (λ (l : List Step). IsChunk l (i.count - 1) ((i.lots + (18446744073709551616 - gone)) % 18446744073709551616)) (sym c.close_gap.ensures) (remove_chunk i.steps i.count i.lots c.self.invariant p lt gone is (omega arith))

pub returns : goal.returns
returns c =
    let i = c.self.inside in
    let p = c.args.place in
    let lt = subst (λ (l : List Step). p < length l) (sym c.self.view_is) c.requires in
    ap (take (i.count - 1)) c.close_gap.ensures
    ∙ remove_row i.steps i.count i.lots c.self.invariant p lt
    ∙ ap (λ (l : List Step). remove l p) c.self.view_is
