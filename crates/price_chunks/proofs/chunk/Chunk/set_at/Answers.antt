use Rattle.std.proofs.Common.{◌<◌, List, length, set, take, ap, subst, sym, ◌∙◌, arith}
use Rattle.price_chunks.specs.declared.place.Step.{Step}
use Rattle.price_chunks.proofs.Row.{row_at, set_row, set_chunk}
use Rattle.price_chunks.proofs.chunk.Chunk.set_at.Goals as goal
use Rattle.price_chunks.specs.Steps.{no_step, step_at}

pub invariant_of-self : goal.invariant_of-self
invariant_of-self c =
    let i = c.self.inside in
    let p = c.args.place in
    let lt = subst (λ (l : List Step). p < length l) (sym c.self.view_is) c.requires in
    let is = c.leaves_at-old.ensures ∙ ap (λ (l : List Step). (step_at l p).leaves) (sym c.self.view_is) in
    set_chunk i.steps i.count i.lots c.self.invariant p lt (record (step_at i.steps p) { leaves = c.args.leaves }) c.leaves_at-old.result is (omega arith)

pub returns : goal.returns
returns c =
    let i = c.self.inside in
    let p = c.args.place in
    let lt = subst (λ (l : List Step). p < length l) (sym c.self.view_is) c.requires in
    set_row i.steps i.count i.lots c.self.invariant p lt (record (step_at i.steps p) { leaves = c.args.leaves })
    ∙ ap (λ (s : Step). set (take i.count i.steps) p (record s { leaves = c.args.leaves })) (sym (row_at i.steps i.count i.lots c.self.invariant p lt no_step))
    ∙ ap (λ (l : List Step). set l p (record (step_at l p) { leaves = c.args.leaves })) c.self.view_is
