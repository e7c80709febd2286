use Rattle.std.proofs.Common.{◌+◌, ◌%◌, ◌≤◌, ◌<◌, List, take, length, set, ap, subst, sym, ◌∙◌}
use Rattle.std.specs.List.{insert}
use Rattle.price_chunks.specs.declared.place.Step.{Step}
use Rattle.price_chunks.proofs.Row.{insert_row, insert_chunk}
use Rattle.price_chunks.proofs.chunk.Chunk.insert.Goals as goal
use Rattle.price_chunks.specs.Inner.Chunks.{room}
use Rattle.price_chunks.specs.Inner.Sums.{IsChunk}

pub invariant_of-self : goal.invariant_of-self
invariant_of-self c =
    let i = c.self.inside in
    let p = c.args.place in
    let y = c.args.step in
    let le = subst (λ (l : List Step). p ≤ length l) (sym c.self.view_is) c.requires.within in
    let lt = subst (λ (l : List Step). length l < room) (sym c.self.view_is) c.requires.room in
    subst (λ (l : List Step). IsChunk (set l p y) (i.count + 1) ((i.lots + y.leaves) % 18446744073709551616)) (sym c.copy_within.ensures.after) (insert_chunk i.steps i.count i.lots c.self.invariant p y le lt)

pub returns : goal.returns
returns c =
    let i = c.self.inside in
    let p = c.args.place in
    let y = c.args.step in
    let le = subst (λ (l : List Step). p ≤ length l) (sym c.self.view_is) c.requires.within in
    let lt = subst (λ (l : List Step). length l < room) (sym c.self.view_is) c.requires.room in
    ap (λ (l : List Step). take (i.count + 1) (set l p y)) c.copy_within.ensures.after
    ∙ insert_row i.steps i.count i.lots c.self.invariant p y le lt
    ∙ ap (λ (l : List Step). insert l p y) c.self.view_is
