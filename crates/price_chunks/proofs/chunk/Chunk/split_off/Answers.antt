use Rattle.std.proofs.Common.{◌≡◌, ◌-◌, ◌≤◌, List, ◌++◌, length, take, drop, ap, subst, sym, ◌∙◌}
use Rattle.std.proofs.lemmas.List.{take_rest}
use Rattle.price_chunks.specs.declared.place.Step.{Step}
use Rattle.price_chunks.proofs.Row.{half_row, half_chunk}
use Rattle.price_chunks.proofs.chunk.Chunk.split_off.Goals as goal
use Rattle.price_chunks.specs.Steps.{open_at}
use Rattle.price_chunks.specs.Inner.Chunks.{half}
use Rattle.price_chunks.specs.Inner.Sums.{IsMod}

moved : (c : goal.After-self-2-1) → c.push_all.new.self ≡ drop half c.args.self.now
moved c =
    let xs = c.steps.result.now in
    c.push_all.ensures
    ∙ ap (λ (l : List Step). l ++ take (length xs - half) (drop half xs)) c.new-back.ensures
    ∙ take_rest xs half
    ∙ ap (drop half) c.steps.ensures

pub invariant_of-self : goal.invariant_of-self
invariant_of-self c =
    let i = c.self.inside in
    let le = subst (λ (l : List Step). half ≤ length l) (sym c.self.view_is) c.requires in
    let is = subst (λ (l : List Step). IsMod c.sum-moved.result (open_at l)) (moved c ∙ ap (drop half) (sym c.self.view_is)) c.sum-moved.ensures in
    half_chunk i.steps i.count i.lots c.self.invariant c.sum-moved.result le c.sum-moved.type_inv is

pub returns-clause-front : goal.returns-clause-front
returns-clause-front c =
    let i = c.self.inside in
    let le = subst (λ (l : List Step). half ≤ length l) (sym c.self.view_is) c.requires in
    half_row i.steps i.count i.lots c.self.invariant le ∙ ap (take half) c.self.view_is

pub returns-clause-back : goal.returns-clause-back
returns-clause-back c = moved c
