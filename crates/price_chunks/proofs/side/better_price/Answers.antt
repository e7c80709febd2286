use Rattle.std.proofs.Common.{◌≡◌, ◌+◌, ◌<◌, length, List, subst, sym, ap, ◌∙◌, arith, None, Some, Option}
use Rattle.std.specs.List.{filter}
use Rattle.gx_base.specs.declared.price.Price.{Price}
use Rattle.price_chunks.specs.declared.place.Step.{Step}
use Rattle.price_chunks.proofs.Flat.{order-chunk}
use Rattle.price_chunks.proofs.Asked.{linked_last}
use Rattle.price_chunks.proofs.Better.{better_here, better_last, better_next}
use Rattle.price_chunks.proofs.side.better_price.Goals as goal
use Rattle.price_chunks.specs.Steps.{AreWorstFirst, is_better_step, price_of_first}
use Rattle.price_chunks.specs.Inner.Chunks.{chunk_at}
use Rattle.price_chunks.specs.Inner.Pool.{chunks_at}

pub better_price-requires : goal.better_price-requires
better_price-requires c =
    let chunks = chunks_at c.args.pool.now.sides c.args.side_at in
    let j = c.chunk_of-at.result in
    let e = c.steps.ensures ∙ c.chunk.ensures in
    subst (AreWorstFirst c.args.side) (sym e) (order-chunk c.args.side chunks j c.chunk_of-at.ensures.within c.requires.ordered)

pub returns-in-Some : goal.returns-in-Some
returns-in-Some c =
    let chunks = chunks_at c.args.pool.now.sides c.args.side_at in
    let j = c.chunk_of-at.result in
    let q = is_better_step c.args.side c.args.price in
    let e = c.steps.ensures ∙ c.chunk.ensures in
    let h : price_of_first (filter q (chunk_at chunks j)) ≡ Some c.in-Some.better = sym (c.better_price.ensures ∙ ap (λ (l : List Step). price_of_first (filter q l)) e) ∙ c.in-Some.is in
    sym h ∙ sym (better_here c.args.side c.args.price chunks j c.chunk_of-at.ensures (λ n. let k : ◌≡◌ {A = Option Price} (Some c.in-Some.better) None = sym h ∙ n in cc))

pub returns-then-at-count : goal.returns-then-at-count
returns-then-at-count c =
    let chunks = chunks_at c.args.pool.now.sides c.args.side_at in
    let j = c.chunk_of-at.result in
    let q = is_better_step c.args.side c.args.price in
    let e = c.steps.ensures ∙ c.chunk.ensures in
    let h : price_of_first (filter q (chunk_at chunks j)) ≡ None = sym (c.better_price.ensures ∙ ap (λ (l : List Step). price_of_first (filter q l)) e) ∙ c.in_default.is in
    sym h ∙ sym (better_last c.args.side c.args.price chunks j c.chunk_of-at.ensures (c.if-at-count.true ∙ c.len-count.ensures))

pub returns : goal.returns
returns c =
    let chunks = chunks_at c.args.pool.now.sides c.args.side_at in
    let j = c.chunk_of-at.result in
    let q = is_better_step c.args.side c.args.price in
    let e = c.steps.ensures ∙ c.chunk.ensures in
    let h : price_of_first (filter q (chunk_at chunks j)) ≡ None = sym (c.better_price.ensures ∙ ap (λ (l : List Step). price_of_first (filter q l)) e) ∙ c.in_default.is in
    let within = c.chunk_of-at.ensures.within in
    let more : j + 1 < length chunks = omega (arith, c.if-at-count.false, c.len-count.ensures) in
    let f = c.steps-2.ensures ∙ c.chunk-2.ensures in
    c.worst_price.ensures ∙ ap price_of_first f ∙ sym (better_next c.args.side c.args.price chunks j c.chunk_of-at.ensures more (linked_last chunks (j + 1) c.requires.chunks.linked (omega arith) more) h)
