use Rattle.std.proofs.Common.{◌≡◌, ◌+◌, ◌-◌, List, subst, sym, ap, ◌∙◌, arith, None, Some, Option}
use Rattle.std.specs.List.{filter}
use Rattle.gx_base.specs.declared.price.Price.{Price}
use Rattle.price_chunks.specs.declared.place.Step.{Step}
use Rattle.price_chunks.proofs.Flat.{order-chunk}
use Rattle.price_chunks.proofs.Asked.{worse_here, worse_first, worse_before}
use Rattle.price_chunks.proofs.Changes.{linked_filled}
use Rattle.price_chunks.proofs.side.worse_price.Goals as goal
use Rattle.price_chunks.specs.Steps.{AreWorstFirst, is_worse_step, price_of_last}
use Rattle.price_chunks.specs.Inner.Chunks.{chunk_at}
use Rattle.price_chunks.specs.Inner.Pool.{chunks_at}

pub worse_price-requires : goal.worse_price-requires
worse_price-requires c =
    let chunks = chunks_at c.args.pool.now.sides c.args.side_at in
    let j = c.chunk_of-at.result in
    let e = c.steps.ensures ∙ c.chunk.ensures in
    subst (AreWorstFirst c.args.side) (sym e) (order-chunk c.args.side chunks j c.chunk_of-at.ensures.within c.requires.ordered)

pub returns-in-Some : goal.returns-in-Some
returns-in-Some c =
    let chunks = chunks_at c.args.pool.now.sides c.args.side_at in
    let j = c.chunk_of-at.result in
    let q = is_worse_step c.args.side c.args.price in
    let e = c.steps.ensures ∙ c.chunk.ensures in
    let h : price_of_last (filter q (chunk_at chunks j)) ≡ Some c.in-Some.worse = sym (c.worse_price.ensures ∙ ap (λ (l : List Step). price_of_last (filter q l)) e) ∙ c.in-Some.is in
    sym h ∙ sym (worse_here c.args.side c.args.price chunks j c.chunk_of-at.ensures (λ n. let k : ◌≡◌ {A = Option Price} (Some c.in-Some.worse) None = sym h ∙ n in cc))

pub returns-then-at-eq0 : goal.returns-then-at-eq0
returns-then-at-eq0 c =
    let chunks = chunks_at c.args.pool.now.sides c.args.side_at in
    let j = c.chunk_of-at.result in
    let q = is_worse_step c.args.side c.args.price in
    let e = c.steps.ensures ∙ c.chunk.ensures in
    let h : price_of_last (filter q (chunk_at chunks j)) ≡ None = sym (c.worse_price.ensures ∙ ap (λ (l : List Step). price_of_last (filter q l)) e) ∙ c.in_default.is in
    sym h ∙ sym (worse_first c.args.side c.args.price chunks j c.chunk_of-at.ensures c.if-at-eq0.true)

pub returns : goal.returns
returns c =
    let chunks = chunks_at c.args.pool.now.sides c.args.side_at in
    let j = c.chunk_of-at.result in
    let q = is_worse_step c.args.side c.args.price in
    let e = c.steps.ensures ∙ c.chunk.ensures in
    let h : price_of_last (filter q (chunk_at chunks j)) ≡ None = sym (c.worse_price.ensures ∙ ap (λ (l : List Step). price_of_last (filter q l)) e) ∙ c.in_default.is in
    let within = c.chunk_of-at.ensures.within in
    let i : j - 1 + 1 ≡ j = omega (arith, c.if-at-eq0.false) in
    let f = c.steps-2.ensures ∙ c.chunk-2.ensures in
    c.best_price.ensures ∙ ap price_of_last f ∙ sym (worse_before c.args.side c.args.price chunks j c.chunk_of-at.ensures (j - 1) i (linked_filled chunks (j - 1) c.requires.chunks.linked (omega arith)) h)
