use Rattle.std.proofs.Common.{inl, inr, ◌≡◌, ℕ, ◌+◌, ◌-◌, ◌/◌, ◌<◌, true, false, length, List, sym, ap, subst, ◌∙◌, arith}
use Rattle.std.proofs.lemmas.Bool.{cases_lt}
use Rattle.price_chunks.specs.declared.place.Step.{Step}
use Rattle.price_chunks.proofs.Flat.{before_more, after_at, after_none}
use Rattle.price_chunks.proofs.Changes.{linked_filled}
use Rattle.price_chunks.proofs.side.chunk_by_halves.Goals as goal
use Rattle.price_chunks.specs.Steps.{step_at, is_worse_step}
use Rattle.price_chunks.specs.Inner.Chunks.{chunk_at}
use Rattle.price_chunks.specs.Inner.Pool.{chunks_at}

pub is_worse-requires : goal.is_worse-requires
is_worse-requires c =
    let m = c.loop-low.low + (c.loop-low.high - c.loop-low.low) / 2 in
    let v = c.loop-low.invariant in
    let lt : m + 1 < length (chunks_at c.args.pool.now.sides c.args.side_at) = omega arith in
    let e = c.chunk.ensures in
    subst (λ (l : List Step). 0 < length l) (sym e) (linked_filled (chunks_at c.args.pool.now.sides c.args.side_at) m c.requires.chunks.linked lt)

pub loop-low-preserved-then-is_worse : goal.loop-low-preserved-then-is_worse
loop-low-preserved-then-is_worse c =
    let m = c.loop-low.low + (c.loop-low.high - c.loop-low.low) / 2 in
    let v = c.loop-low.invariant in
    let chunks = chunks_at c.args.pool.now.sides c.args.side_at in
    let lt : m + 1 < length chunks = omega arith in
    let e = c.chunk.ensures in
    let p = chunk_at chunks m in
    let full = linked_filled chunks m c.requires.chunks.linked lt in
    let n : length p - 1 + 1 ≡ length p = omega arith in
    let w : is_worse_step c.args.side c.args.price (step_at p (length p - 1)) ≡ true =
    ap (λ (l : List Step). is_worse_step c.args.side c.args.price (step_at l (length p - 1))) (sym e) ∙ sym (c.is_worse.ensures (length p - 1) (n ∙ ap length (sym e))) ∙ c.if-is_worse.true in
    record {
      apart = omega arith;
      within = v.within;
      before = before_more c.args.side c.args.price chunks c.requires.ordered m (length p - 1) (omega arith) n w;
      here = v.here;
    }

pub returns : goal.returns
returns c =
    let v = c.loop-low.invariant in
    let chunks = chunks_at c.args.pool.now.sides c.args.side_at in
    let j = c.loop-low.low in
    let is : c.loop-low.high ≡ j = omega arith in
    let p = chunk_at chunks j in
    record {
      within = omega arith;
      before = v.before;
      after = elim (cases_lt (j + 1) (length chunks)) [
        | inl lt ↦
            let full = linked_filled chunks j c.requires.chunks.linked lt in
            let n : length p - 1 + 1 ≡ length p = omega arith in
            let w = subst (λ (k : ℕ). (n : ℕ) → k + 1 < length chunks → n + 1 ≡ length (chunk_at chunks k) → is_worse_step c.args.side c.args.price (step_at (chunk_at chunks k) n) ≡ false) is v.here in
            after_at c.args.side c.args.price chunks c.requires.ordered j (length p - 1) (omega arith) n (w (length p - 1) lt n)
        | inr le ↦ after_none c.args.side c.args.price chunks c.requires.ordered j (omega arith)
      ];
    }
