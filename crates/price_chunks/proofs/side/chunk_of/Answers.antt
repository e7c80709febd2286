use Rattle.std.proofs.Common.{◌≡◌, ℕ, ◌+◌, ◌-◌, ◌<◌, true, length, take, List, sym, ap, subst, ◌∙◌, arith}
use Rattle.std.specs.List.{AllByRecursion}
use Rattle.price_chunks.specs.declared.place.Step.{Step}
use Rattle.price_chunks.proofs.Flat.{before_more, after_none}
use Rattle.price_chunks.proofs.Changes.{linked_filled}
use Rattle.price_chunks.proofs.side.chunk_of.Goals as goal
use Rattle.price_chunks.proofs.side.chunk_of.Goals.{then-last-eq0-via-then-last-eq0, then-last-eq0-via-else-last-eq0+then-is_worse}
use Rattle.price_chunks.specs.Steps.{step_at, is_worse_step}
use Rattle.price_chunks.specs.Inner.Chunks.{flat, chunk_at}
use Rattle.price_chunks.specs.Inner.Pool.{chunks_at}

pub is_worse-requires : goal.is_worse-requires
is_worse-requires c =
    let chunks = chunks_at c.args.pool.now.sides c.args.side_at in
    let m = c.len-last.result - 1 - 1 in
    let n = c.len-last.ensures in
    let ne = c.if-last-eq0.false in
    let e = c.chunk.ensures in
    subst (λ (l : List Step). 0 < length l) (sym e) (linked_filled chunks m c.requires.chunks.linked (omega arith))

pub returns-then-last-eq0 : goal.returns-then-last-eq0
returns-then-last-eq0 c =
    let chunks = chunks_at c.args.pool.now.sides c.args.side_at in
    let j = c.len-last.result - 1 in
    let n = c.len-last.ensures in
    let some = c.requires.chunks.some in
    let W : List Step → Type 0 = AllByRecursion (λ (s : Step). is_worse_step c.args.side c.args.price s ≡ true) in
    record {
      within = omega arith;
      before = elim c.then-last-eq0.branch [
        | then-last-eq0-via-then-last-eq0 w ↦ subst (λ (n : ℕ). W (flat (take n chunks))) (sym w.if-last-eq0.true) tt
        | then-last-eq0-via-else-last-eq0+then-is_worse w ↦
            let ne = w.if-last-eq0.false in
            let m = j - 1 in
            let i : m + 1 ≡ j = omega arith in
            let e = w.chunk.ensures in
            let p = chunk_at chunks m in
            let full = linked_filled chunks m c.requires.chunks.linked (omega arith) in
            let n : length p - 1 + 1 ≡ length p = omega arith in
            let h : is_worse_step c.args.side c.args.price (step_at p (length p - 1)) ≡ true =
            ap (λ (l : List Step). is_worse_step c.args.side c.args.price (step_at l (length p - 1))) (sym e) ∙ sym (w.is_worse.ensures (length p - 1) (n ∙ ap length (sym e))) ∙ w.if-is_worse.true in
            subst (λ (n : ℕ). W (flat (take n chunks))) i (before_more c.args.side c.args.price chunks c.requires.ordered m (length p - 1) (omega arith) n h)
      ];
      after = after_none c.args.side c.args.price chunks c.requires.ordered j (omega arith);
    }
