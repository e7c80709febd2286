use Rattle.std.proofs.Common.{◌≡◌, ◌+◌, ◌-◌, subst, sym, ap, ◌∙◌, arith}
use Rattle.price_chunks.proofs.Changes.{flat_joined, right_kept, left_kept, first_kept, stay_kept}
use Rattle.price_chunks.proofs.Sided.{whole, side_of, rest_is, unchanged}
use Rattle.price_chunks.proofs.side.tidy.Goals as goal
use Rattle.price_chunks.proofs.side.tidy.Goals.{else-at-gt0-via-then-at-gt0+else-is_small-2, else-at-gt0-via-else-at-gt0}
use Rattle.price_chunks.specs.Inner.Chunks.{flat, AreChunks}
use Rattle.price_chunks.specs.Inner.Pool.{chunks_at}

pub returns-then-is_small-clause-flat : goal.returns-then-is_small-clause-flat
returns-then-is_small-clause-flat c =
    let small = (c.is_small.ensures.small c.if-is_small.true) in
    ap flat (side_of c.args.pool.now c.args.side_at c.requires.listed c.join.new.self (whole c.args.at (chunks_at c.args.pool.now.sides c.args.side_at)) c.join.ensures) ∙ flat_joined (chunks_at c.args.pool.now.sides c.args.side_at) c.args.at small.within

pub returns-then-is_small-clause-chunks : goal.returns-then-is_small-clause-chunks
returns-then-is_small-clause-chunks c =
    let small = (c.is_small.ensures.small c.if-is_small.true) in
    subst AreChunks (sym (side_of c.args.pool.now c.args.side_at c.requires.listed c.join.new.self (whole c.args.at (chunks_at c.args.pool.now.sides c.args.side_at)) c.join.ensures)) (right_kept (chunks_at c.args.pool.now.sides c.args.side_at) c.args.at c.requires.chunks small)

pub returns-then-is_small-2-clause-flat : goal.returns-then-is_small-2-clause-flat
returns-then-is_small-2-clause-flat c =
    let small = (c.is_small-then-at-gt0.ensures.small c.if-is_small-2.true) in
    ap flat (side_of c.args.pool.now c.args.side_at c.requires.listed c.join-then-is_small-2.new.self (whole (c.args.at - 1) (chunks_at c.args.pool.now.sides c.args.side_at)) c.join-then-is_small-2.ensures) ∙ flat_joined (chunks_at c.args.pool.now.sides c.args.side_at) (c.args.at - 1) small.within

pub returns-then-is_small-2-clause-chunks : goal.returns-then-is_small-2-clause-chunks
returns-then-is_small-2-clause-chunks c =
    let j = c.args.at in
    let small = (c.is_small-then-at-gt0.ensures.small c.if-is_small-2.true) in
    let pair = (c.is_small.ensures.pair c.if-is_small.false) in
    subst AreChunks (sym (side_of c.args.pool.now c.args.side_at c.requires.listed c.join-then-is_small-2.new.self (whole (c.args.at - 1) (chunks_at c.args.pool.now.sides c.args.side_at)) c.join-then-is_small-2.ensures)) (left_kept (chunks_at c.args.pool.now.sides c.args.side_at) j c.requires.chunks pair (j - 1) (omega (arith, c.if-at-gt0.true)) small)

pub returns-else-at-gt0-clause-chunks : goal.returns-else-at-gt0-clause-chunks
returns-else-at-gt0-clause-chunks c =
    let j = c.args.at in
    let chunks = (chunks_at c.args.pool.now.sides c.args.side_at) in
    let pair = (c.is_small.ensures.pair c.if-is_small.false) in
    elim c.else-at-gt0.branch [
      | else-at-gt0-via-then-at-gt0+else-is_small-2 w ↦
          let i : j - 1 + 1 ≡ j = omega (arith, w.if-at-gt0.true) in
          let before = (w.is_small-then-at-gt0.ensures.pair w.if-is_small-2.false) in
          stay_kept chunks j c.requires.chunks pair (j - 1) i (before (omega (arith, i, c.requires.chunks.within)))
      | else-at-gt0-via-else-at-gt0 w ↦ first_kept chunks j c.requires.chunks pair (omega (arith, w.if-at-gt0.false))
    ]

pub returns-then-is_small-clause-rest : goal.returns-then-is_small-clause-rest
returns-then-is_small-clause-rest c = rest_is c.args.pool.now c.args.side_at c.requires.listed c.join.new.self (whole c.args.at (chunks_at c.args.pool.now.sides c.args.side_at)) c.join.ensures

pub returns-then-is_small-2-clause-rest : goal.returns-then-is_small-2-clause-rest
returns-then-is_small-2-clause-rest c = rest_is c.args.pool.now c.args.side_at c.requires.listed c.join-then-is_small-2.new.self (whole (c.args.at - 1) (chunks_at c.args.pool.now.sides c.args.side_at)) c.join-then-is_small-2.ensures

pub returns-else-at-gt0-clause-rest : goal.returns-else-at-gt0-clause-rest
returns-else-at-gt0-clause-rest c = unchanged c.args.pool.now c.args.side_at
