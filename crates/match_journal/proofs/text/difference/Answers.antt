use Rattle.std.proofs.Common.{◌≡◌, take, drop, sym, ◌∙◌, ap, arith}
use Rattle.match_journal.specs.LookLaws.{looks_then, looks_more}
use Rattle.match_journal.proofs.Pieces.{piece_differs, piece_same, pieces_same, pieces_differ}
use Rattle.match_journal.proofs.text.difference.Goals as goal

pub returns-then-same-count-clause-text : goal.returns-then-same-count-clause-text
returns-then-same-count-clause-text g c = λ image text read is long.
    piece_differs image text c.args.product.now _ c.args.place.at c.args.place.len c.loop-at.at c.min-count.result c.in_ok-same.same is long (omega (arith, c.min-count.ensures, c.loop-at.invariant.most, c.loop-at.invariant.size)) (omega (arith, c.min-count.ensures, c.loop-at.invariant.most, c.loop-at.invariant.size))
    (c.loop-at.invariant.so_far image text read is long) (ap (λ k. take k (drop c.loop-at.at c.args.product.now)) (omega arith)) (c.in_ok-same.ensures.value image (c.loop-at.invariant.looks.keeps.holds ∙ read)) c.if-same-count.true

pub loop-at-preserved : goal.loop-at-preserved
loop-at-preserved g c =
    let m = g.S.Station.meanings in
    let whole : c.in_ok-same.same ≡ c.min-count.result = omega (arith, c.if-same-count.false, c.in_ok-same.ensures.within) in
    record {
      size = c.loop-at.invariant.size;
      most = c.loop-at.invariant.most;
      within = omega (arith, c.min-count.ensures, whole, c.loop-at-test.true);
      looks = looks_more m _ _ _ _ (omega (arith, whole)) (looks_then m _ _ _ _ _ c.loop-at.invariant.looks c.same_in.ensures.looks);
      reach = c.same_in.ensures.reach ∙ c.loop-at.invariant.reach;
      faults = c.in_ok-same.ensures.on_store.cause.ok ∙ c.loop-at.invariant.faults;
      so_far = λ image text read is long.
          piece_same image text c.args.product.now _ c.args.place.at c.args.place.len c.loop-at.at c.min-count.result c.in_ok-same.same is long (omega (arith, c.min-count.ensures, c.loop-at.invariant.most, c.loop-at.invariant.size)) (omega (arith, c.min-count.ensures, c.loop-at.invariant.most, c.loop-at.invariant.size))
          (c.loop-at.invariant.so_far image text read is long) (ap (λ k. take k (drop c.loop-at.at c.args.product.now)) (omega arith)) (c.in_ok-same.ensures.value image (c.loop-at.invariant.looks.keeps.holds ∙ read)) whole;
    }

pub returns-then-size-product-clause-text : goal.returns-then-size-product-clause-text
returns-then-size-product-clause-text g c = λ image text read is long.
    pieces_same text c.args.product.now c.args.place.len c.loop-at.at long (omega (arith, c.loop-at-test.false, c.loop-at.invariant.within, c.loop-at.invariant.most, c.loop-at.invariant.size)) (c.loop-at.invariant.so_far image text read is long) (omega (arith, c.if-size-product.true, c.loop-at.invariant.size))

pub returns-else-size-product-clause-text : goal.returns-else-size-product-clause-text
returns-else-size-product-clause-text g c = λ image text read is long.
    let at_most : c.loop-at.at ≡ c.min-most.result = omega (arith, c.loop-at-test.false, c.loop-at.invariant.within) in
    let both = pieces_differ text c.args.product.now c.args.place.len c.loop-at.at long (omega (arith, at_most, c.loop-at.invariant.most, c.loop-at.invariant.size)) (c.loop-at.invariant.so_far image text read is long) (λ same. c.if-size-product.false (omega (arith, same, c.loop-at.invariant.size))) in
    (both.0, sym at_most ∙ both.1)
