use Rattle.std.proofs.Common.{true, false, sym, ◌∙◌}
use Rattle.book_image.proofs.CheckTops.{walk-as}
use Rattle.book_image.proofs.check.is_at_best.Goals as goal

pub returns-then-is_named_at : goal.returns-then-is_named_at
returns-then-is_named_at c =
    sym (c.loop-k.invariant
    ∙ walk-as c.args.instrument c.args.side c.args.number c.args.payload.now c.args.first c.args.count c.loop-k.k c.loop-k.best c.best_with-best.result c.row_at-row.result.now
    c.is_named_at.result true c.loop-k-test.true c.row_at-row.ensures.row c.best_with-best.ensures c.is_named_at.ensures c.if-is_named_at.true)

pub loop-k-preserved : goal.loop-k-preserved
loop-k-preserved c =
    c.loop-k.invariant
    ∙ walk-as c.args.instrument c.args.side c.args.number c.args.payload.now c.args.first c.args.count c.loop-k.k c.loop-k.best c.best_with-best.result c.row_at-row.result.now
    c.is_named_at.result false c.loop-k-test.true c.row_at-row.ensures.row c.best_with-best.ensures c.is_named_at.ensures c.if-is_named_at.false
