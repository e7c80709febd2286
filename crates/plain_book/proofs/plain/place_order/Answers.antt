use Rattle.std.proofs.Common.{None, sym, ap, subst, ◌∙◌}
use Rattle.plain_book.specs.Book.{EachPair, AreInBookOrder}
use Rattle.plain_book.proofs.Right.{ordered-marked}
use Rattle.plain_book.proofs.plain.place_order.Goals as goal
use Rattle.plain_book.proofs.plain.place_order.Goals.{then-best, else-best}

pub put_in-requires-clause-ordered : goal.put_in-requires-clause-ordered
put_in-requires-clause-ordered c =
    let es = c.args.entries.now.items in
    let o = c.args.order in
    elim c.if-best.branch [
      | then-best w ↦ subst (EachPair AreInBookOrder) (sym (ap (λ (v : _). v.items) w.entries-is ∙ w.mark_top.ensures.entries)) (ordered-marked o.instrument o.side None es c.requires.ordered)
      | else-best w ↦ subst (EachPair AreInBookOrder) (sym (ap (λ (v : _). v.items) w.entries-is)) c.requires.ordered
    ]
