use Rattle.std.proofs.Common.{◌≡◌, Some, sym, ◌∙◌}
use Rattle.order_kinds.proofs.Terms.{best-in-range}
use Rattle.order_kinds.proofs.new_orders.limit_of.Goals as goal

pub protected_limit-requires-clause-range : goal.protected_limit-requires-clause-range
protected_limit-requires-clause-range g c =
    let best = c.in_ok-best-in-Market in
    let was : c.best.result ≡ Some best.best = best.was in
    best-in-range c.args.instrument.now.number c.opposite_side-side.result (g.B.Book.book c.args.book.now).resting best.best c.requires.range (sym c.best.ensures ∙ was)
