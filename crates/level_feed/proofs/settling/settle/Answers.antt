use Rattle.std.proofs.Common.{◌∙◌, Vec, Global, ap, ap₂, sym, subst}
use Rattle.level_feed.specs.declared.row.Row.{Row}
use Rattle.level_feed.specs.Rows.{with_rows, AreOrdered}
use Rattle.level_feed.proofs.Lengths.{ordered-with-rows}
use Rattle.level_feed.proofs.settling.settle.Goals as goal

pub returns-clause-ordered : goal.returns-clause-ordered
returns-clause-ordered c =
    subst AreOrdered
    (sym (ap (λ (v : Vec Row Global). v.items) c.swap.ensures.x_after ∙ c.merge.ensures.rows ∙ ap₂ with_rows c.deref-2.ensures.value c.deref.ensures.value))
    (ordered-with-rows c.args.changes.now.items c.args.settled.now.items c.requires.settled)
