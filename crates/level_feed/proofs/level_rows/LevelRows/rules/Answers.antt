use Rattle.std.proofs.Common.{ap, subst}
use Rattle.level_feed.specs.Held.{FeedRows}
use Rattle.level_feed.specs.Rows.{AreOrdered}
use Rattle.level_feed.proofs.Lengths.{ordered-with-rows}
use Rattle.level_feed.proofs.level_rows.LevelRows.rules.Goals as goal

pub returns-clause-ordered : goal.returns-clause-ordered
returns-clause-ordered c = subst AreOrdered (ap (λ (q : FeedRows). q.rows) c.self.view_is) (ordered-with-rows c.self.inside.changes.items c.self.inside.settled.items c.self.invariant.0)
