use Rattle.std.proofs.Common.{subst}
use Rattle.price_level.specs.Rows.{AreRows}
use Rattle.price_level.proofs.levels.Levels.rules.Goals as goal

pub returns : goal.returns
returns c = subst AreRows c.self.view_is c.self.invariant.0.rows
