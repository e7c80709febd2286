use Rattle.std.proofs.Common.{◌-◌, length}
use Rattle.id_table.specs.Ids.{key}
use Rattle.id_table.proofs.Passing.{HasPassed}
use Rattle.id_table.proofs.forest.Forest.spot_of.Given as goal

abbrev pub invariant-loop-spot : goal.invariant-loop-spot
invariant-loop-spot l = HasPassed l.self (key l.firm l.id) l.spot

abbrev pub decreases-loop-spot : goal.decreases-loop-spot
decreases-loop-spot l = length l.self.nodes.items - l.spot.depth
