use Rattle.std.proofs.Common.{◌-◌, length}
use Rattle.id_table.proofs.Sinking.{HasSunk}
use Rattle.id_table.proofs.forest.Forest.leaf_below.Given as goal

abbrev pub invariant-loop-high : goal.invariant-loop-high
invariant-loop-high l = HasSunk l.self l.fn.spot l.leaf

abbrev pub decreases-loop-high : goal.decreases-loop-high
decreases-loop-high l = length l.self.nodes.items - l.leaf.depth
