use Rattle.std.proofs.Common.{◌≡◌, ◌≤◌, ◌*◌, take}
use Rattle.step_config.specs.Rules.{percent_sum}
use Rattle.step_config.proofs.share_faults.percent_sum.Given as goal

abbrev pub invariant-loop-share : goal.invariant-loop-share
invariant-loop-share l = (l.sum ≡ percent_sum (take l.share-index l.shares)) × (l.sum ≤ 255 * l.share-index)
