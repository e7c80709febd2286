use Rattle.std.proofs.Common.{◌≡◌, take}
use Rattle.step_config.proofs.step.copy_shares.Given as goal

abbrev pub invariant-loop-share : goal.invariant-loop-share
invariant-loop-share l = l.copy.items ≡ take l.share-index l.shares
