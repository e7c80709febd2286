use Rattle.std.proofs.Common.{◌≡◌, take}
use Rattle.product_file.proofs.step_lists.copy_shares.Given as goal

abbrev pub invariant-loop-share : goal.invariant-loop-share
invariant-loop-share l = l.copy.items ≡ take l.share-index l.shares
