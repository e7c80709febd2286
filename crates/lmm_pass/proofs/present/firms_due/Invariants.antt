use Rattle.std.proofs.Common.{drop}
use Rattle.lmm_pass.proofs.Due.{AreDue}
use Rattle.lmm_pass.proofs.present.firms_due.Given as goal

abbrev pub invariant-loop-share : goal.invariant-loop-share
invariant-loop-share l = AreDue l.fn.wanted l.fn.shares (drop l.share-index l.fn.shares) l.firms
