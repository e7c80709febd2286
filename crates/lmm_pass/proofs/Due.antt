-- A walk along the shares of a step puts the firms in a set whose share is at least one lot.
use Rattle.std.proofs.Common.{◌≡◌, ℕ, ◌||◌, List}
use Rattle.gx_base.specs.declared.order.LmmShare.{LmmShare}
use Rattle.lmm_pass.specs.FirmSets.{has_firm, is_due}
use Rattle.lmm_pass.specs.declared.firms.FirmSet.{FirmSet}

-- the firms that are in the set, and those of the shares that are left, are those that are due
abbrev pub AreDue : ℕ → List LmmShare → List LmmShare → FirmSet → Type 0
AreDue wanted shares left set = (f : ℕ) → (has_firm set f || is_due wanted left f) ≡ is_due wanted shares f
