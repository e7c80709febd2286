use Rattle.std.proofs.Common.{◌≡◌, ◌==◌, take, drop}
use Rattle.gx_base.specs.declared.order.LmmShare.{LmmShare}
use Rattle.step_config.specs.Rules.{first_firm_twice, first_twice_after}
use Rattle.step_config.proofs.share_faults.first_firm_twice.Given as goal

abbrev pub invariant-loop-i : goal.invariant-loop-i
invariant-loop-i l = first_firm_twice l.shares ≡ first_twice_after (λ a b. a == b) (λ (s : LmmShare). s.firm) (take l.i l.shares) (drop l.i l.shares)
