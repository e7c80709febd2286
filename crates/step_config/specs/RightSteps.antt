-- What a list of steps is like that has no fault.
use Rattle.std.specs.Prelude.{ℕ, ◌≡◌, ◌≤◌, ◌==◌, false, true, List, length, map}
use Rattle.std.specs.List.{IsDistinct, AllByRecursion}
use Rattle.gx_base.specs.declared.limits.TheConstants.{MOST_LOTS}
use Rattle.gx_base.specs.declared.order.LmmShare.{LmmShare}
use Rattle.gx_base.specs.declared.order.TopRule.{TopRule}
use Rattle.step_config.specs.declared.step.TheConstants.{MOST_STEPS}
use Rattle.step_config.specs.declared.step.Step.{Step}
use Rattle.step_config.specs.declared.step.Step.TheVariants.{Top, Lmm, Split, ProRata, Leveling, Fifo}
use Rattle.step_config.specs.Rules.{name_of, is_same_name, is_fifo_last, leveling_first, percent_sum}

pub record IsBetween (low high n : ℕ) : Type 0 where
  pub at_least : low ≤ n
  pub at_most : n ≤ high

pub record IsRightRule (rule : TopRule) : Type 0 where
  pub some : 1 ≤ rule.min
  pub ordered : rule.min ≤ rule.max
  pub few : rule.max ≤ MOST_LOTS

pub record AreRightShares (shares : List LmmShare) : Type 0 where
  pub firms_differ : IsDistinct (λ a b. a == b) (map (λ (s : LmmShare). s.firm) shares)
  pub percents : AllByRecursion (λ (s : LmmShare). IsBetween 1 100 s.percent) shares
  pub at_most_all : percent_sum shares ≤ 100

abbrev pub IsRightStep : Step → Type 0
IsRightStep (Top rule) = IsRightRule rule
IsRightStep (Lmm shares) = AreRightShares shares.items
IsRightStep (Split percent) = IsBetween 1 100 percent
IsRightStep (ProRata least) = IsBetween 1 MOST_LOTS least
IsRightStep Leveling = Unit {0}
IsRightStep Fifo = Unit {0}

pub record AreRightSteps (steps : List Step) : Type 0 where
  pub some : 1 ≤ length steps
  pub few : length steps ≤ MOST_STEPS
  pub names_differ : IsDistinct is_same_name (map name_of steps)
  pub fifo_last : is_fifo_last steps ≡ true
  pub pro_rata_before_leveling : leveling_first steps ≡ false
  pub each : AllByRecursion IsRightStep steps
