-- A list of steps that has no fault is right.
use Rattle.std.proofs.Common.{◌≡◌, ℕ, ◌≤◌, ◌==◌, Bool, true, false, not, ◌&&◌, nat_le, List, [], ◌∷◌, length, map, Option, Some, None, option_map, refl, arith}
use Rattle.std.proofs.lemmas.Bool.Decides.{nat_tests}
use Rattle.std.specs.List.{AllByRecursion, find}
use Rattle.gx_base.specs.declared.limits.TheConstants.{MOST_LOTS}
use Rattle.gx_base.specs.declared.order.LmmShare.{LmmShare}
use Rattle.gx_base.specs.declared.order.TopRule.{TopRule}
use Rattle.step_config.specs.declared.step.Step.{Step}
use Rattle.step_config.specs.declared.step.Step.TheVariants.{Top, Lmm, Split, ProRata, Leveling, Fifo}
use Rattle.step_config.specs.declared.step.StepFault.TheVariants.{Percent, Least, MinMax}
use Rattle.gx_base.specs.FirstFault.{first_fault}
use Rattle.step_config.specs.Rules.{name_of, is_same_name, is_empty, is_from_to, is_percent, is_top_rule, fault_of_shares, fault_of_step, fault_of}
use Rattle.step_config.specs.RightSteps.{IsBetween, IsRightRule, AreRightShares, IsRightStep, AreRightSteps}
use Rattle.step_config.proofs.NoFault.{no_fault, few_steps, no_share_fault, no_first_step, passes}
use Rattle.step_config.specs.RepeatLaws.{none_from_cond, distinct}

-- ---- one step

not_not : (b : Bool) → not b ≡ false → b ≡ true
not_not true e = refl
not_not false e = cc

both : (a b : Bool) → (a && b) ≡ true → (a ≡ true) × (b ≡ true)
both true b e = (refl, e)
both false b e = cc

between : (low high n : ℕ) → is_from_to low high n ≡ true → IsBetween low high n
between low high n e =
    let parts = both (nat_le low n) (nat_le n high) e in
    record { at_least = grind (arith, nat_tests, parts.0); at_most = grind (arith, nat_tests, parts.1) }

right_rule : (rule : TopRule) → is_top_rule rule ≡ true → IsRightRule rule
right_rule rule e =
    let parts = both (nat_le 1 rule.min && nat_le rule.min rule.max) (nat_le rule.max MOST_LOTS) e in
    let ends = both (nat_le 1 rule.min) (nat_le rule.min rule.max) (parts.0) in
    record { some = grind (arith, nat_tests, ends.0); ordered = grind (arith, nat_tests, ends.1); few = grind (arith, nat_tests, parts.1) }

-- where none is found that fails, all pass
all_percents : (shares : List LmmShare) → find (λ (s : LmmShare). not (is_percent s.percent)) shares ≡ None → AllByRecursion (λ (s : LmmShare). IsBetween 1 100 s.percent) shares
all_percents [] e = tt
all_percents (s ∷ rest) e =
    let parts = none_from_cond (not (is_percent s.percent)) s (find (λ (s : LmmShare). not (is_percent s.percent)) rest) e in
    (between 1 100 s.percent (not_not (is_percent s.percent) (parts.0)), all_percents rest (parts.1))

none_found : {X Y : Type 0} (f : X → Y) (o : Option X) → option_map f o ≡ None → o ≡ None
none_found f None e = refl
none_found f (Some x) e = cc

right_shares : (shares : List LmmShare) → fault_of_shares shares ≡ None → AreRightShares shares
right_shares shares e =
    let right = no_share_fault shares e in
    record {
      firms_differ = distinct (λ a b. a == b) (λ (s : LmmShare). s.firm) [] shares right.once;
      percents = all_percents shares (none_found (λ (s : LmmShare). s.percent) (find (λ (s : LmmShare). not (is_percent s.percent)) shares) right.percents);
      at_most_all = grind (arith, nat_tests, right.whole);
    }

right_step : (step : Step) → fault_of_step step ≡ None → IsRightStep step
right_step (Top rule) e = right_rule rule (passes (is_top_rule rule) (MinMax rule.min rule.max) e)
right_step (Lmm shares) e = right_shares shares.items e
right_step (Split percent) e = between 1 100 percent (passes (is_percent percent) (Percent percent) e)
right_step (ProRata least) e = between 1 MOST_LOTS least (passes (is_from_to 1 MOST_LOTS least) (Least least) e)
right_step Leveling e = tt
right_step Fifo e = tt

right_each : (steps : List Step) → first_fault (map fault_of_step steps) ≡ None → AllByRecursion IsRightStep steps
right_each [] e = tt
right_each (step ∷ rest) e =
    let parts = no_first_step step rest e in
    (right_step step (parts.0), right_each rest (parts.1))

-- ---- the list

some_steps : (steps : List Step) → is_empty steps ≡ false → 1 ≤ length steps
some_steps [] e = cc
some_steps (step ∷ rest) e = omega arith

pub right_steps : (steps : List Step) → fault_of steps ≡ None → AreRightSteps steps
right_steps steps e =
    let right = no_fault steps e in
    record {
      some = some_steps steps right.some;
      few = few_steps steps e;
      names_differ = distinct is_same_name name_of [] steps right.once;
      fifo_last = right.last;
      pro_rata_before_leveling = right.later;
      each = right_each steps right.each;
    }
