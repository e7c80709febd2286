-- Where no fault is found, none of those that were tried is there.
use Rattle.std.proofs.Common.{◌≡◌, ◌≤◌, Bool, true, false, not, nat_lt, List, [], ◌∷◌, length, map, Option, Some, None, option_map, refl}
use Rattle.gx_base.specs.declared.order.LmmShare.{LmmShare}
use Rattle.step_config.specs.declared.step.TheConstants.{MOST_STEPS}
use Rattle.step_config.specs.StepLaws.{few_once}
use Rattle.step_config.specs.declared.step.Step.{Step}
use Rattle.step_config.specs.declared.step.StepFault.{StepFault}
use Rattle.step_config.specs.declared.step.StepFault.TheVariants.{Empty, Twice, NotLast, LevelingFirst, Firm, Percent}
use Rattle.gx_base.specs.FirstFault.{first_fault, fault_if}
use Rattle.step_config.specs.Rules.{is_empty, first_twice, is_fifo_last, leveling_first, first_firm_twice, first_wrong_percent, percent_sum, fault_of_shares, fault_of_step, fault_of}

no_first : (first : Option StepFault) (rest : List (Option StepFault)) → first_fault (first ∷ rest) ≡ None → (first ≡ None) × (first_fault rest ≡ None)
no_first None rest e = (refl, e)
no_first (Some fault) rest e = cc

unmapped : {X : Type 0} (f : X → StepFault) (o : Option X) → option_map f o ≡ None → o ≡ None
unmapped f None e = refl
unmapped f (Some x) e = cc

unless : (holds : Bool) (fault : StepFault) → fault_if holds fault ≡ None → holds ≡ false
unless true fault e = cc
unless false fault e = refl

-- a test passes whose failure is a fault
pub passes : (holds : Bool) (fault : StepFault) → fault_if (not holds) fault ≡ None → holds ≡ true
passes true fault e = refl
passes false fault e = cc

pub record NoFault (steps : List Step) : Type 0 where
  pub some : is_empty steps ≡ false
  pub once : first_twice steps ≡ None
  pub last : is_fifo_last steps ≡ true
  pub later : leveling_first steps ≡ false
  pub each : first_fault (map fault_of_step steps) ≡ None

pub no_fault : (steps : List Step) → fault_of steps ≡ None → NoFault steps
no_fault steps e =
    let each = first_fault (map fault_of_step steps) in
    let leveling = fault_if (leveling_first steps) LevelingFirst in
    let last = fault_if (not (is_fifo_last steps)) NotLast in
    let twice = option_map Twice (first_twice steps) in
    let a = no_first (fault_if (is_empty steps) Empty) (twice ∷ last ∷ leveling ∷ each ∷ []) e in
    let b = no_first twice (last ∷ leveling ∷ each ∷ []) (a.1) in
    let c = no_first last (leveling ∷ each ∷ []) (b.1) in
    let d = no_first leveling (each ∷ []) (c.1) in
    let f = no_first each [] (d.1) in
    record {
      some = unless (is_empty steps) Empty (a.0);
      once = unmapped Twice (first_twice steps) (b.0);
      last = passes (is_fifo_last steps) NotLast (c.0);
      later = unless (leveling_first steps) LevelingFirst (d.0);
      each = f.0;
    }

pub record NoShareFault (shares : List LmmShare) : Type 0 where
  pub once : first_firm_twice shares ≡ None
  pub percents : first_wrong_percent shares ≡ None
  pub whole : nat_lt 100 (percent_sum shares) ≡ false

pub no_share_fault : (shares : List LmmShare) → fault_of_shares shares ≡ None → NoShareFault shares
no_share_fault shares e =
    let whole = fault_if (nat_lt 100 (percent_sum shares)) (Percent (percent_sum shares)) in
    let percents = option_map Percent (first_wrong_percent shares) in
    let a = no_first (option_map Firm (first_firm_twice shares)) (percents ∷ whole ∷ []) e in
    let b = no_first percents (whole ∷ []) (a.1) in
    let c = no_first whole [] (b.1) in
    record {
      once = unmapped Firm (first_firm_twice shares) (a.0);
      percents = unmapped Percent (first_wrong_percent shares) (b.0);
      whole = unless (nat_lt 100 (percent_sum shares)) (Percent (percent_sum shares)) (c.0);
    }

pub no_first_step : (step : Step) (rest : List Step) → first_fault (map fault_of_step (step ∷ rest)) ≡ None → (fault_of_step step ≡ None) × (first_fault (map fault_of_step rest) ≡ None)
no_first_step step rest e = no_first (fault_of_step step) (map fault_of_step rest) e

pub few_steps : (steps : List Step) → fault_of steps ≡ None → length steps ≤ MOST_STEPS
few_steps steps e = few_once steps (no_fault steps e).once
