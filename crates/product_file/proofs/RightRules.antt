-- What the rule of an instrument is like.
use Rattle.std.proofs.Common.{◌≡◌, ℕ, ◌≤◌, pos, Bool, true, false, List, [], ◌∷◌, map, length, codes, bytes_eq, Option, Some, None, unwrap_or, cond, Result, Ok, Err, refl, subst, arith}
use Rattle.std.specs.List.{AllByRecursion}
use Rattle.std.proofs.lemmas.Int.{ints}
use Rattle.step_config.specs.declared.step.Step.{Step}
use Rattle.step_config.specs.declared.step.Step.TheVariants.{Top, Lmm, Split, ProRata, Leveling, Fifo}
use Rattle.step_config.specs.declared.step.StepFault.{StepFault}
use Rattle.step_config.specs.declared.presets.Letter.{Letter}
use Rattle.step_config.specs.declared.presets.Letter.TheVariants.{F, C, A, T, O, Q, K}
use Rattle.step_config.specs.declared.presets.Params.{Params}
use Rattle.gx_base.specs.FirstFault.{unless_fault}
use Rattle.step_config.specs.Rules.{fault_of}
use Rattle.step_config.specs.RightSteps.{AreRightSteps}
use Rattle.step_config.proofs.Right.{right_steps}
use Rattle.toml.specs.Data.{Data}
use Rattle.gx_base.specs.declared.limits.TheConstants.{MOST_LOTS}
use Rattle.product_file.specs.declared.limits.TheConstants.{MOST_TICK, MOST_PROTECTION}
use Rattle.product_file.specs.declared.algorithms.Parameters.{Parameters}
use Rattle.product_file.specs.declared.product.InstrumentRule.{InstrumentRule}
use Rattle.product_file.specs.declared.faults.ProductFault.{ProductFault}
use Rattle.product_file.specs.declared.faults.ProductFault.TheVariants.{Steps}
use Rattle.product_file.specs.declared.faults.Key.TheVariants.{TopMin, TopMax, Least, Tick, Protection}
use Rattle.product_file.specs.declared.faults.Key.TheVariants as key
use Rattle.product_file.specs.Letters.{usual_least}
use Rattle.product_file.specs.Inner.Keys.{needed_number, number_if}
use Rattle.product_file.specs.Inner.Shares.{shares_of}
use Rattle.product_file.specs.Inner.Algorithms.{algorithm_of, needs_split, parameters_of}
use Rattle.product_file.specs.Inner.StepLists.{step_named, step_names_of, written_steps, or_steps_fault, letter_steps}
use Rattle.product_file.specs.Inner.Instruments.{rule_of}
use Rattle.product_file.specs.Products.{HasListedFirms, IsRightInstrument}
use Rattle.product_file.proofs.Given.{both_gave}
use Rattle.product_file.proofs.RightShares.{IsListed, listed_shares, needed_within}

-- ---- the steps

-- what the steps take has shares of listed firms
pub record HasListedShares (firms : List (List ℕ)) (parameters : Parameters) : Type 0 where
  pub listed : AllByRecursion (IsListed firms) parameters.preset.lmm.items

made_of : (firms : List (List ℕ)) (preset : Params) (split : ℕ) (parameters : Parameters) → AllByRecursion (IsListed firms) preset.lmm.items → ◌≡◌ {A = Result Parameters ProductFault} (Ok (record { preset = preset; split = split })) (Ok parameters) → HasListedShares firms parameters
made_of firms preset split parameters all e =
    let same : preset.lmm ≡ parameters.preset.lmm = cc in
    record { listed = subst (λ v. AllByRecursion (IsListed firms) v.items) same all }

module _ (firms : List (List ℕ)) (parameters : Parameters) (given : HasListedShares firms parameters) where
  one_of : (a b : Step) (t : Bool) → HasListedFirms (length firms) a → HasListedFirms (length firms) b → HasListedFirms (length firms) (cond t a b)
  one_of a b true x y = x
  one_of a b false x y = y

  named_step : (name : List ℕ) → HasListedFirms (length firms) (step_named parameters name)
  named_step name =
      one_of (Top parameters.preset.top) _ (bytes_eq name (codes "TOP")) tt
      (one_of (Lmm parameters.preset.lmm) _ (bytes_eq name (codes "LMM")) given.listed
      (one_of (Split parameters.split) _ (bytes_eq name (codes "SPLIT")) tt
      (one_of (ProRata parameters.preset.least) _ (bytes_eq name (codes "PRORATA")) tt
      (one_of Leveling Fifo (bytes_eq name (codes "LEVELING")) tt tt))))

  own_steps : (names : List (List ℕ)) → AllByRecursion (HasListedFirms (length firms)) (map (step_named parameters) names)
  own_steps [] = tt
  own_steps (name ∷ names) = (named_step name, own_steps names)

  pub listed_steps : (letter : Letter) (names : List (List ℕ)) → AllByRecursion (HasListedFirms (length firms)) (written_steps letter parameters names)
  listed_steps F names = (tt, tt)
  listed_steps C names = (tt, (tt, tt))
  listed_steps A names = (tt, (tt, (tt, tt)))
  listed_steps T names = (given.listed, (tt, tt))
  listed_steps O names = (tt, (tt, (tt, tt)))
  listed_steps Q names = (tt, (given.listed, (tt, (tt, tt))))
  listed_steps K names = own_steps names

steps_kept : (steps given : List Step) (fault : Option StepFault) → or_steps_fault (unless_fault fault steps) ≡ Ok given → steps ≡ given
steps_kept steps given None e = cc
steps_kept steps given (Some fault) e = cc

-- a list without a fault is a right one
list_right : (steps given : List Step) (fault : Option StepFault) → fault_of steps ≡ fault → or_steps_fault (unless_fault fault steps) ≡ Ok given → AreRightSteps given
list_right steps given None is e = subst AreRightSteps (steps_kept steps given None e) (right_steps steps is)
list_right steps given (Some fault) is e = absurd (let k : ◌≡◌ {A = Result (List Step) ProductFault} (Err (Steps fault)) (Ok given) = e in cc)

-- ---- the rule

right_parameters : (firms : List (List ℕ)) (letter : Letter) (fields : Data) (parameters : Parameters) → parameters_of firms letter fields ≡ Ok parameters → HasListedShares firms parameters
unfolding parameters_of
right_parameters firms letter fields parameters e =
    let (min, _, e1) = both_gave (number_if false TopMin 1 MOST_LOTS fields) _ parameters e in
    let (max, _, e2) = both_gave (number_if false TopMax 1 MOST_LOTS fields) _ parameters e1 in
    let (least, _, e3) = both_gave (number_if false Least 1 MOST_LOTS fields) _ parameters e2 in
    let (split, _, e4) = both_gave (number_if (needs_split letter fields) key.Split 1 100 fields) _ parameters e3 in
    let (shares, given, e5) = both_gave (shares_of firms fields) _ parameters e4 in
    made_of firms
    (record { top = record { min = unwrap_or min 1; max = unwrap_or max MOST_LOTS }; least = unwrap_or least (usual_least letter); lmm = shares })
    (unwrap_or split 0) parameters (listed_shares firms fields shares given) e5

steps_listed : (firms : List (List ℕ)) (letter : Letter) (parameters : Parameters) (names : List (List ℕ)) (steps : List Step) → HasListedShares firms parameters → letter_steps letter parameters names ≡ Ok steps → AllByRecursion (HasListedFirms (length firms)) steps
steps_listed firms letter parameters names steps given e =
    let kept = steps_kept (written_steps letter parameters names) steps (fault_of (written_steps letter parameters names)) e in
    subst (AllByRecursion (HasListedFirms (length firms))) kept (listed_steps firms parameters given letter names)

made_rule : (firms : List (List ℕ)) (tick protection : ℕ) (letter : Letter) (steps : List Step) (rule : InstrumentRule) → (1 ≤ tick) × (tick ≤ MOST_TICK) → protection ≤ MOST_PROTECTION → AllByRecursion (HasListedFirms (length firms)) steps → AreRightSteps steps
    → ◌≡◌ {A = Result InstrumentRule ProductFault} (Ok (record { tick = pos tick; protection = protection; letter = letter; steps = steps })) (Ok rule) → IsRightInstrument (length firms) rule
made_rule firms tick protection letter steps rule ticks few listed right e =
    let same : ◌≡◌ {A = InstrumentRule} (record { tick = pos tick; protection = protection; letter = letter; steps = steps }) rule = cc in
    subst (IsRightInstrument (length firms)) same (record {
      least_tick = omega (arith, ints, ticks.0);
      most_tick = omega (arith, ints, ticks.1);
      protection = few;
      listed_firms = listed;
      right_steps = right;
    })

pub right_rule : (firms : List (List ℕ)) (fields : Data) (rule : InstrumentRule) → rule_of firms fields ≡ Ok rule → IsRightInstrument (length firms) rule
unfolding rule_of
right_rule firms fields rule e =
    let (tick, ticks, e1) = both_gave (needed_number Tick 1 MOST_TICK fields) _ rule e in
    let (protection, few, e2) = both_gave (needed_number Protection 0 MOST_PROTECTION fields) _ rule e1 in
    let (letter, _, e3) = both_gave (algorithm_of fields) _ rule e2 in
    let (parameters, given, e4) = both_gave (parameters_of firms letter fields) _ rule e3 in
    let (names, _, e5) = both_gave (step_names_of letter fields) _ rule e4 in
    let (steps, kept, e6) = both_gave (letter_steps letter parameters names) _ rule e5 in
    made_rule firms tick protection letter steps rule
    (needed_within Tick 1 MOST_TICK fields tick ticks)
    (needed_within Protection 0 MOST_PROTECTION fields protection few).1
    (steps_listed firms letter parameters names steps (right_parameters firms letter fields parameters given) kept)
    (list_right (written_steps letter parameters names) steps (fault_of (written_steps letter parameters names)) refl kept)
    e6
