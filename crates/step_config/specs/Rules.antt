-- Which lists of steps are right, and what is wrong with another one (our own rule).
use Rattle.std.specs.Prelude.{ℕ, ◌-◌, ◌==◌, Bool, true, false, not, ◌&&◌, nat_lt, nat_le, if◌then◌else◌, List, [], ◌∷◌, ◌++◌, length, map, slice_get, sum_by, find, option_map, Option, Some, None, Result}
use Rattle.std.specs.List.{list_any, before_first}
use Rattle.gx_base.specs.FirstFault.{fault_if, first_fault, unless_fault}
use Rattle.gx_base.specs.declared.limits.TheConstants.{MOST_LOTS}
use Rattle.gx_base.specs.declared.event.StepName.{StepName}
use Rattle.gx_base.specs.declared.event.StepName.TheVariants as name
use Rattle.gx_base.specs.declared.order.LmmShare.{LmmShare}
use Rattle.gx_base.specs.declared.order.TopRule.{TopRule}
use Rattle.step_config.specs.declared.step.Step.{Step}
use Rattle.step_config.specs.declared.step.Step.TheVariants.{Top, Lmm, Split, ProRata, Leveling, Fifo}
use Rattle.step_config.specs.declared.step.StepFault.{StepFault}
use Rattle.step_config.specs.declared.step.StepFault.TheVariants.{Empty, Twice, NotLast, LevelingFirst, Firm, Percent, Least, MinMax}

-- ---- names

abbrev pub name_of : Step → StepName
name_of (Top rule) = name.Top
name_of (Lmm shares) = name.Lmm
name_of (Split percent) = name.Split
name_of (ProRata least) = name.ProRata
name_of Leveling = name.Leveling
name_of Fifo = name.Fifo

abbrev pub is_same_name : StepName → StepName → Bool
is_same_name name.Top name.Top = true
is_same_name name.Lmm name.Lmm = true
is_same_name name.Split name.Split = true
is_same_name name.ProRata name.ProRata = true
is_same_name name.Leveling name.Leveling = true
is_same_name name.Fifo name.Fifo = true
is_same_name a b = false

abbrev pub is_fifo : Step → Bool
is_fifo step = is_same_name (name_of step) name.Fifo

abbrev pub is_leveling : Step → Bool
is_leveling step = is_same_name (name_of step) name.Leveling

abbrev pub is_pro_rata : Step → Bool
is_pro_rata step = is_same_name (name_of step) name.ProRata

-- ---- faults of the list

abbrev pub is_empty : List Step → Bool
is_empty steps = length steps == 0

-- the key of the first of `items` whose key an item before it has, where those of `earlier` stand before all of them
abbrev pub first_twice_after : {X K : Type 0} → (K → K → Bool) → (X → K) → List X → List X → Option K
first_twice_after same key earlier [] = None
first_twice_after same key earlier (item ∷ rest) =
    if list_any (λ before. same (key before) (key item)) earlier then Some (key item)
    else first_twice_after same key (earlier ++ item ∷ []) rest

-- whether one of these steps has this name
abbrev pub has_name : StepName → List Step → Bool
has_name n steps = list_any (λ step. is_same_name (name_of step) n) steps

-- the name of the first step whose name an earlier step has
abbrev pub first_twice : List Step → Option StepName
first_twice steps = first_twice_after is_same_name name_of [] steps

abbrev pub is_some_fifo : Option Step → Bool
is_some_fifo None = false
is_some_fifo (Some step) = is_fifo step

abbrev pub is_fifo_last : List Step → Bool
is_fifo_last steps = is_some_fifo (slice_get steps (length steps - 1))

-- whether LEVELING stands in the list, and no PRORATA before it
abbrev pub leveling_first : List Step → Bool
leveling_first steps = list_any is_leveling steps && not (list_any is_pro_rata (before_first is_leveling steps))

-- ---- faults of one step

abbrev pub is_from_to : ℕ → ℕ → ℕ → Bool
is_from_to low high n = nat_le low n && nat_le n high

abbrev pub is_percent : ℕ → Bool
is_percent n = is_from_to 1 100 n

-- whether one of these shares is of this firm
abbrev pub has_firm : ℕ → List LmmShare → Bool
has_firm firm shares = list_any (λ (s : LmmShare). s.firm == firm) shares

-- the firm of the first share whose firm an earlier share has
abbrev pub first_firm_twice : List LmmShare → Option ℕ
first_firm_twice shares = first_twice_after (λ a b. a == b) (λ (s : LmmShare). s.firm) [] shares

-- the first percent of these that is none from 1 to 100
abbrev pub first_wrong_percent : List LmmShare → Option ℕ
first_wrong_percent shares = option_map (λ (s : LmmShare). s.percent) (find (λ (s : LmmShare). not (is_percent s.percent)) shares)

abbrev pub percent_sum : List LmmShare → ℕ
percent_sum shares = sum_by (λ (s : LmmShare). s.percent) shares

abbrev pub fault_of_shares : List LmmShare → Option StepFault
fault_of_shares shares =
    first_fault
    (option_map Firm (first_firm_twice shares)
    ∷ option_map Percent (first_wrong_percent shares)
    ∷ fault_if (nat_lt 100 (percent_sum shares)) (Percent (percent_sum shares))
    ∷ [])

abbrev pub is_top_rule : TopRule → Bool
is_top_rule rule = nat_le 1 rule.min && nat_le rule.min rule.max && nat_le rule.max MOST_LOTS

abbrev pub fault_of_step : Step → Option StepFault
fault_of_step (Top rule) = fault_if (not (is_top_rule rule)) (MinMax rule.min rule.max)
fault_of_step (Lmm shares) = fault_of_shares shares.items
fault_of_step (Split percent) = fault_if (not (is_percent percent)) (Percent percent)
fault_of_step (ProRata least) = fault_if (not (is_from_to 1 MOST_LOTS least)) (Least least)
fault_of_step Leveling = None
fault_of_step Fifo = None

-- ---- the list

-- the first fault of a list of steps
abbrev pub fault_of : List Step → Option StepFault
fault_of steps =
    first_fault
    (fault_if (is_empty steps) Empty
    ∷ option_map Twice (first_twice steps)
    ∷ fault_if (not (is_fifo_last steps)) NotLast
    ∷ fault_if (leveling_first steps) LevelingFirst
    ∷ first_fault (map fault_of_step steps)
    ∷ [])

-- the list, if it has no fault, or else its first fault
abbrev pub steps_of : List Step → Result (List Step) StepFault
steps_of steps = unless_fault (fault_of steps) steps

-- the rule of the TOP step
abbrev pub top_rule_of : List Step → Option TopRule
top_rule_of [] = None
top_rule_of (Top rule ∷ rest) = Some rule
top_rule_of (step ∷ rest) = top_rule_of rest
