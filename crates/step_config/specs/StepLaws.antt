-- Laws of the names of steps: a list in which none stands twice has at most as many steps as there are names.
use Rattle.std.proofs.Common.{◌≡◌, ℕ, ◌+◌, ◌≤◌, Bool, true, false, ◌||◌, List, [], ◌∷◌, ◌++◌, length, None, refl, arith}
use Rattle.std.proofs.Math.Bool.{or-false}
use Rattle.std.proofs.lemmas.List.Folds.{list_any-append}
use Rattle.gx_base.specs.declared.event.StepName.{StepName}
use Rattle.gx_base.specs.declared.event.StepName.TheVariants as name
use Rattle.step_config.specs.declared.step.Step.{Step}
use Rattle.step_config.specs.declared.step.TheConstants.{MOST_STEPS}
use Rattle.step_config.specs.Rules.{name_of, is_same_name, has_name, first_twice_after}
use Rattle.step_config.specs.RepeatLaws.{none_from_cond}

abbrev free : Bool → ℕ
free true = 0
free false = 1

-- how many names none of these has
abbrev room : List Step → ℕ
room earlier =
    free (has_name name.Top earlier)
    + free (has_name name.Lmm earlier)
    + free (has_name name.Split earlier)
    + free (has_name name.ProRata earlier)
    + free (has_name name.Leveling earlier)
    + free (has_name name.Fifo earlier)

has_name-push : (n : StepName) (earlier : List Step) (step : Step) → has_name n (earlier ++ step ∷ []) ≡ (has_name n earlier || is_same_name (name_of step) n)
has_name-push n earlier step =
    rw (list_any-append (λ s. is_same_name (name_of s) n) earlier (step ∷ []), or-false (is_same_name (name_of step) n)) refl

-- taking a free name leaves one fewer: the names that a list has, by the six flags
taken : (n : StepName) (flag : StepName → Bool) → flag n ≡ false →
    free (flag name.Top || is_same_name n name.Top)
    + free (flag name.Lmm || is_same_name n name.Lmm)
    + free (flag name.Split || is_same_name n name.Split)
    + free (flag name.ProRata || is_same_name n name.ProRata)
    + free (flag name.Leveling || is_same_name n name.Leveling)
    + free (flag name.Fifo || is_same_name n name.Fifo) + 1
    ≡ free (flag name.Top) + free (flag name.Lmm) + free (flag name.Split) + free (flag name.ProRata) + free (flag name.Leveling) + free (flag name.Fifo)
taken name.Top flag h = simp (or-false, h) (omega arith)
taken name.Lmm flag h = simp (or-false, h) (omega arith)
taken name.Split flag h = simp (or-false, h) (omega arith)
taken name.ProRata flag h = simp (or-false, h) (omega arith)
taken name.Leveling flag h = simp (or-false, h) (omega arith)
taken name.Fifo flag h = simp (or-false, h) (omega arith)

room-push : (earlier : List Step) (step : Step) → has_name (name_of step) earlier ≡ false → room (earlier ++ step ∷ []) + 1 ≡ room earlier
room-push earlier step h =
    rw (has_name-push name.Top earlier step, has_name-push name.Lmm earlier step, has_name-push name.Split earlier step, has_name-push name.ProRata earlier step, has_name-push name.Leveling earlier step, has_name-push name.Fifo earlier step)
    (taken (name_of step) (λ n. has_name n earlier) h)

few_after : (earlier steps : List Step) → first_twice_after is_same_name name_of earlier steps ≡ None → length steps ≤ room earlier
few_after earlier [] e = omega arith
few_after earlier (step ∷ rest) e =
    let parts = none_from_cond (has_name (name_of step) earlier) (name_of step) (first_twice_after is_same_name name_of (earlier ++ step ∷ []) rest) e in
    omega (arith, few_after (earlier ++ step ∷ []) rest (parts.1), room-push earlier step (parts.0))

pub few_once : (steps : List Step) → first_twice_after is_same_name name_of [] steps ≡ None → length steps ≤ MOST_STEPS
few_once steps e = few_after [] steps e
