-- A list of more than six steps has a fault that its first seven steps have, too.
use Rattle.std.proofs.Common.{◌≡◌, ◌<◌, Bool, true, false, cond, List, [], ◌∷◌, ◌++◌, length, take, drop, Option, Some, None, Err, sym, ap, ◌∙◌, refl, arith, length-take, length-append, take-append-drop}
use Rattle.std.specs.List.{list_any}
use Rattle.std.proofs.lemmas.Bool.Decides.{nat_tests}
use Rattle.gx_base.specs.declared.event.StepName.{StepName}
use Rattle.step_config.specs.declared.step.Step.{Step}
use Rattle.step_config.specs.declared.step.StepFault.TheVariants.{Twice}
use Rattle.step_config.specs.Rules.{name_of, is_same_name, is_empty, first_twice_after, first_twice, fault_of, steps_of}
use Rattle.step_config.specs.declared.step.TheConstants.{MOST_STEPS}
use Rattle.step_config.specs.StepLaws.{few_once}
use Rattle.product_file.specs.declared.step_lists.TheConstants.{TOO_MANY}

still : {K : Type 0} (b : Bool) (key found : K) (rest longer : Option K) → cond b (Some key) rest ≡ Some found → (rest ≡ Some found → longer ≡ Some found) → cond b (Some key) longer ≡ Some found
still true key found rest longer e more = e
still false key found rest longer e more = more e

-- what stands twice in the front of a list is the first that stands twice in the list
twice-front : {X K : Type 0} (same : K → K → Bool) (key : X → K) (earlier front back : List X) (found : K) → first_twice_after same key earlier front ≡ Some found → first_twice_after same key earlier (front ++ back) ≡ Some found
twice-front same key earlier [] back found e = cc
twice-front same key earlier (x ∷ xs) back found e =
    still (list_any (λ before. same (key before) (key x)) earlier) (key x) found (first_twice_after same key (earlier ++ x ∷ []) xs) (first_twice_after same key (earlier ++ x ∷ []) (xs ++ back)) e
    (twice-front same key (earlier ++ x ∷ []) xs back found)

repeated : (steps : List Step) (name : StepName) → is_empty steps ≡ false → first_twice steps ≡ Some name → steps_of steps ≡ Err (Twice name)
repeated steps name e t = let fault : fault_of steps ≡ Some (Twice name) = rw (e, t) refl in rw fault refl

not_empty : (steps : List Step) → 0 < length steps → is_empty steps ≡ false
not_empty steps h = grind (arith, nat_tests)

both_repeated : (front back : List Step) (twice : Option StepName) → MOST_STEPS < length front → first_twice front ≡ twice → steps_of front ≡ steps_of (front ++ back)
both_repeated front back None long e = absurd (let few = few_once front e in omega arith)
both_repeated front back (Some name) long e =
    repeated front name (not_empty front (omega arith)) e
    ∙ sym (repeated (front ++ back) name (not_empty (front ++ back) (rw (length-append front back) (omega arith))) (twice-front is_same_name name_of [] front back name e))

pub first_seven : (steps : List Step) → TOO_MANY < length steps → steps_of (take TOO_MANY steps) ≡ steps_of steps
first_seven steps long =
    both_repeated (take TOO_MANY steps) (drop TOO_MANY steps) (first_twice (take TOO_MANY steps)) (rw (length-take TOO_MANY steps) (omega arith)) refl
    ∙ ap steps_of (take-append-drop TOO_MANY steps)
