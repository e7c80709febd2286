-- Faults that are tried in an order, of which the first one counts.
use Rattle.std.specs.Prelude.{Bool, if◌then◌else◌, List, [], ◌∷◌, Option, Some, None, Result, Ok, Err}
use Rattle.std.specs.Option.{option_or}

-- a fault where this holds
abbrev pub fault_if : {F : Type 0} → Bool → F → Option F
fault_if holds fault = if holds then Some fault else None

-- the first fault that there is, in the order of the list
abbrev pub first_fault : {F : Type 0} → List (Option F) → Option F
first_fault [] = None
first_fault (fault ∷ rest) = option_or fault (first_fault rest)

-- the value where there is no fault, or else the fault
abbrev pub unless_fault : {A F : Type 0} → Option F → A → Result A F
unless_fault None a = Ok a
unless_fault (Some fault) a = Err fault
