-- That products may follow each other is one fact, so a struct can keep it.
use Rattle.std.specs.Prelude.{◌≡◌, ℕ, suc, zero, List, [], ◌∷◌, Result, Ok}
use mathlib.Core.Path.{refl}
use Rattle.std.specs.Coded.{×_prop, Unit-prop, Coded, Coded-set, coded_ℕ, code_by, coded_result}
use Rattle.product_file.specs.Products.{ProductLists}
use Rattle.product_file.specs.Amendments.{may_follow, amend_fault_number}
use Rattle.product_file.specs.declared.amendments.AmendFault.{AmendFault}
use Rattle.product_file.specs.declared.amendments.AmendFault.TheVariants as fault
use Rattle.book_recovery.specs.Histories.{FollowFrom, FollowEachOther}

-- the fault with a number
abbrev fault_at : ℕ → AmendFault
fault_at zero = fault.Exchange
fault_at (suc zero) = fault.Exchange
fault_at (suc (suc zero)) = fault.Exchange
fault_at (suc (suc (suc zero))) = fault.Firms
fault_at (suc (suc (suc (suc zero)))) = fault.MaxOrders
fault_at (suc (suc (suc (suc (suc zero))))) = fault.JournalLimit
fault_at (suc (suc (suc (suc (suc (suc n)))))) = fault.Instruments

number-told : (f : AmendFault) → fault_at (amend_fault_number f) ≡ f
number-told fault.Exchange = refl
number-told fault.Firms = refl
number-told fault.MaxOrders = refl
number-told fault.JournalLimit = refl
number-told fault.Instruments = refl

coded_fault : Coded AmendFault
coded_fault = code_by ℕ coded_ℕ amend_fault_number fault_at number-told

coded_answer : Coded (Result (Unit {0}) AmendFault)
coded_answer = coded_result (code_by ℕ coded_ℕ (λ _. 0) (λ _. tt) (λ _. refl)) coded_fault

from-prop : (product : ProductLists) (later : List ProductLists) → IsProp (FollowFrom product later)
from-prop product [] = Unit-prop
from-prop product (next ∷ later) = ×_prop (Coded-set coded_answer (may_follow product next) (Ok tt)) (from-prop next later)

pub follow-prop : (products : List ProductLists) → IsProp (FollowEachOther products)
follow-prop [] = Unit-prop
follow-prop (first ∷ later) = from-prop first later
