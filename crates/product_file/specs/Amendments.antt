-- Which product may follow another one in a journal (our own rule): the numbers of firms and instruments, and what a price in units
-- means, stay as they were.
use Rattle.std.specs.Prelude.{ℕ, Bool, true, false, not, ◌&&◌, ◌==◌, nat_lt, List, [], ◌∷◌, bytes_eq, Option, Result}
use Rattle.std.specs.Ordering.{int_eq}
use Rattle.gx_base.specs.FirstFault.{fault_if, first_fault, unless_fault}
use Rattle.gx_base.specs.declared.names.Listed.{Listed}
use Rattle.product_file.specs.Products.{ProductLists}
use Rattle.product_file.specs.declared.product.InstrumentRule.{InstrumentRule}
use Rattle.product_file.specs.declared.amendments.AmendFault.{AmendFault}
use Rattle.product_file.specs.declared.amendments.AmendFault.TheVariants as fault

-- the second list begins with the first, element by element
abbrev pub begins_with : {A : Type 0} → (A → A → Bool) → List A → List A → Bool
begins_with same [] ys = true
begins_with same (x ∷ xs) [] = false
begins_with same (x ∷ xs) (y ∷ ys) = same x y && begins_with same xs ys

-- the lists are the same, element by element
abbrev pub are_same : {A : Type 0} → (A → A → Bool) → List A → List A → Bool
are_same same [] [] = true
are_same same [] (y ∷ ys) = false
are_same same (x ∷ xs) [] = false
are_same same (x ∷ xs) (y ∷ ys) = same x y && are_same same xs ys

-- two instruments of one name and as many decimals
abbrev pub is_same_listed : Listed → Listed → Bool
is_same_listed a b = bytes_eq a.name b.name && (a.decimals == b.decimals)

abbrev pub has_same_tick : InstrumentRule → InstrumentRule → Bool
has_same_tick a b = int_eq a.tick b.tick

-- as many instruments, with the same names, decimals and ticks
abbrev pub has_same_instruments : ProductLists → ProductLists → Bool
has_same_instruments old new = are_same is_same_listed old.names.instruments new.names.instruments && are_same has_same_tick old.rules new.rules

-- why a product may not follow another one: the first of these
abbrev pub amend_fault : ProductLists → ProductLists → Option AmendFault
amend_fault old new = first_fault (
    fault_if (not (bytes_eq old.names.exchange new.names.exchange)) fault.Exchange
    ∷ fault_if (not (begins_with bytes_eq old.names.firms new.names.firms)) fault.Firms
    ∷ fault_if (not (old.max_orders == new.max_orders)) fault.MaxOrders
    ∷ fault_if (nat_lt new.journal_limit old.journal_limit) fault.JournalLimit
    ∷ fault_if (not (has_same_instruments old new)) fault.Instruments
    ∷ [])

-- All that is tried here stays; every other key may change.
abbrev pub may_follow : ProductLists → ProductLists → Result (Unit {0}) AmendFault
may_follow old new = unless_fault (amend_fault old new) tt

-- the number of a fault, by which an amendment that is refused tells it
abbrev pub amend_fault_number : AmendFault → ℕ
amend_fault_number fault.Exchange = 2
amend_fault_number fault.Firms = 3
amend_fault_number fault.MaxOrders = 4
amend_fault_number fault.JournalLimit = 5
amend_fault_number fault.Instruments = 6
