-- What a table of ids has: a finite map from a firm and an id to a slot.
use Rattle.std.specs.Prelude.{ℕ, List, ◌∷◌, refl}
use Rattle.std.specs.Ordering.{nat_cmp}
use Rattle.std.specs.Cmp.Lexicographic.{slice_cmp}
use Rattle.std.specs.Coded.{Coded, code_by, coded×, coded_ℕ, coded_list}
use Rattle.std.specs.FinMap as map
use Rattle.gx_base.specs.declared.order.Slot.{Slot}

-- a firm and an id as one key: the number of the firm, and then the bytes of the id
abbrev pub key : ℕ → List ℕ → List ℕ
key firm id = firm ∷ id

abbrev pub Slots : Type 0
Slots = map.FinMap (slice_cmp nat_cmp) Slot

pub record Ids : Type 0 where
  -- the greatest number of ids
  pub capacity : ℕ
  pub slots : Slots

abbrev pub empty_ids : ℕ → Ids
empty_ids capacity = record { capacity = capacity; slots = map.empty }

abbrev pub with_slots : Slots → Ids → Ids
with_slots slots t = record t { slots = slots }

-- how the logic stores what a table has, which says nothing of it
abbrev pub slot_code : Coded Slot
slot_code = code_by ℕ coded_ℕ (λ s. s.0) (λ n. record { 0 = n }) (λ _. refl)

abbrev pub ids_code : Coded Ids
ids_code =
    code_by (ℕ × Slots) (coded× coded_ℕ (map.code (coded_list coded_ℕ) slot_code)) (λ t. (t.capacity, t.slots)) (λ p. record { capacity = p.0; slots = p.1 }) (λ _. refl)
