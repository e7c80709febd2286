-- Faults that are tried one after the other.
use Rattle.std.proofs.Common.{◌≡◌, ℕ, ◌<◌, ◌≤◌, Bool, true, false, Option, Some, None, [], ◌∷◌, refl, ◌∙◌, arith}
use Rattle.std.specs.Prelude.{nat_lt, nat_le}
use Rattle.std.specs.Option.{option_or}
use Rattle.std.proofs.lemmas.Bool.Decides.{nat_tests}
use Rattle.gx_base.specs.FirstFault.{fault_if, first_fault}

pub lt-true : (a b : ℕ) → a < b → nat_lt a b ≡ true
lt-true a b h = grind (arith, nat_tests)

pub lt-false : (a b : ℕ) → b ≤ a → nat_lt a b ≡ false
lt-false a b h = grind (arith, nat_tests)

pub le-true : (a b : ℕ) → a ≤ b → nat_le a b ≡ true
le-true a b h = grind (arith, nat_tests)

pub le-false : (a b : ℕ) → b < a → nat_le a b ≡ false
le-false a b h = grind (arith, nat_tests)

-- a fault, and faults after it
pub if-here : (b : Bool) (x : ℕ) (rest : Option ℕ) → b ≡ true → option_or (fault_if b x) rest ≡ Some x
if-here true x rest h = refl
if-here false x rest h = cc

pub if-past : (b : Bool) (x : ℕ) (rest : Option ℕ) → b ≡ false → option_or (fault_if b x) rest ≡ rest
if-past false x rest h = refl
if-past true x rest h = cc

pub or-here : (fault rest : Option ℕ) (x : ℕ) → fault ≡ Some x → option_or fault rest ≡ Some x
or-here (Some y) rest x h = h
or-here None rest x h = cc

pub or-past : (fault rest : Option ℕ) → fault ≡ None → option_or fault rest ≡ rest
or-past None rest h = refl
or-past (Some y) rest h = cc

pub or-last : (fault : Option ℕ) → option_or fault None ≡ fault
or-last None = refl
or-last (Some y) = refl

-- ---- the first counters

abbrev pub desk_faults : ℕ → ℕ → ℕ → Option ℕ → Option ℕ
desk_faults most messages orders rest = first_fault (fault_if (nat_le most messages) 0 ∷ fault_if (nat_lt messages orders) 8 ∷ rest ∷ [])

module _ (most messages orders : ℕ) (rest : Option ℕ) where
  pub desk-many : most ≤ messages → desk_faults most messages orders rest ≡ Some 0
  desk-many h = if-here (nat_le most messages) 0 (option_or (fault_if (nat_lt messages orders) 8) (option_or rest None)) (le-true most messages h)

  past-many : messages < most → desk_faults most messages orders rest ≡ option_or (fault_if (nat_lt messages orders) 8) (option_or rest None)
  past-many h = if-past (nat_le most messages) 0 (option_or (fault_if (nat_lt messages orders) 8) (option_or rest None)) (le-false most messages h)

  pub desk-orders : messages < most → messages < orders → desk_faults most messages orders rest ≡ Some 8
  desk-orders h g = past-many h ∙ if-here (nat_lt messages orders) 8 (option_or rest None) (lt-true messages orders g)

  pub desk-rest : messages < most → orders ≤ messages → desk_faults most messages orders rest ≡ rest
  desk-rest h g = past-many h ∙ if-past (nat_lt messages orders) 8 (option_or rest None) (lt-false messages orders g) ∙ or-last rest

-- ---- three parts

then-rest : (a b c rest : Option ℕ) → option_or a (option_or b (option_or c rest)) ≡ option_or (option_or a (option_or b (option_or c None))) rest
then-rest (Some x) b c rest = refl
then-rest None (Some x) c rest = refl
then-rest None None (Some x) rest = refl
then-rest None None None rest = refl

module _ (a b c : Option ℕ) where
  pub second-of : (x : ℕ) → a ≡ None → b ≡ Some x → first_fault (a ∷ b ∷ c ∷ []) ≡ Some x
  second-of x h g = or-past a (option_or b (option_or c None)) h ∙ or-here b (option_or c None) x g

  pub third-of : a ≡ None → b ≡ None → first_fault (a ∷ b ∷ c ∷ []) ≡ c
  third-of h g = or-past a (option_or b (option_or c None)) h ∙ or-past b (option_or c None) g ∙ or-last c

  -- and what is after them
  pub three-then : (rest : Option ℕ) → option_or a (option_or b (option_or c rest)) ≡ option_or (first_fault (a ∷ b ∷ c ∷ [])) rest
  three-then rest = then-rest a b c rest
