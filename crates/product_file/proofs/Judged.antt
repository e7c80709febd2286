-- Steps that may fail, as a fault and a value: each step gives its value unless it has a fault, and the first fault counts.
use Rattle.std.proofs.Common.{◌≡◌, Bool, true, false, not, List, [], ◌∷◌, Option, Some, None, unwrap_or, option_map, ok_or, if◌then◌else◌, Result, Ok, Err, refl}
use Rattle.std.specs.Option.{option_or, option_map_or}
use Rattle.toml.specs.Data.{Data}
use Rattle.product_file.specs.declared.faults.Key.{Key}
use Rattle.product_file.specs.declared.faults.ProductFault.{ProductFault}
use Rattle.product_file.specs.declared.faults.ProductFault.TheVariants.{Missing, Kind, Range}
use Rattle.gx_base.specs.FirstFault.{fault_if, first_fault, unless_fault}
use Rattle.product_file.specs.Rows.{Need, ValueKind, row, is_of, value_fault}
use Rattle.product_file.specs.Inner.Keys.{◌>>=◌, map_ok, read_or_none}

-- a step, and then one that goes on from its value
pub in_turn : {A B : Type 0} (r : Result A ProductFault) (fault : Option ProductFault) (a : A) (g : A → Result B ProductFault) (next : Option ProductFault) (b : B)
    → r ≡ unless_fault fault a → (fault ≡ None → g a ≡ unless_fault next b) → (r >>= g) ≡ unless_fault (option_or fault next) b
in_turn r None a g next b e more = rw e (more refl)
in_turn r (Some fault) a g next b e more = rw e refl

-- a step whose value is seen by `f`
pub seen : {A B : Type 0} (r : Result A ProductFault) (fault : Option ProductFault) (a : A) (f : A → B) → r ≡ unless_fault fault a → (r >>= λ x. Ok (f x)) ≡ unless_fault fault (f a)
seen r None a f e = rw e refl
seen r (Some fault) a f e = rw e refl

pub or_assoc : (a b c : Option ProductFault) → option_or (option_or a b) c ≡ option_or a (option_or b c)
or_assoc None b c = refl
or_assoc (Some fault) b c = refl

pub or_none : (a : Option ProductFault) → option_or a None ≡ a
or_none None = refl
or_none (Some fault) = refl

pub bind_assoc : {A B C : Type 0} (r : Result A ProductFault) (f : A → Result B ProductFault) (g : B → Result C ProductFault) → ((r >>= f) >>= g) ≡ (r >>= λ a. f a >>= g)
bind_assoc (Ok a) f g = refl
bind_assoc (Err fault) f g = refl

-- a value where a test passes
pub passes : {A : Type 0} (test : Bool) (fault : ProductFault) (a : A) → (if test then Ok a else Err fault) ≡ unless_fault (fault_if (not test) fault) a
passes true fault a = refl
passes false fault a = refl

-- ---- keys whose value is read whole

module _ {A : Type 0} (key : Key) (need : Need) (kind : ValueKind) (range : Data → Bool) (further : Data → Option ProductFault) (read : Key → Data → Result A ProductFault) (value_in : Data → A)
    (reads : (v : Data) → read key v ≡ unless_fault (value_fault (row key need kind range further) v) (value_in v)) where
  pub at_needed : (usual : A) (o : Option Data) → (ok_or o (Missing key) >>= read key) ≡ unless_fault (option_map_or (value_fault (row key need kind range further)) o (Some (Missing key))) (unwrap_or (option_map value_in o) usual)
  at_needed usual None = refl
  at_needed usual (Some v) = reads v

  pub at_optional : (is_needed : Bool) (o : Option Data) → read_or_none is_needed key read o ≡ unless_fault (option_map_or (value_fault (row key need kind range further)) o (fault_if is_needed (Missing key))) (option_map value_in o)
  at_optional true None = refl
  at_optional false None = refl
  at_optional is_needed (Some v) = seen (read key v) (value_fault (row key need kind range further) v) (value_in v) Some (reads v)

-- ---- keys whose value is read by its kind, and is then held to the rest of its row

module _ {A B : Type 0} (key : Key) (need : Need) (kind : ValueKind) (range : Data → Bool) (further : Data → Option ProductFault) (read : Key → Data → Result A ProductFault) (value_in : Data → A)
    (reads : (v : Data) → read key v ≡ unless_fault (fault_if (not (is_of kind v)) (Kind key)) (value_in v))
    (check : A → Result B ProductFault) (result_at : Option Data → B)
    (checks : (v : Data) → check (value_in v) ≡ unless_fault (first_fault (fault_if (not (range v)) (Range key) ∷ further v ∷ [])) (result_at (Some v))) where
  checked : (v : Data) → (read key v >>= check) ≡ unless_fault (value_fault (row key need kind range further) v) (result_at (Some v))
  checked v = in_turn (read key v) (fault_if (not (is_of kind v)) (Kind key)) (value_in v) check (first_fault (fault_if (not (range v)) (Range key) ∷ further v ∷ [])) (result_at (Some v)) (reads v) (λ _. checks v)

  pub at_needed_checked : (o : Option Data) → ((ok_or o (Missing key) >>= read key) >>= check) ≡ unless_fault (option_map_or (value_fault (row key need kind range further)) o (Some (Missing key))) (result_at o)
  at_needed_checked None = refl
  at_needed_checked (Some v) = checked v

-- the same of an array that may be absent, and then has no entries
some_entries : {X : Type 0} (r : Result (List X) ProductFault) (fault : Option ProductFault) (xs : List X) → r ≡ unless_fault fault xs → map_ok (λ found. unwrap_or found []) (r >>= λ found. Ok (Some found)) ≡ unless_fault fault xs
some_entries r None xs e = rw e refl
some_entries r (Some fault) xs e = rw e refl

module _ {B : Type 0} (key : Key) (need : Need) (kind : ValueKind) (range : Data → Bool) (further : Data → Option ProductFault) (read : Key → Data → Result (List Data) ProductFault) (value_in : Data → List Data)
    (reads : (v : Data) → read key v ≡ unless_fault (fault_if (not (is_of kind v)) (Kind key)) (value_in v))
    (check : List Data → Result B ProductFault) (result_at : Option Data → B)
    (checks : (v : Data) → check (value_in v) ≡ unless_fault (first_fault (fault_if (not (range v)) (Range key) ∷ further v ∷ [])) (result_at (Some v)))
    (absent : check [] ≡ Ok (result_at None)) where
  pub at_optional_checked : (is_needed : Bool) (o : Option Data) → (map_ok (λ found. unwrap_or found []) (read_or_none is_needed key read o) >>= check) ≡ unless_fault (option_map_or (value_fault (row key need kind range further)) o (fault_if is_needed (Missing key))) (result_at o)
  at_optional_checked true None = refl
  at_optional_checked false None = absent
  at_optional_checked is_needed (Some v) =
      in_turn (map_ok (λ found. unwrap_or found []) (read key v >>= λ found. Ok (Some found))) (fault_if (not (is_of kind v)) (Kind key)) (value_in v) check (first_fault (fault_if (not (range v)) (Range key) ∷ further v ∷ [])) (result_at (Some v))
      (some_entries (read key v) (fault_if (not (is_of kind v)) (Kind key)) (value_in v) (reads v)) (λ _. checks v)
