-- Entries that are tried one after the other, each by those before it.
use Rattle.std.proofs.Common.{◌≡◌, ℕ, ◌+◌, List, [], ◌∷◌, ◌++◌, length, map, take, Option, None, refl, subst, ap, append_assoc, length-append}
use Rattle.std.specs.List.{enumerate_from}
use Rattle.std.specs.Option.{option_or}
use Rattle.product_file.specs.declared.faults.ProductFault.{ProductFault}
use Rattle.gx_base.specs.FirstFault.{first_fault}
use Rattle.product_file.specs.Rows.{first_of_each}

take-front : {X : Type 0} (front back : List X) → take (length front) (front ++ back) ≡ front
take-front [] back = refl
take-front (x ∷ xs) back = ap (λ rest. x ∷ rest) (take-front xs back)

-- the first fault of these entries, where `front` stands before all of them
abbrev pub faults_after : {X : Type 0} → (List X → X → Option ProductFault) → List X → List X → Option ProductFault
faults_after fault front [] = None
faults_after fault front (x ∷ xs) = option_or (fault front x) (faults_after fault (front ++ x ∷ []) xs)

module _ {X : Type 0} (fault : List X → X → Option ProductFault) where
  from_number : (front xs : List X) → first_fault (map (λ (e : ℕ × X). fault (take e.0 (front ++ xs)) e.1) (enumerate_from (length front) xs)) ≡ faults_after fault front xs
  from_number front [] = refl
  from_number front (x ∷ xs) =
      let front_only : fault (take (length front) (front ++ x ∷ xs)) x ≡ fault front x = ap (λ (before : List X). fault before x) (take-front front (x ∷ xs)) in
      let later = from_number (front ++ x ∷ []) xs in
      let moved : first_fault (map (λ (e : ℕ × X). fault (take e.0 (front ++ x ∷ xs)) e.1) (enumerate_from (length front + 1) xs)) ≡ faults_after fault (front ++ x ∷ []) xs =
      subst (λ (all : List X). first_fault (map (λ (e : ℕ × X). fault (take e.0 all) e.1) (enumerate_from (length front + 1) xs)) ≡ faults_after fault (front ++ x ∷ []) xs) (append_assoc front (x ∷ []) xs)
      (subst (λ (n : ℕ). first_fault (map (λ (e : ℕ × X). fault (take e.0 ((front ++ x ∷ []) ++ xs)) e.1) (enumerate_from n xs)) ≡ faults_after fault (front ++ x ∷ []) xs) (length-append front (x ∷ [])) later) in
      rw (front_only, moved) refl

  pub each_after : (xs : List X) → first_of_each fault xs ≡ faults_after fault [] xs
  each_after xs = from_number [] xs
