-- Names that are numbered in their order.
use Rattle.std.proofs.Common.{◌≡◌, ℕ, Bool, true, false, not, List, [], ◌∷◌, ◌++◌, map, bytes_eq, refl, ap, sym, ◌∙◌}
use Rattle.std.specs.List.{list_any}
use Rattle.std.specs.Cmp.Lexicographic.{nat_list_eq_equiv}
use Rattle.indexmap.specs.IndexSet.{insert_key}

negated : (a b : Bool) → a ≡ not b → b ≡ not a
negated a true e = rw e refl
negated a false e = rw e refl

module _ {K : Type 0} (text : K → List ℕ) where
  -- whether a name has a number, and whether an earlier one is the same
  pub is_numbered : (name : List ℕ) (keys : List K) → list_any (λ k. bytes_eq name (text k)) keys ≡ list_any (λ before. bytes_eq before name) (map text keys)
  is_numbered name [] = refl
  is_numbered name (k ∷ keys) = rw (nat_list_eq_equiv.symm name (text k), is_numbered name keys) refl

  texts_push : (keys : List K) (key : K) → map text (keys ++ key ∷ []) ≡ map text keys ++ text key ∷ []
  texts_push [] key = refl
  texts_push (k ∷ keys) key = ap (λ (rest : List (List ℕ)). text k ∷ rest) (texts_push keys key)

  -- a new name gets the next number
  pub next_number : (keys : List K) (key : K) → list_any (λ k. bytes_eq (text key) (text k)) keys ≡ false → map text (insert_key (λ a b. bytes_eq (text a) (text b)) keys key) ≡ map text keys ++ text key ∷ []
  next_number keys key new = rw new (texts_push keys key)

  -- a name gets no new number where an earlier one has it
  pub stands_before : (is_new : Bool) (name : List ℕ) (keys : List K) (names : List (List ℕ)) → is_new ≡ not (list_any (λ k. bytes_eq name (text k)) keys) → map text keys ≡ names → list_any (λ before. bytes_eq before name) names ≡ not is_new
  stands_before is_new name keys names new numbered =
      ap (list_any (λ before. bytes_eq before name)) (sym numbered) ∙ sym (is_numbered name keys) ∙ negated is_new (list_any (λ k. bytes_eq name (text k)) keys) new
