-- When an entry has a firm and an id.
use Rattle.std.proofs.Common.{◌≡◌, ℕ, List, ◌∷◌, bytes_eq, sym, ap, ◌∙◌}
use Rattle.std.proofs.lemmas.Slice.Eq.{bytes_eq-Decides}
use Rattle.id_table.specs.Inner.Nodes.{is_same}
use Rattle.id_table.proofs.Keys.{same_key-itself}
use Rattle.id_table.proofs.Tests.{by_test, differ, true_false}

-- of one firm
pub same_ids : (firm : ℕ) (id other : List ℕ) → bytes_eq other id ≡ is_same (firm ∷ id) (firm ∷ other)
same_ids firm id other =
    by_test (bytes_eq other id) (bytes_eq other id ≡ is_same (firm ∷ id) (firm ∷ other))
    (λ t. t ∙ sym (same_key-itself (firm ∷ id)) ∙ ap (λ (x : List ℕ). is_same (firm ∷ id) (firm ∷ x)) (sym ((bytes_eq-Decides other id).0 t)))
    (λ f. f ∙ sym (differ (firm ∷ id) (firm ∷ other) (λ e. let same : other ≡ id = cc in true_false (bytes_eq other id) ((bytes_eq-Decides other id).1 same) f)))
