-- Tests, and what is shown where one is known.
use Rattle.std.proofs.Common.{◌≡◌, ◌≢◌, ℕ, Bool, true, false, cond, List, Option, refl, sym, ap, subst, ◌∙◌}
use Rattle.gx_base.specs.declared.order.Slot.{Slot}
use Rattle.id_table.specs.Inner.Nodes.{is_same}
use Rattle.id_table.proofs.Keys.{same_key-true, same_key-itself}

pub true_false : (b : Bool) → b ≡ true → b ≡ false → ⊥
true_false b t f = let e : true ≡ false = sym t ∙ f in cc

-- both values of a test
pub by_test : (b : Bool) (P : Type 0) → (b ≡ true → P) → (b ≡ false → P) → P
by_test true P t f = t refl
by_test false P t f = f refl

pub differ : (q k : List ℕ) → q ≢ k → is_same q k ≡ false
differ q k ne = by_test (is_same q k) (is_same q k ≡ false) (λ t. absurd (ne (same_key-true q k t))) (λ f. f)

pub differ_not : (q k : List ℕ) → is_same q k ≡ false → q ≢ k
differ_not q k f e = true_false (is_same q k) (subst (λ (x : List ℕ). is_same q x ≡ true) e (same_key-itself q)) f

pub picked : (b : Bool) (r o : Option Slot) → b ≡ true → cond b r o ≡ r
picked b r o e = ap (λ (x : Bool). cond x r o) e

pub passed : (b : Bool) (r o : Option Slot) → b ≡ false → cond b r o ≡ o
passed b r o e = ap (λ (x : Bool). cond x r o) e
