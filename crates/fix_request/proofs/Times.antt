-- The sending time.
use Rattle.std.proofs.Common.{◌≡◌, ℕ, List, [], ◌∷◌, length, Bool, Option, Some, None, refl, sym, ap, ◌∙◌, arith}
use Rattle.std.specs.Prelude.{SomeIff, IsTrue}
use Rattle.std.proofs.lemmas.Bool.{ne_eqb, cond-true, cond-false, false_from_ne_true}
use Rattle.std.specs.Option.{ok_or}
use Rattle.gx_base.specs.Texts.{is_time_text}
use Rattle.fix_request.specs.Inner.Rules.{◌>>=◌, where_passes}
use Rattle.fix_request.specs.Faults.{fault}
use Rattle.fix_request.specs.Inner.Requests.{fault_of_time}
use Rattle.fix_request.specs.Inner.Views.{if_not_empty}

-- no time is empty
pub timed : (text : List ℕ) → ok_or (where_passes is_time_text text) (fault_of_time text) ≡ (ok_or (if_not_empty text) (fault 6 1 52) >>= (λ t. ok_or (where_passes is_time_text t) (fault 6 6 52)))
timed [] = refl
timed (c ∷ text) = rw (ne_eqb (length (c ∷ text)) 0 (λ h. absurd (omega arith))) refl

-- what is given exactly where the test passes
pub given_if : (result : Option (List ℕ)) (test : List ℕ → Bool) (text : List ℕ) → SomeIff result (IsTrue (test text)) text → result ≡ where_passes test text
given_if None test text h = sym (cond-false (test text) (Some text) None (false_from_ne_true (test text) h))
given_if (Some given) test text h = ap Some h.1 ∙ sym (cond-true (test text) (Some text) None h.0)
