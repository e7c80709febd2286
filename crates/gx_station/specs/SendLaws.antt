-- What was sent, and what a send adds to it.
use Rattle.std.specs.Prelude.{◌≡◌, ℕ, List, [], ◌++◌, Option, Some, None, Result, refl}
use Rattle.std.proofs.Common.{sym, ap, subst, append_assoc}
use Rattle.std.proofs.lemmas.List.{append-nil}
use Rattle.gx_base.specs.KnownBytes.{IsKnownPrefix}
use Rattle.gx_station.specs.Stations.{StationMeanings, sent_and}
use Rattle.gx_station.specs.Quiet.{Sends}

pub sent_and_none : (sent : Option (List ℕ)) → sent_and sent [] ≡ sent
sent_and_none None = refl
sent_and_none (Some bytes) = ap Some (append-nil bytes)

pub sent_and-append : (sent : Option (List ℕ)) (xs ys : List ℕ) → sent_and sent (xs ++ ys) ≡ sent_and (sent_and sent xs) ys
sent_and-append None xs ys = refl
sent_and-append (Some bytes) xs ys = ap Some (sym (append_assoc bytes xs ys))

pub known_front : (sent : Option (List ℕ)) (xs ys : List ℕ) → IsKnownPrefix (sent_and sent xs) (sent_and sent (xs ++ ys))
known_front None xs ys = tt
known_front (Some bytes) xs ys = record { rest = ys; is = sym (append_assoc bytes xs ys) }

-- t is the station after the loan
pub sends_to : {S T F : Type 0} (m : StationMeanings S) (a b t : S) (bytes : List ℕ) (result : Result T F) → t ≡ b → Sends m a b bytes result → Sends m a t bytes result
sends_to m a b t bytes result to sends = subst (λ x. Sends m a x bytes result) (sym to) sends

pub sends_as : {S T F : Type 0} (m : StationMeanings S) (a b : S) (bytes same : List ℕ) (result : Result T F) → bytes ≡ same → Sends m a b bytes result → Sends m a b same result
sends_as m a b bytes same result e sends = subst (λ (l : List ℕ). Sends m a b l result) e sends
