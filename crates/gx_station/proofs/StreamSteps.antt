-- One call more of a stream joins those before it, or ends them.
use Rattle.std.proofs.Common.{◌≡◌, inl, inr, ℕ, ◌+◌, ◌≤◌, Bool, true, OnOk, List, length, drop, Result, Ok, Err, refl, sym, subst, add-one}
use Rattle.std.specs.Prelude.{is_ok, OnErr}
use Rattle.std.specs.IoError.{error_kind}
use Rattle.std.specs.declared.io.Error.{Error}
use Rattle.std.specs.declared.io.ErrorKind.TheVariants.{Interrupted}
use Rattle.gx_station.specs.declared.count.TheConstants.{LAST_COUNT}
use Rattle.gx_station.specs.Streams.{InputMeanings, OutputMeanings, WasInterrupted, Advances, IsLastWrite, IsTaken, AreTaken, SendsOnce}

-- ---- reads

module _ {R : Type 0} (m : InputMeanings R) where
  pub interrupted_more : (tries : ℕ) (old mid new : R) (into : List ℕ) (e : Error) → error_kind e ≡ Interrupted → WasInterrupted m tries old mid → m.read mid new into (Err (error_kind e)) → WasInterrupted m (tries + 1) old new
  interrupted_more tries old mid new into e kind first then =
      subst (λ t. WasInterrupted m t old new) (sym (add-one tries)) (mid, into, first, subst (λ k. m.read mid new into (Err k)) kind then)

-- ---- sends

module _ {W : Type 0} (m : OutputMeanings W) where
  pub taken_more : (tries : ℕ) (old mid new : W) (bytes rest : List ℕ) (before more : ℕ) → rest ≡ drop before bytes → IsTaken m tries old mid bytes before → Advances m mid new rest more → IsTaken m (tries + 1) old new bytes (before + more)
  taken_more tries old mid new bytes rest before more is first then =
      subst (λ t. IsTaken m t old new bytes (before + more)) (sym (add-one tries)) (mid, before, more, first, subst (λ l. Advances m mid new l more) is then, refl)

  pub all_taken : (tries : ℕ) (old new : W) (bytes : List ℕ) (count : ℕ) → count ≡ length bytes → IsTaken m tries old new bytes count → AreTaken m old new bytes
  all_taken tries old new bytes count all first = (tries, subst (λ n. IsTaken m tries old new bytes n) all first)

  pub send_flushed : {T F : Type 0} (old mid new : W) (bytes : List ℕ) (r : Result T F) → AreTaken m old mid bytes → m.flushed mid new (is_ok r) → SendsOnce m old new bytes r
  send_flushed old mid new bytes (Ok x) first last = record { tries = first.0; mid = mid; count = length bytes; taken = first.1; ends = (refl, last) }
  send_flushed old mid new bytes (Err e) first last = record { tries = first.0; mid = mid; count = length bytes; taken = first.1; ends = inl (refl, last) }

  -- a flush after a send that was written whole
  pub send_written : {T F U G : Type 0} (old mid new : W) (bytes : List ℕ) (written : Result U G) (r : Result T F) (flushed : Bool) → is_ok written ≡ true → OnOk written (AreTaken m old mid bytes) → flushed ≡ is_ok r → m.flushed mid new flushed → SendsOnce m old new bytes r
  send_written old mid new bytes (Ok x) r flushed ok all same last = send_flushed old mid new bytes r all (subst (λ b. m.flushed mid new b) same last)
  send_written old mid new bytes (Err e) r flushed ok all same last = absurd (cc ok)

  pub send_refused : {T F : Type 0} (tries : ℕ) (old mid new : W) (bytes rest : List ℕ) (count : ℕ) (r : Result T F) → rest ≡ drop count bytes → IsTaken m tries old mid bytes count → IsLastWrite m mid new rest → OnErr r (SendsOnce m old new bytes r)
  send_refused tries old mid new bytes rest count (Ok x) is first last = tt
  send_refused tries old mid new bytes rest count (Err e) is first last =
      record { tries = tries; mid = mid; count = count; taken = first; ends = inr (inl (subst (λ l. IsLastWrite m mid new l) is last)) }

  pub send_used_up : {T F : Type 0} (tries : ℕ) (old new : W) (bytes : List ℕ) (count : ℕ) (e : F) → LAST_COUNT ≤ tries → IsTaken m tries old new bytes count → SendsOnce m {T = T} old new bytes (Err e)
  send_used_up tries old new bytes count e last first =
      record { tries = tries; mid = new; count = count; taken = first; ends = inr (inr (refl, last)) }
