-- What printing a journal comes to.
use Rattle.std.specs.Prelude.{◌≡◌, ℕ, List, Some, Result, IsErrOf}
use Rattle.gx_station.specs.Counts.{Rose}
use Rattle.gx_station.specs.Stations.{StationMeanings}
use Rattle.journal_print.specs.Reading.{ReadsAndSends}
use Rattle.journal_print.specs.declared.unprinted.Unprinted.{Unprinted}
use Rattle.journal_print.specs.declared.unprinted.Unprinted.TheVariants as unprinted
use Rattle.globex_run.specs.Prints.{outcome_printed}
use Rattle.globex_run.specs.declared.outcome.Outcome.{Outcome}

-- The journal was printed, or not to its end, and the outcome tells which; what was sent fits the image of entry. A fault is
-- answered only if its count rose, and want of memory only with this fact.
pub record PrintsKept {S : Type 0} (m : StationMeanings S) (old new : S) (outcome : Outcome) (AtNoMemory : Type 0) (Prints : List ℕ → Result ℕ Unprinted → Type 0) : Type 0 where
  pub answer : Result ℕ Unprinted
  pub outcome_is : outcome ≡ outcome_printed answer
  pub reads : ReadsAndSends m old new
  pub store : IsErrOf answer unprinted.Store → Rose (m.store_faults old) (m.store_faults new)
  pub no_store : (IsErrOf answer unprinted.Store → ⊥) → m.store_faults new ≡ m.store_faults old
  pub send : IsErrOf answer unprinted.Send → Rose (m.send_faults old) (m.send_faults new)
  pub no_send : (IsErrOf answer unprinted.Send → ⊥) → m.send_faults new ≡ m.send_faults old
  pub memory : IsErrOf answer unprinted.NoMemory → AtNoMemory
  pub prints : (image : List ℕ) → m.holds old ≡ Some image → Prints image answer
