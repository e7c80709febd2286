-- The statuses of commands: want of memory, and with which ones a command does not end.
use Rattle.std.proofs.Common.{◌≡◌, ◌≢◌, ◌⊎◌, inl, inr, ⊎_elim, ℕ, ◌<◌, ◌≤◌, Result, Ok, Err, ap, arith}
use Rattle.std.proofs.lemmas.Bool.Decides.{eqb_tells}
use Rattle.exec_report.specs.declared.texts.SendFault.{SendFault as SendFailed}
use Rattle.journal_print.specs.declared.unprinted.Unprinted.{Unprinted}
use Rattle.journal_print.specs.declared.unprinted.Unprinted.TheVariants as unprinted
use Rattle.command_words.specs.declared.command.Command.{Command}
use Rattle.command_words.specs.declared.command.Command.TheVariants.{Run, Replay, Book, Fills, Ledger, Levels, Steps, Drill, Checkpoint, Amend, Session, Opening, Rebuild}
use Rattle.globex_run.specs.Outcomes.{outcome_of}
use Rattle.globex_run.specs.Words.{NeverEndsWith}
use Rattle.globex_run.specs.Prints.{outcome_printed, outcome_sent}
use Rattle.globex_run.specs.Inner.Checkpointing.{IsCheckpointEnding}
use Rattle.globex_run.specs.declared.outcome.Outcome.{Outcome}
use Rattle.globex_run.specs.declared.ending.Ending.{Ending}
use Rattle.globex_run.specs.declared.ending.Ending.TheVariants.{Done, ReadFault, StoreFault, SendFault, BadFrame, Truncated, NotAJournal, JournalBad, ProductDiffers, Full}

-- ---- want of memory, or not

pub by-memory : {A : Type 0} (status : ℕ) → (status ≡ 1 → A) → (status ≢ 1 → A) → A
by-memory status lacks has = elim (eqb_tells status 1) [
  | inl one ↦ lacks one.1
  | inr other ↦ has other.1
]

-- it, or what holds of every other status
pub unless-memory : {A : Type 0} (status : ℕ) → (status ≢ 1 → A) → (status ≡ 1) ⊎ A
unless-memory status has = by-memory status (λ one. inl one) (λ other. inr (has other))

-- 7, 8, or a higher one
higher-lacks : (status low : ℕ) → 2 ≤ low → (status ≡ 7) ⊎ ((status ≡ 8) ⊎ (low ≤ status)) → status ≢ 1
higher-lacks status low two never one = ⊎_elim (λ e. omega (arith, e, one)) (λ more. ⊎_elim (λ e. omega (arith, e, one)) (λ high. omega (arith, two, high, one)) more) never

never-prints : (status : ℕ) → NeverEndsWith Replay status → status ≢ 1
never-prints status never = higher-lacks status 12 (omega arith) never

-- a status that a command does not end with is another
pub never-lacks : (command : Command) (status : ℕ) → NeverEndsWith command status → status ≢ 1
never-lacks Run status never one = omega (arith, never, one)
never-lacks Session status never one = omega (arith, never, one)
never-lacks Opening status never one = omega (arith, never, one)
never-lacks (Drill first count) status never one = higher-lacks status 13 (omega arith) never one
never-lacks Checkpoint status never one = ⊎_elim (λ six. omega (arith, six, one)) (λ more. higher-lacks status 13 (omega arith) more one) never
never-lacks Amend status never one = ⊎_elim (λ six. omega (arith, six, one)) (λ more. higher-lacks status 14 (omega arith) more one) never
never-lacks Steps status never one = ⊎_elim (λ five. omega (arith, five, one)) (λ more. omega (arith, more, one)) never
never-lacks Replay status never one = never-prints status never one
never-lacks Book status never one = never-prints status never one
never-lacks Fills status never one = never-prints status never one
never-lacks Ledger status never one = never-prints status never one
never-lacks Levels status never one = never-prints status never one
never-lacks Rebuild status never one =
    ⊎_elim (λ five. omega (arith, five, one)) (λ more. ⊎_elim (λ seven. omega (arith, seven, one)) (λ more. ⊎_elim (λ refused. omega (arith, refused.0, one)) (λ more. ⊎_elim (λ e. omega (arith, e, one)) (λ high. omega (arith, high, one)) more) more) more) never

-- ---- with which statuses a command does not end

module _ (outcome : Outcome) where
  -- 12 and 13 come of no printing
  pub printed-low : (answer : Result ℕ Unprinted) → outcome ≡ outcome_printed answer → outcome.status < 12
  printed-low (Ok n) is = omega (arith, ap (λ (o : Outcome). o.status) is)
  printed-low (Err unprinted.NoMemory) is = omega (arith, ap (λ (o : Outcome). o.status) is)
  printed-low (Err unprinted.Store) is = omega (arith, ap (λ (o : Outcome). o.status) is)
  printed-low (Err unprinted.Send) is = omega (arith, ap (λ (o : Outcome). o.status) is)
  printed-low (Err (unprinted.NotAJournal at)) is = omega (arith, ap (λ (o : Outcome). o.status) is)
  printed-low (Err (unprinted.Bad at)) is = omega (arith, ap (λ (o : Outcome). o.status) is)
  printed-low (Err (unprinted.ProductDiffers at)) is = omega (arith, ap (λ (o : Outcome). o.status) is)

  pub sent-status : (result : Result (Unit {0}) SendFailed) → outcome ≡ outcome_sent 0 result → (outcome.status ≡ 5) ⊎ (7 ≤ outcome.status) → ⊥
  sent-status (Ok t) is never = ⊎_elim (λ five. omega (arith, five, ap (λ (o : Outcome). o.status) is)) (λ more. omega (arith, more, ap (λ (o : Outcome). o.status) is)) never
  sent-status (Err fault) is never = ⊎_elim (λ five. omega (arith, five, ap (λ (o : Outcome). o.status) is)) (λ more. omega (arith, more, ap (λ (o : Outcome). o.status) is)) never

  pub checkpoint-not-sent : (ending : Ending) → IsCheckpointEnding ending → outcome ≡ outcome_of ending outcome.messages → outcome.status ≡ 6 → ⊥
  checkpoint-not-sent Done possible is six = omega (arith, six, ap (λ (o : Outcome). o.status) is)
  checkpoint-not-sent (ReadFault place) possible is six = absurd possible
  checkpoint-not-sent StoreFault possible is six = omega (arith, six, ap (λ (o : Outcome). o.status) is)
  checkpoint-not-sent SendFault possible is six = absurd possible
  checkpoint-not-sent (BadFrame place) possible is six = absurd possible
  checkpoint-not-sent (Truncated place) possible is six = absurd possible
  checkpoint-not-sent (NotAJournal place) possible is six = omega (arith, six, ap (λ (o : Outcome). o.status) is)
  checkpoint-not-sent (JournalBad place) possible is six = omega (arith, six, ap (λ (o : Outcome). o.status) is)
  checkpoint-not-sent (ProductDiffers place) possible is six = omega (arith, six, ap (λ (o : Outcome). o.status) is)
  checkpoint-not-sent (Full place) possible is six = omega (arith, six, ap (λ (o : Outcome). o.status) is)

  -- 13 comes of no ending
  pub ending-low : (ending : Ending) (count : ℕ) → outcome ≡ outcome_of ending count → outcome.status < 13
  ending-low Done count is = omega (arith, ap (λ (o : Outcome). o.status) is)
  ending-low (ReadFault place) count is = omega (arith, ap (λ (o : Outcome). o.status) is)
  ending-low StoreFault count is = omega (arith, ap (λ (o : Outcome). o.status) is)
  ending-low SendFault count is = omega (arith, ap (λ (o : Outcome). o.status) is)
  ending-low (BadFrame place) count is = omega (arith, ap (λ (o : Outcome). o.status) is)
  ending-low (Truncated place) count is = omega (arith, ap (λ (o : Outcome). o.status) is)
  ending-low (NotAJournal place) count is = omega (arith, ap (λ (o : Outcome). o.status) is)
  ending-low (JournalBad place) count is = omega (arith, ap (λ (o : Outcome). o.status) is)
  ending-low (ProductDiffers place) count is = omega (arith, ap (λ (o : Outcome). o.status) is)
  ending-low (Full place) count is = omega (arith, ap (λ (o : Outcome). o.status) is)

  -- nor of the sending of a text
  pub sent-low : (count : ℕ) (result : Result (Unit {0}) SendFailed) → outcome ≡ outcome_sent count result → outcome.status < 13
  sent-low count (Ok t) is = ending-low Done count is
  sent-low count (Err fault) is = ending-low SendFault count is
