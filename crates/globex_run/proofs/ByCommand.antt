-- What holds of each command of a kind, from what holds of its members.
use Rattle.std.proofs.Common.{ℕ}
use Rattle.command_words.specs.declared.command.Command.{Command}
use Rattle.command_words.specs.declared.command.Command.TheVariants.{Run, Replay, Book, Fills, Ledger, Levels, Steps, Drill, Checkpoint, Amend, Session, Opening, Rebuild}
use Rattle.globex_run.specs.Calls.{Call}
use Rattle.globex_run.specs.Words.{IsWriting, GoesOn}
use Rattle.globex_run.specs.Works.{Serves, ServesNone}

module _ (Holds : Command → Type 0) (run : Holds Run) (drill : (first count : ℕ) → Holds (Drill first count)) where
  -- that go on under the product of the last text
  pub by-going-on : Holds Checkpoint → (c : Command) → GoesOn c → Holds c
  by-going-on checkpoint Run goes = run
  by-going-on checkpoint (Drill first count) goes = drill first count
  by-going-on checkpoint Checkpoint goes = checkpoint
  by-going-on checkpoint Amend goes = absurd goes
  by-going-on checkpoint Replay goes = absurd goes
  by-going-on checkpoint Book goes = absurd goes
  by-going-on checkpoint Fills goes = absurd goes
  by-going-on checkpoint Ledger goes = absurd goes
  by-going-on checkpoint Steps goes = absurd goes
  by-going-on checkpoint Session goes = absurd goes
  by-going-on checkpoint Opening goes = absurd goes
  by-going-on checkpoint Levels goes = absurd goes
  by-going-on checkpoint Rebuild goes = absurd goes

  -- that write
  pub by-writing : Holds Checkpoint → Holds Amend → (c : Command) → IsWriting c → Holds c
  by-writing checkpoint amend Run writing = run
  by-writing checkpoint amend (Drill first count) writing = drill first count
  by-writing checkpoint amend Checkpoint writing = checkpoint
  by-writing checkpoint amend Amend writing = amend
  by-writing checkpoint amend Replay writing = absurd writing
  by-writing checkpoint amend Book writing = absurd writing
  by-writing checkpoint amend Fills writing = absurd writing
  by-writing checkpoint amend Ledger writing = absurd writing
  by-writing checkpoint amend Steps writing = absurd writing
  by-writing checkpoint amend Session writing = absurd writing
  by-writing checkpoint amend Opening writing = absurd writing
  by-writing checkpoint amend Levels writing = absurd writing
  by-writing checkpoint amend Rebuild writing = absurd writing

  -- that serve messages
  pub by-serving : {P I S : Type 0} (call : Call P I S) (c : Command) → Serves call c → Holds c
  by-serving call Run serves = run
  by-serving call (Drill first count) serves = drill first count
  by-serving call Checkpoint serves = absurd serves
  by-serving call Amend serves = absurd serves
  by-serving call Replay serves = absurd serves
  by-serving call Book serves = absurd serves
  by-serving call Fills serves = absurd serves
  by-serving call Ledger serves = absurd serves
  by-serving call Steps serves = absurd serves
  by-serving call Session serves = absurd serves
  by-serving call Opening serves = absurd serves
  by-serving call Levels serves = absurd serves
  by-serving call Rebuild serves = absurd serves

-- that write, and serve none
pub by-serving-none : {P I S : Type 0} (call : Call P I S) (Holds : Command → Type 0) → Holds Checkpoint → Holds Amend → (c : Command) → ServesNone call c → Holds c
by-serving-none call Holds checkpoint amend Checkpoint serves = checkpoint
by-serving-none call Holds checkpoint amend Amend serves = amend
by-serving-none call Holds checkpoint amend Run serves = absurd serves
by-serving-none call Holds checkpoint amend (Drill first count) serves = absurd serves
by-serving-none call Holds checkpoint amend Replay serves = absurd serves
by-serving-none call Holds checkpoint amend Book serves = absurd serves
by-serving-none call Holds checkpoint amend Fills serves = absurd serves
by-serving-none call Holds checkpoint amend Ledger serves = absurd serves
by-serving-none call Holds checkpoint amend Steps serves = absurd serves
by-serving-none call Holds checkpoint amend Session serves = absurd serves
by-serving-none call Holds checkpoint amend Opening serves = absurd serves
by-serving-none call Holds checkpoint amend Levels serves = absurd serves
by-serving-none call Holds checkpoint amend Rebuild serves = absurd serves
