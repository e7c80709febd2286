-- The headline in the words of `run`, sentence by sentence.
use Rattle.std.specs.Prelude.{◌≡◌, ◌≢◌, Some}
use Rattle.command_words.specs.declared.command.Command.TheVariants.{Run}
use Rattle.globex_run.specs.Calls.{Call}
use Rattle.globex_run.specs.Works.{Given}
use Rattle.globex_run.specs.Headline.{InputPremises, SendsExactlyTheReports, EndsOtherwise, RunLeavesCrashPrefixes, RunBeforeTheFirstSync, KeepsEveryReported}

module _ {P I S : Type 0} (c : Call P I S) where
  -- of a run, under the premises
  abbrev pub OfRun : ((given : Given c) → InputPremises c.before.streams.input c.after.streams.input → Type 0) → Type 0
  OfRun Holds = c.asked ≡ Some Run → (given : Given c) (read : InputPremises c.before.streams.input c.after.streams.input) → Holds given read

  -- Status 0: exactly the reports of all messages read were sent, and all of them are kept.
  abbrev pub ExactlyTheReports : Type 0
  ExactlyTheReports = OfRun (λ given read. c.outcome.status ≡ 0 → SendsExactlyTheReports c.station c.before c.after c.outcome given read)

  -- Any other ending: the reports of the first messages were sent, and these are kept.
  abbrev pub AnyOtherEnding : Type 0
  AnyOtherEnding = OfRun (λ given read. c.outcome.status ≢ 0 → EndsOtherwise c.station c.before c.after c.outcome given read)

  -- At every moment: a crash leaves a front of the messages, kept, and had sent a front of their reports.
  abbrev pub AtEveryMoment : Type 0
  AtEveryMoment = OfRun (λ given read. RunLeavesCrashPrefixes c.station c.before c.after c.outcome given read)

  -- Before the first sync: or what a crash at entry could leave already.
  abbrev pub BeforeAnySync : Type 0
  BeforeAnySync = OfRun (λ given read. RunBeforeTheFirstSync c.station c.before c.after c.outcome given read)

  -- With every message: where a byte of the reports of a message was sent, it is kept, with all before it.
  abbrev pub WithEveryMessage : Type 0
  WithEveryMessage = OfRun (λ given read. KeepsEveryReported c.station c.before c.after c.outcome given read)
