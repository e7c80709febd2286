-- What `globex` promises, clause by clause, of a call.
use Rattle.std.specs.Prelude.{◌≡◌, ◌≢◌, ◌⊎◌, ℕ, List, Some, None, Ok}
use Rattle.gx_station.specs.Counts.{Rose}
use Rattle.gx_station.specs.Honest.{KeepsImage}
use Rattle.match_journal.specs.Journal.{Header, Record}
use Rattle.match_journal.specs.Texts.{HasLastText}
use Rattle.match_journal.specs.Causes.{ReadsOnly}
use Rattle.match_journal.specs.Classes.{Keeps}
use Rattle.order_kinds.specs.Histories.{History, AreOfTexts, IsBalanced}
use Rattle.stream_laws.specs.Sums.{IsReadBalanced}
use Rattle.stream_laws.specs.Repeats.{RepeatsReports}
use Rattle.command_words.specs.declared.command.Command.{Command}
use Rattle.command_words.specs.declared.command.Command.TheVariants.{Run, Checkpoint, Amend, Session, Opening, Rebuild}
use Rattle.globex_run.specs.Calls.{Call}
use Rattle.product_file.specs.Products.{ProductLists}
use Rattle.product_file.specs.ProductTexts.{product_of}
use Rattle.product_file.specs.declared.limits.TheConstants.{LONGEST_TEXT}
use Rattle.globex_run.specs.Outside.{IsQuiet}
use Rattle.globex_run.specs.Words.{IsWriting, GoesOn, ReadsInput, OpensByText, TakesKeptProducts, NeverEndsWith}
use Rattle.globex_run.specs.ProductTexts.{ProductPremises, AnswersProduct, TakesAtMost}
use Rattle.globex_run.specs.RunResult.{CommandResult}
use Rattle.globex_run.specs.Steps.{LeavesFronts, LeavesEntryOrFronts, KeepsEverySent}
use Rattle.globex_run.specs.Headline.{AddsMessages, KeepsARecordPerRead, ReadsFew}
use Rattle.globex_run.specs.Checkpoints.{HasNoRoomForImage}
use Rattle.globex_run.specs.Amends.{HasNoRoomForAmendment, RefusesToAmend}
use Rattle.globex_run.specs.Memory.{HasKeptProducts}
use Rattle.globex_run.specs.Prints.{PrintsAs}
use Rattle.globex_run.specs.Answering.{AnswersSession}
use Rattle.globex_run.specs.OpeningPrices.{ShowsOpenings}
use Rattle.globex_run.specs.Rebuilding.{RebuildsLevels}
use Rattle.globex_run.specs.Refusals.{IsRefusal, RefusesExactly, CanStart}
use Rattle.globex_run.specs.FullJournals.{IsFullJournal}
use Rattle.globex_run.specs.Works.{Given, GivenFor, Reads, work_of, DoneBy, EndedBy, Serves, ServesNone, bytes_for, CanBeDone, EndsWell}

module _ {P I S : Type 0} (c : Call P I S) where
  -- of each command, if it was asked for
  abbrev pub OfEach : (Command → Type 0) → Type 0
  OfEach Holds = (asked : Command) → c.asked ≡ Some asked → Holds asked

  -- of each command that writes, under its premises
  abbrev pub OfEachWriting : ((asked : Command) → GivenFor c asked → Reads c asked → Type 0) → Type 0
  OfEachWriting Holds = OfEach (λ asked. IsWriting asked → (given : GivenFor c asked) (read : Reads c asked) → Holds asked given read)

  -- ---- the headline, sentence by sentence, of `run` and of each other command that writes

  -- Status 0: what is sent of all messages was sent, and all of them are kept, or an image was added, or a product.
  abbrev pub DoesAll : Type 0
  DoesAll = OfEachWriting (λ asked given read. c.outcome.status ≡ 0 → DoneBy c asked given read)

  -- Any other ending: of which messages something was sent, and which are kept.
  abbrev pub EndsAsTold : Type 0
  EndsAsTold = OfEachWriting (λ asked given read. c.outcome.status ≢ 0 → EndedBy c asked given read)

  -- At every moment: a crash leaves a front of the steps, kept, and what had been sent is a front of what is sent of them.
  abbrev pub LeavesAFront : Type 0
  LeavesAFront = OfEachWriting (λ asked given read. LeavesFronts c (work_of c asked given read))

  -- Before the first sync: or what a crash at entry could leave already, with the output of entry.
  abbrev pub LeavesTheEntry : Type 0
  LeavesTheEntry = OfEachWriting (λ asked given read. LeavesEntryOrFronts c (work_of c asked given read))

  -- With every message: where a byte of what is sent of a step was sent, it is kept.
  abbrev pub KeepsWhatIsSent : Type 0
  KeepsWhatIsSent = OfEachWriting (λ asked given read. KeepsEverySent c (work_of c asked given read))

  -- ---- what else holds of commands that write

  -- A command that serves messages adds records of messages alone, and no book image.
  abbrev pub AddsMessagesAlone : Type 0
  AddsMessagesAlone = OfEach (λ asked. Serves c asked → (given : Given c) → AddsMessages c.station c.before c.after c.outcome given)

  -- All whole frames at hand share one record.
  abbrev pub AddsARecordPerRead : Type 0
  AddsARecordPerRead = c.asked ≡ Some Run → (given : Given c) → KeepsARecordPerRead c.station c.before c.after c.outcome given

  -- How much of the journal is read.
  abbrev pub ReadsItOnce : Type 0
  ReadsItOnce = OfEach (λ asked. GoesOn asked → (given : Given c) → ReadsFew c.station c.before c.after c.outcome given)

  -- 12, of a command that serves messages: the next one has no room in the journal, or cannot be counted; whatever the journal keeps.
  abbrev pub IsFullForMessages : Type 0
  IsFullForMessages = OfEach (λ asked. Serves c asked → (given : ProductPremises c.before c.after c.outcome.status) (read : Reads c asked)
      → c.station.is_honest c.before.streams.station.object → (image : List ℕ) (head : Header) (records : List Record) → c.before.streams.station.image ≡ Some image
      → HasLastText head records given.text → Keeps head given.product.journal_limit records image → c.outcome.status ≡ 12
      → IsFullJournal given.product given.text head image records c.after.streams.station c.outcome (bytes_for c given asked read))

  -- 12, of a checkpoint: the image has no room.
  abbrev pub IsFullForImage : Type 0
  IsFullForImage = c.asked ≡ Some Checkpoint → (given : Given c) → c.outcome.status ≡ 12 → HasNoRoomForImage c.station c.before c.after c.outcome given

  -- 12, of an amendment: its record has no room.
  abbrev pub IsFullForAmendment : Type 0
  IsFullForAmendment = c.asked ≡ Some Amend → (given : GivenFor c Amend) → c.outcome.status ≡ 12 → HasNoRoomForAmendment c.station c.before c.after c.outcome given

  -- A command that writes, and serves no message, sends nothing, and counts messages at status 0 alone.
  abbrev pub SendsNothing : Type 0
  SendsNothing = OfEach (λ asked. ServesNone c asked → (c.after.streams.station.sent ≡ c.before.streams.station.sent) × (c.outcome.status ≢ 0 → c.outcome.messages ≡ 0))

  -- ---- every command

  -- Where memory is given, no fault comes, and there is room, it ends well.
  abbrev pub EndsWellWhereItCan : Type 0
  EndsWellWhereItCan = OfEach (λ asked. (can : CanBeDone c.station c.before asked) → IsQuiet c.before c.after
      → (c.outcome.status ≡ 1) ⊎ EndsWell c.station c.before asked can c.outcome.status)

  -- What is printed, whatever the answer.
  abbrev pub PrintsItsText : Type 0
  PrintsItsText = OfEach (λ asked. (given : ProductPremises c.before c.after c.outcome.status)
      → PrintsAs c.station given.product given.text c.before.streams.station c.after.streams.station c.outcome asked)

  -- What `session` sends, whatever its status: the answers to the messages of its input.
  abbrev pub AnswersItsInput : Type 0
  AnswersItsInput = c.asked ≡ Some Session → (given : ProductPremises c.before c.after c.outcome.status)
      → AnswersSession c.station given.product given.text c.before.streams c.after.streams c.outcome

  -- What `opening` sends, whatever its status: the openings once the messages of its input are collected, or a part of them, or nothing.
  abbrev pub ShowsItsOpenings : Type 0
  ShowsItsOpenings = c.asked ≡ Some Opening → (given : ProductPremises c.before c.after c.outcome.status)
      → ShowsOpenings given.product given.text c.before.streams c.after.streams c.outcome

  -- What `rebuild` sends, whatever its status: the levels at the end of the feed that its input is, or a part of them, or nothing.
  abbrev pub RebuildsItsLevels : Type 0
  RebuildsItsLevels = c.asked ≡ Some Rebuild → (given : ProductPremises c.before c.after c.outcome.status)
      → RebuildsLevels given.product c.before.streams c.after.streams c.outcome

  -- The lines that are sent again out of a history are some of its reports, in their order, but for what says that they are sent again.
  abbrev pub RepeatsTheReports : Type 0
  RepeatsTheReports = (kept : History) → AreOfTexts kept → RepeatsReports kept

  -- The reports of each history add up whose products are those of texts: of what is kept, and of what this call adds to it.
  abbrev pub Balances : Type 0
  Balances = (kept : History) → AreOfTexts kept → IsBalanced kept

  -- So does what the bytes of their reports say, read as messages are read, with the ledger's lines and its total.
  abbrev pub BalancesAsRead : Type 0
  BalancesAsRead = (kept : History) → AreOfTexts kept → IsReadBalanced kept

  -- Want of memory leaves the input and the station untouched, and no more was taken of the product than its text may have. Only commands
  -- that take products of the journal may have read it then, and nothing else was touched, whatever the product's text is. By that text the
  -- journal has such products.
  abbrev pub LeavesAllAtNoMemory : Type 0
  LeavesAllAtNoMemory = c.outcome.status ≡ 1 → TakesAtMost LONGEST_TEXT c.before.product c.after.product
      × ((c.after.streams ≡ c.before.streams) ⊎ ((asked : Command) × (c.asked ≡ Some asked) × TakesKeptProducts asked
      × (c.after.streams.input ≡ c.before.streams.input) × ReadsOnly c.station c.before.streams.station.object c.after.streams.station.object
      × ((text : List ℕ) (product : ProductLists) → c.before.product.left ≡ Some text → product_of text ≡ Ok product
      → (image : List ℕ) → c.before.streams.station.image ≡ Some image → HasKeptProducts asked product text image)))

  -- What was taken from the product's source and the input, and why it ended there, for all statuses but 1.
  abbrev pub EndsWhereTold : Type 0
  EndsWhereTold = OfEach (λ asked. c.outcome.status ≢ 1 → CommandResult c.before c.after c.outcome asked)

  -- 9, 10 and 11 come exactly where the image of entry is such.
  abbrev pub RefusesWhatItMust : Type 0
  RefusesWhatItMust = OfEach (λ asked. OpensByText asked → (given : ProductPremises c.before c.after c.outcome.status) (image : List ℕ)
      → c.before.streams.station.image ≡ Some image → RefusesExactly asked given.product given.text image c.outcome)

  -- So do 9, 10, 11 and 13 of `amend`.
  abbrev pub RefusesAmendments : Type 0
  RefusesAmendments = c.asked ≡ Some Amend → (given : ProductPremises c.before c.after c.outcome.status) (image : List ℕ)
      → c.before.streams.station.image ≡ Some image → RefusesToAmend given.product given.text image c.outcome

  -- An image from which a run can start is refused by no command.
  abbrev pub OpensAgain : Type 0
  OpensAgain = OfEach (λ asked. CanStart c.before asked → IsRefusal c.outcome.status → ⊥)

  abbrev pub HasItsStatuses : Type 0
  HasItsStatuses = OfEach (λ asked. NeverEndsWith asked c.outcome.status → ⊥)

  -- The words alone decide on 2: it comes exactly where they are no command, but for want of memory.
  abbrev pub AnswersWords : Type 0
  AnswersWords = (c.outcome.status ≡ 2 → c.asked ≡ None) × (c.asked ≡ None → (c.outcome.status ≡ 2) ⊎ (c.outcome.status ≡ 1))

  -- The product's text alone decides on 3: it comes exactly where the text breaks a rule.
  abbrev pub AnswersProductText : Type 0
  AnswersProductText = (text : List ℕ) → c.before.product.left ≡ Some text → AnswersProduct c.before c.after c.outcome text

  -- What is refused stays as it is, and a command that writes sends nothing then.
  abbrev pub LeavesWhatItRefuses : Type 0
  LeavesWhatItRefuses = OfEach (λ asked. IsWriting asked → IsRefusal c.outcome.status ⊎ (c.outcome.status ≡ 13) → (c.after.streams.station.sent ≡ c.before.streams.station.sent)
      × ((image : List ℕ) → c.before.streams.station.image ≡ Some image → KeepsImage c.station c.before.streams.station.object c.after.streams.station.object))

  -- ---- a fault of the outside is answered only where its count rose, and else no count does

  abbrev pub TellsReadFaults : Type 0
  TellsReadFaults =
      (c.outcome.status ≡ 4 → Rose c.before.product.faults c.after.product.faults ⊎ ((asked : Command) × (c.asked ≡ Some asked) × ReadsInput asked × Rose c.before.streams.input.faults c.after.streams.input.faults))
      × (c.outcome.status ≢ 4 → (c.after.product.faults ≡ c.before.product.faults) × (c.after.streams.input.faults ≡ c.before.streams.input.faults))

  abbrev pub TellsStoreFaults : Type 0
  TellsStoreFaults =
      (c.outcome.status ≡ 5 → Rose c.before.streams.station.store_faults c.after.streams.station.store_faults)
      × (c.outcome.status ≢ 5 → c.after.streams.station.store_faults ≡ c.before.streams.station.store_faults)

  abbrev pub TellsSendFaults : Type 0
  TellsSendFaults =
      (c.outcome.status ≡ 6 → Rose c.before.streams.station.send_faults c.after.streams.station.send_faults)
      × (c.outcome.status ≢ 6 → c.after.streams.station.send_faults ≡ c.before.streams.station.send_faults)
