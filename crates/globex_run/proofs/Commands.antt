-- What the command of the words came to, from how it was executed.
use Rattle.globex_run.specs.Inner.Keeping.{KeepsEvents}
use Rattle.gx_station.specs.Sources.{and_left}
use Rattle.std.proofs.Common.{[], ◌≡◌, ◌≢◌, ◌⊎◌, inl, inr, ⊎_elim, ℕ, ◌++◌, ◌≤◌, List, length, Option, Some, Result, Ok, Err, refl, sym, ap, subst, ◌∙◌, arith}
use Rattle.std.specs.Prelude.{IfSome}
use Rattle.std.proofs.lemmas.Bool.Decides.{eqb_tells}
use Rattle.std.proofs.lemmas.Option.{same_Some}
use Rattle.gx_base.specs.declared.event.Event.{Event}
use Rattle.gx_station.specs.Stations.{StationMeanings}
use Rattle.gx_station.specs.Honest.{IsHonestNow}
use Rattle.fix_frame.specs.Grammar.{IsFrameFront}
use Rattle.fix_frame.specs.Stream.{messages_of}
use Rattle.product_file.specs.Products.{ProductLists}
use Rattle.product_file.specs.ProductTexts.{product_of}
use Rattle.order_kinds.specs.Histories.{History, new_reports}
use Rattle.match_journal.specs.Journal.{Header, Record}
use Rattle.match_journal.specs.Classes.{Keeps}
use Rattle.match_journal.specs.Texts.{HasLastText}
use Rattle.book_recovery.specs.Kept.{IsStartable}
use Rattle.book_recovery.proofs.OneWay.{one_place, one_bad_for_each}
use Rattle.book_print.specs.TallyText.{no_tally}
use Rattle.book_print.specs.Printing.{tally_form}
use Rattle.order_maker.specs.Stream.{MadeStream, generator_meanings, made_stream}
use Rattle.exec_report.specs.declared.texts.SendFault.{SendFault as SendFailed}
use Rattle.journal_print.specs.Reading.{ReadsAndSends}
use Rattle.journal_print.specs.declared.unprinted.Unprinted.{Unprinted}
use Rattle.command_words.specs.declared.command.Command.{Command}
use Rattle.command_words.specs.declared.command.Command.TheVariants.{Run, Replay, Book, Fills, Ledger, Levels, Steps, Drill, Checkpoint, Amend, Session, Opening, Rebuild}
use Rattle.globex_run.specs.Outside.{SourceAt, Outside, Streams, IsQuiet, source_at, streams_at}
use Rattle.globex_run.specs.Outcomes.{outcome_of}
use Rattle.globex_run.specs.Words.{IsPrinting, OnlyReads, ReadsInput, OpensByText, NeverEndsWith}
use Rattle.globex_run.specs.ProductTexts.{IsProductText, ProductPremises}
use Rattle.globex_run.specs.Memory.{HasKeptProducts}
use Rattle.globex_run.specs.FullJournals.{IsFullJournal}
use Rattle.globex_run.specs.Refusals.{IsRefusal, RefusesExactly, CanStart}
use Rattle.globex_run.specs.RunResult.{CommandResult, CommandEnded, RunEnded, EndedUnread, TakesInput}
use Rattle.globex_run.specs.Journals.{AnswersImage}
use Rattle.globex_run.specs.Headline.{Premises, InputPremises, SendsExactlyTheReports, EndsOtherwise, RunLeavesCrashPrefixes, RunBeforeTheFirstSync, KeepsEveryReported, AddsMessages, KeepsARecordPerRead, ReadsFew, CanBeServed, IsServed}
use Rattle.globex_run.specs.Drills.{made_bytes, KeepsAndSumsUp, DrillEndsOtherwise, DrillLeavesCrashPrefixes, DrillBeforeTheFirstSync, CanBeDrilled}
use Rattle.globex_run.specs.Checkpoints.{AddsImage, KeepsTheSame, CheckpointLeavesCrashPrefixes, CheckpointBeforeTheFirstSync, HasNoRoomForImage, CanBeCheckpointed}
use Rattle.globex_run.specs.Prints.{PrintsAs, outcome_printed, outcome_sent}
use Rattle.globex_run.specs.Inner.Drilling.{DrillResult, DrillsMade}
use Rattle.globex_run.specs.Inner.Checkpointing.{EndsCheckpoint, CheckpointResult}
use Rattle.globex_run.specs.Inner.Amending.{AmendResult}
use Rattle.globex_run.specs.Inner.Executing.{Executes, HasCauses, Runs}
use Rattle.globex_run.specs.Answering.{AnswersSession, IsAnswered}
use Rattle.globex_run.specs.OpeningPrices.{ShowsOpenings}
use Rattle.globex_run.specs.Rebuilding.{RebuildsLevels, CanReadFeed, IsRebuilt}
use Rattle.globex_run.specs.Calls.{Call}
use Rattle.globex_run.specs.Steps.{LeavesFronts, LeavesEntryOrFronts}
use Rattle.globex_run.specs.Amends.{AmendPremises, CanBeAmended}
use Rattle.globex_run.specs.Works.{GivenFor, Reads, work_of, DoneBy, EndedBy, CanBeDone, CanTakeInput, EndsWell, bytes_for}
use Rattle.globex_run.specs.Drills.{summary, made_messages, summary_of_all}
use Rattle.globex_run.specs.Checkpoints.{sends_nothing}
use Rattle.globex_run.specs.Promises.{DoesAll, EndsAsTold, LeavesAFront, LeavesTheEntry, KeepsWhatIsSent, AddsMessagesAlone, AddsARecordPerRead, ReadsItOnce, IsFullForMessages, IsFullForImage, IsFullForAmendment, SendsNothing, EndsWellWhereItCan, PrintsItsText, AnswersItsInput, ShowsItsOpenings, RebuildsItsLevels, EndsWhereTold, LeavesAllAtNoMemory, RefusesWhatItMust, RefusesAmendments, OpensAgain, HasItsStatuses}
use Rattle.globex_run.specs.declared.outcome.Outcome.{Outcome}
use Rattle.globex_run.proofs.EverySent.{every-sent, all-grows, fronts-of, entry-or-fronts}
use Rattle.globex_run.proofs.Reported.{fewer-reports}
use Rattle.globex_run.specs.declared.ending.Ending.{Ending}
use Rattle.globex_run.specs.declared.ending.Ending.TheVariants.{Done, ReadFault, StoreFault, SendFault, BadFrame, Truncated, NotAJournal, JournalBad, ProductDiffers, Full}
use Rattle.globex_run.proofs.Told.{outside_of}
use Rattle.globex_run.proofs.Runs.{few-of-product, told-product, run-exactly, run-otherwise, run-every-moment, run-first-sync, run-every-message, run-full, run-record-per-read, run-reads-few, run-all}
use Rattle.globex_run.proofs.FewReads.{drill-reads}
use Rattle.globex_run.proofs.Drills.{empty_front, drill-all, drill-otherwise, drill-adds, drill-moments, drill-first-sync, drill-full}
use Rattle.globex_run.proofs.CheckpointHeadlines.{not-among, not-done, adds-image as checkpoint-adds, the-same as checkpoint-keeps, every-moment as checkpoint-moments, first-sync as checkpoint-first-sync, few-read as checkpoint-reads, image-full as checkpoint-full}
use Rattle.globex_run.proofs.Complete.{served}
use Rattle.globex_run.proofs.Endings.{when_done}
use Rattle.globex_run.proofs.Refused.{not-refusal, none-counted, by-ending, by-book, by-events, by-unread, by-answers}
use Rattle.globex_run.proofs.Statuses.{by-memory, unless-memory, never-lacks, printed-low, ending-low, sent-status, checkpoint-not-sent}
use Rattle.globex_run.proofs.Executed.{drill-low}
use Rattle.globex_run.proofs.ByCommand.{by-going-on, by-writing, by-serving, by-serving-none}
use Rattle.globex_run.proofs.AmendHeadlines.{amend-does, amend-ends, amend-every-moment, amend-first-sync, amend-full, amend-done, amend-counts, amend-statuses}
use Rattle.globex_run.proofs.AmendRefused.{amend-refuses}
use Rattle.globex_run.proofs.AmendExecuted.{amend-opens}
use Rattle.globex_run.proofs.StartableImages.{not-refused-by}
use Rattle.globex_run.proofs.Printed.{events-printed, book-printed, steps-printed}
use Rattle.globex_run.proofs.Answered.{unprinted-answer, answered-well}
use Rattle.globex_run.proofs.OpeningHeadlines.{opening-ended, opening-well}
use Rattle.globex_run.proofs.Rebuilt.{rebuilt-takes, rebuilt-not-refused, rebuilt-statuses, rebuilt-well}
use Rattle.globex_run.proofs.Lists.{and_left-none}

-- ---- a command that can be done has a product

-- its text, and the product that it gives
abbrev IsTold : {P I S : Type 0} → Outside P I S → Type 0
IsTold before = (text : List ℕ) × (product : ProductLists) × (before.product.left ≡ Some text) × (product_of text ≡ Ok product)

pub product-told : {P I S : Type 0} (m : StationMeanings S) (before : Outside P I S) (asked : Command) → CanBeDone m before asked → IsTold before
product-told m before Run can = (can.start.text, can.start.product, can.start.text_known, can.start.gives)
product-told m before (Drill first count) can = (can.start.text, can.start.product, can.start.text_known, can.start.gives)
product-told m before Checkpoint can = (can.start.text, can.start.product, can.start.text_known, can.start.gives)
product-told m before Amend can = (can.start.text, can.start.product, can.start.text_known, can.start.gives)
product-told m before Session can = (can.start.text, can.start.product, can.start.text_known, can.start.gives)
product-told m before Opening can = (can.start.text, can.start.product, can.start.text_known, can.start.gives)
product-told m before Replay can = (can.text, can.product, can.text_known, can.gives)
product-told m before Book can = (can.text, can.product, can.text_known, can.gives)
product-told m before Fills can = (can.text, can.product, can.text_known, can.gives)
product-told m before Ledger can = (can.text, can.product, can.text_known, can.gives)
product-told m before Levels can = (can.text, can.product, can.text_known, can.gives)
product-told m before Rebuild can = (can.text, can.product, can.text_known, can.gives)
product-told m before Steps can = (can.text, can.product, can.text_known, can.gives)

-- ---- a product was taken, and its text lent to the command

module _ {P I S : Type 0} (m : StationMeanings S) (p q : SourceAt P) (i j : SourceAt I) (old new : S) (outcome : Outcome) (text lent : List ℕ) (same : lent ≡ text) (product : ProductLists) (took : IsProductText p q text) (gives : product_of text ≡ Ok product) where
  abbrev entry : Outside P I S
  entry = outside_of m p i old

  abbrev exit : Outside P I S
  exit = outside_of m q j new

  abbrev Causes : Command → Type 0
  Causes command = HasCauses m product lent entry.streams exit.streams outcome command

  abbrev Did : Command → Type 0
  Did command = Executes m product lent entry.streams exit.streams outcome command

  -- no fault of the outside was answered where none came
  no-fault : (command : Command) → Causes command → IsQuiet entry exit → (outcome.status ≢ 5) × (outcome.status ≢ 6)
  no-fault command causes quiet = (λ five. quiet.store (causes.store five), λ six. quiet.sends (causes.send six))

  -- a command for which there was no memory left the input as it was
  pub input-left : (command : Command) → Causes command → outcome.status ≡ 1 → j.object ≡ i.object
  input-left command causes one = ⊎_elim
      (λ untouched. ap (λ (s : Streams I S). s.input.object) untouched)
      (λ stopped. ap (λ (s : SourceAt I). s.object) stopped.1.input)
      (causes.memory one).0

  -- only read
  pub reads-none : (command : Command) → Causes command → outcome.status ≡ 1 → ReadsAndSends m old new
  reads-none command causes one = causes.memory_reads one

  -- and sent nothing
  pub sends-none : (command : Command) → Causes command → outcome.status ≡ 1 → m.sent new ≡ m.sent old
  sends-none command causes one = ⊎_elim (λ untouched. ap (λ (s : Streams I S). s.station.sent) untouched) (λ stopped. stopped.1.reads.looks.silent.sent) (causes.memory one).0

  -- ---- the command that the words ask for

  module _ (asked : Option Command) (command : Command) (is : asked ≡ Some command) (did : Did command) (causes : Causes command) where
    did-as : (c : Command) → asked ≡ Some c → Did c
    did-as c asks = subst Did (same_Some command c (sym is ∙ asks)) did

    causes-as : (c : Command) → asked ≡ Some c → Causes c
    causes-as c asks = subst Causes (same_Some command c (sym is ∙ asks)) causes

    -- ---- a run

    module _ (asks : asked ≡ Some Run) where
      ran : Runs m product lent entry.streams exit.streams outcome
      ran = did-as Run asks

      abbrev Any : List Event → Type 0
      Any events = Unit {0}

      module _ (given : Premises m entry exit outcome.status) (read : InputPremises i j) where
        pub exactly : outcome.status ≡ 0 → SendsExactlyTheReports m entry exit outcome given read
        exactly none = run-exactly m p q i j old new Any ran.then outcome text lent same product took gives ran.session given read none

        pub otherwise : EndsOtherwise m entry exit outcome given read
        otherwise = run-otherwise m p q i j old new Any ran.then outcome text lent same product took gives ran.session given read

        pub every-moment : RunLeavesCrashPrefixes m entry exit outcome given read
        every-moment = run-every-moment m p q i j old new Any ran.then outcome text lent same product took gives ran.session given read

        pub first-sync : IsHonestNow m old → RunBeforeTheFirstSync m entry exit outcome given read
        first-sync now = run-first-sync m p q i j old new Any ran.then outcome text lent same product took gives ran.session given read now

        pub every-message : IsHonestNow m old → KeepsEveryReported m entry exit outcome given read
        every-message now = run-every-message m p q i j old new Any ran.then outcome text lent same product took gives ran.session given read now

      pub full : (given : ProductPremises entry exit outcome.status) (read : InputPremises i j) → m.is_honest old → (image : List ℕ) (head : Header) (records : List Record) → m.holds old ≡ Some image → HasLastText head records given.text → Keeps head given.product.journal_limit records image → outcome.status ≡ 12
          → IsFullJournal given.product given.text head image records exit.streams.station outcome read.taken
      full given read honest image head records known text_is keeps twelve = run-full m p q i j old new Any ran.then outcome text lent same product took gives ran.session given read honest image head records known text_is keeps twelve

      pub each-read : (given : Premises m entry exit outcome.status) → KeepsARecordPerRead m entry exit outcome given
      each-read given = run-record-per-read m p q i j old new Any ran.then outcome text lent same product took gives ran.session given

      pub few-read : (given : Premises m entry exit outcome.status) → ReadsFew m entry exit outcome given
      few-read given = run-reads-few m p q i j old new Any ran.then outcome text lent same product took gives ran.session given

      pub all-served : (can : CanBeServed m entry) → IsQuiet entry exit → IsServed can.bytes outcome.status
      all-served can quiet = run-all m p q i j old new Any ran.then outcome text lent same product took gives ran.session can quiet

    -- ---- a drill

    module _ (first count : ℕ) (asks : asked ≡ Some (Drill first count)) where
      drilled : (told : List ℕ) (lists : ProductLists) → p.left ≡ Some told → product_of told ≡ Ok lists → DrillsMade m lists told first count old new outcome
      drilled told lists known are =
          told-product p q text lent same product took gives (λ (l : ProductLists) (bytes : List ℕ). DrillsMade m l bytes first count old new outcome) told lists known are (did-as (Drill first count) asks).0

      module _ (given : Premises m entry exit outcome.status) where
        made : DrillsMade m given.product given.text first count old new outcome
        made = drilled given.text given.product given.text_known given.gives

        pub sums-up : outcome.status ≡ 0 → KeepsAndSumsUp m entry exit outcome given first count
        sums-up none = drill-all m p q i j old new outcome given first count made.whole made.end made.did none

        pub drill-ends : outcome.status ≢ 0 → DrillEndsOtherwise m entry exit outcome given first count
        drill-ends other = drill-otherwise m p q i j old new outcome given first count made.whole made.end made.did other

        pub drill-adds-messages : AddsMessages m entry exit outcome given
        drill-adds-messages = drill-adds m p q i j old new outcome given first count made.whole made.end made.did

        pub drill-every-moment : DrillLeavesCrashPrefixes m entry exit outcome given first count
        drill-every-moment = drill-moments m p q i j old new outcome given first count made.whole made.end made.did

        pub drill-before-sync : IsHonestNow m old → DrillBeforeTheFirstSync m entry exit outcome given first count
        drill-before-sync now = drill-first-sync m p q i j old new outcome given first count made.whole made.end made.did now

        pub drill-few-read : ReadsFew m entry exit outcome given
        drill-few-read = drill-reads m given.product given.text _ made.end old new outcome made.did given.image given.kept given.honest given.image_known given.startable

      pub drill-has-no-room : (given : ProductPremises entry exit outcome.status) → m.is_honest old → (image : List ℕ) (head : Header) (records : List Record) → m.holds old ≡ Some image → HasLastText head records given.text → Keeps head given.product.journal_limit records image → outcome.status ≡ 12
          → IsFullJournal given.product given.text head image records exit.streams.station outcome (made_bytes given.product first count)
      drill-has-no-room given honest image head records known text_is keeps twelve =
          drill-full m given.product given.text head image records text_is first count old new outcome (drilled given.text given.product given.text_known given.gives) honest known keeps twelve

      -- where there is room and no fault comes, all is kept and summed up
      module _ (can : CanBeDrilled m entry first count) (quiet : IsQuiet entry exit) where
        abbrev stream : List ℕ
        stream = made_stream can.start.product first count

        abbrev at_first : MadeStream
        at_first = record { left = stream; reads = 0 }

        quiet-drill : (outcome.status ≢ 5) × (outcome.status ≢ 6)
        quiet-drill = no-fault (Drill first count) (causes-as (Drill first count) asks) quiet

        summed : (n : ℕ) (result : Result (Unit {0}) SendFailed) → outcome ≡ outcome_sent n result → outcome.status ≡ 0
        summed n (Ok t) is = ap (λ (o : Outcome). o.status) is
        summed n (Err fault) is = absurd (quiet-drill.1 (ap (λ (o : Outcome). o.status) is))

        module _ (made : DrillsMade m can.start.product can.start.text first count old new outcome) where
          abbrev result : DrillResult m can.start.product can.start.text at_first made.end old new outcome
          result = made.did

          abbrev from-made : Outside P MadeStream S
          from-made = outside_of m p (source_at generator_meanings at_first) old

          abbrev to-made : Outside P MadeStream S
          to-made = outside_of m q (source_at generator_meanings made.end) new

          abbrev can-be-served : CanBeServed m from-made
          can-be-served = record {
            start = record {
              text = can.start.text;
              product = can.start.product;
              text_known = can.start.text_known;
              gives = can.start.gives;
              honest = can.start.honest;
              image = can.start.image;
              image_known = can.start.image_known;
              kept = can.start.kept;
              startable = can.start.startable;
            };
            bytes = stream;
            input_known = refl;
            room = can.room;
          }

          quiet-made : IsQuiet from-made to-made
          quiet-made = record {
            product = quiet.product;
            input = λ rose. omega (arith, rose);
            store = quiet.store;
            sends = quiet.sends;
          }

          -- the stream is whole
          none-left : IsServed stream result.served.status → result.served.status ≡ 0
          none-left served = ⊎_elim (λ done. done.0)
              (λ other. ⊎_elim
              (λ cut. absurd (cut.1.0 made.whole))
              (λ broken. absurd (broken.1 (subst (λ (l : List ℕ). IsFrameFront l) (sym made.whole) empty_front)))
              other)
              served

          ended-whole : result.served.status ≢ 0 → result.served.status ≡ 0
          ended-whole other =
              let same = result.otherwise other in
              none-left (served m p q (source_at generator_meanings at_first) (source_at generator_meanings made.end) old result.mid (tally_form.text no_tally) (λ (events : List Event). KeepsEvents tally_form no_tally result.tally events) result.then result.served
              can-be-served (subst (λ (s : S). IsQuiet from-made (outside_of m q (source_at generator_meanings made.end) s)) same.0 quiet-made) result.session.serving.taken made.end.left refl (same_Some stream (result.session.serving.taken ++ made.end.left) result.session.serving.took)
              result.session.ending result.session.is result.session.cause result.session.serving.ends (result.session.from can.start.image can.start.kept can.start.honest can.start.image_known can.start.startable))

          made-all : outcome.status ≡ 0
          made-all = elim (eqb_tells result.served.status 0) [
            | inl none ↦ let sums = result.sums_up none.1 in summed result.served.messages sums.result sums.outcome_is
            | inr other ↦ absurd (other.1 (ended-whole other.1))
          ]

        pub all-drilled : outcome.status ≡ 0
        all-drilled = made-all (drilled can.start.text can.start.product can.start.text_known can.start.gives)

    -- ---- a checkpoint

    module _ (asks : asked ≡ Some Checkpoint) where
      checkpointed : CheckpointResult m product lent old new outcome
      checkpointed = (did-as Checkpoint asks).0

      -- it sends nothing, and answers no send fault
      pub checkpoint-sends-nothing : (m.sent new ≡ m.sent old) × (outcome.status ≢ 6)
      checkpoint-sends-nothing =
          (checkpointed.silent.sent, not-among outcome 6 checkpointed.ending checkpointed.is checkpointed.possible (λ e. omega (arith, e)) (λ e. omega (arith, e)) (inl (omega arith)))

      -- where the image was not added, no message is counted
      pub checkpoint-counts : outcome.status ≢ 0 → outcome.messages ≡ 0
      checkpoint-counts other = checkpointed.none (not-done outcome checkpointed.ending checkpointed.is other)

      checkpointed-as : (told : List ℕ) (lists : ProductLists) → p.left ≡ Some told → product_of told ≡ Ok lists → CheckpointResult m lists told old new outcome
      checkpointed-as told lists known are =
          told-product p q text lent same product took gives (λ (l : ProductLists) (bytes : List ℕ). CheckpointResult m l bytes old new outcome) told lists known are checkpointed

      module _ (given : Premises m entry exit outcome.status) where
        checkpoint-did : CheckpointResult m given.product given.text old new outcome
        checkpoint-did = checkpointed-as given.text given.product given.text_known given.gives

        pub adds-image : outcome.status ≡ 0 → AddsImage m entry exit outcome given
        adds-image none = checkpoint-adds m p q i j old new outcome given checkpoint-did none

        pub keeps-the-same : KeepsTheSame m entry exit outcome given
        keeps-the-same = checkpoint-keeps m p q i j old new outcome given checkpoint-did

        pub checkpoint-every-moment : CheckpointLeavesCrashPrefixes m entry exit outcome given
        checkpoint-every-moment = checkpoint-moments m p q i j old new outcome given checkpoint-did

        pub checkpoint-before-sync : IsHonestNow m old → CheckpointBeforeTheFirstSync m entry exit outcome given
        checkpoint-before-sync now = checkpoint-first-sync m p q i j old new outcome given checkpoint-did now

        pub checkpoint-few-read : ReadsFew m entry exit outcome given
        checkpoint-few-read = checkpoint-reads m p q i j old new outcome given checkpoint-did

        pub image-full : outcome.status ≡ 12 → HasNoRoomForImage m entry exit outcome given
        image-full twelve = checkpoint-full m p q i j old new outcome given checkpoint-did twelve

      -- where there is room and no fault comes, the image is added
      module _ (can : CanBeCheckpointed m entry) (quiet : IsQuiet entry exit) where
        checkpoint-can : CheckpointResult m can.start.product can.start.text old new outcome
        checkpoint-can = checkpointed-as can.start.text can.start.product can.start.text_known can.start.gives

        quiet-checkpoint : (outcome.status ≢ 5) × (outcome.status ≢ 6)
        quiet-checkpoint = no-fault Checkpoint (causes-as Checkpoint asks) quiet

        done-by : (ending : Ending) → outcome ≡ outcome_of ending outcome.messages → EndsCheckpoint m can.start.product can.start.startable.head old new ending can.start.startable.records can.start.kept outcome.messages → outcome.status ≡ 0
        done-by Done is ends = ap (λ (o : Outcome). o.status) is
        done-by (ReadFault place) is ends = absurd ends
        done-by StoreFault is ends = absurd (quiet-checkpoint.0 (ap (λ (o : Outcome). o.status) is))
        done-by SendFault is ends = absurd ends
        done-by (BadFrame place) is ends = absurd ends
        done-by (Truncated place) is ends = absurd ends
        done-by (NotAJournal place) is ends = absurd ends
        done-by (JournalBad place) is ends = absurd ends
        done-by (ProductDiffers place) is ends = absurd ends
        done-by (Full place) is ends = absurd (omega (arith, can.room, ends.too_long, ends.place_is))

        pub all-checkpointed : outcome.status ≡ 0
        all-checkpointed = done-by checkpoint-can.ending checkpoint-can.is (checkpoint-can.from can.start.image can.start.kept can.start.honest can.start.image_known can.start.startable).ends

    -- ---- an amendment

    module _ (asks : asked ≡ Some Amend) where
      amended : AmendResult m product lent old new outcome
      amended = (did-as Amend asks).0

      -- it sends nothing, and unless it was done no message is counted
      pub amend-sends-nothing : m.sent new ≡ m.sent old
      amend-sends-nothing = amended.did.silent.sent

      pub amend-counts-none : outcome.status ≢ 0 → outcome.messages ≡ 0
      amend-counts-none other = amend-counts m product lent i old new outcome amended other

      pub amended-as : (told : List ℕ) (lists : ProductLists) → p.left ≡ Some told → product_of told ≡ Ok lists → AmendResult m lists told old new outcome
      amended-as told lists known are =
          told-product p q text lent same product took gives (λ (l : ProductLists) (bytes : List ℕ). AmendResult m l bytes old new outcome) told lists known are amended

      -- that of the product of the premises
      pub amended-from : (given : AmendPremises m entry exit outcome.status) → AmendResult m given.start.product given.start.text old new outcome
      amended-from given = amended-as given.start.text given.start.product given.start.text_known given.start.gives

      pub all-amended : (can : CanBeAmended m entry) → IsQuiet entry exit → (outcome.status ≡ 1) ⊎ (outcome.status ≡ 0)
      all-amended can quiet = amend-done m p q i j old new outcome can quiet (amended-as can.start.text can.start.product can.start.text_known can.start.gives)

    -- ---- what was answered

    module _ (asks : asked ≡ Some Session) where
      pub answered-as : (told : List ℕ) (lists : ProductLists) → p.left ≡ Some told → product_of told ≡ Ok lists → AnswersSession m lists told entry.streams exit.streams outcome
      answered-as told lists known are =
          told-product p q text lent same product took gives (λ (l : ProductLists) (bytes : List ℕ). AnswersSession m l bytes entry.streams exit.streams outcome) told lists known are (did-as Session asks).form

      -- where it can start and no fault comes, all messages of the input are answered that can be counted
      pub all-answered : (can : CanTakeInput entry Session) → IsQuiet entry exit → outcome.status ≢ 1 → IsAnswered can.bytes outcome.status
      all-answered can quiet lacks =
          let at = can.start.startable (λ e. cc e) in
          let faults = no-fault Session (causes-as Session asks) quiet in
          answered-well m p q i j old new outcome faults (λ four. quiet.input ((causes-as Session asks).read four).1) lacks can.start.product can.start.text can.start.gives at.0 at.1.0 at.1.1.0 at.1.1.1 can.bytes can.input_known
          (answered-as can.start.text can.start.product can.start.text_known can.start.gives)

    -- ---- what was collected

    module _ (asks : asked ≡ Some Opening) where
      pub shown-as : (told : List ℕ) (lists : ProductLists) → p.left ≡ Some told → product_of told ≡ Ok lists → ShowsOpenings lists told entry.streams exit.streams outcome
      shown-as told lists known are =
          told-product p q text lent same product took gives (λ (l : ProductLists) (bytes : List ℕ). ShowsOpenings l bytes entry.streams exit.streams outcome) told lists known are (did-as Opening asks).form

      -- where it can start and no fault comes, all messages of the input are collected that can be counted
      pub all-collected : (can : CanTakeInput entry Opening) → IsQuiet entry exit → EndsWell m entry Opening can outcome.status
      all-collected can quiet image known kept start =
          let faults = no-fault Opening (causes-as Opening asks) quiet in
          opening-well m i j old new outcome faults (λ four. quiet.input ((causes-as Opening asks).read four).1) can.start.product can.start.text can.start.gives image known kept start can.bytes can.input_known
          (shown-as can.start.text can.start.product can.start.text_known can.start.gives)

    -- ---- what was rebuilt

    module _ (asks : asked ≡ Some Rebuild) where
      pub rebuilt-as : (told : List ℕ) (lists : ProductLists) → p.left ≡ Some told → product_of told ≡ Ok lists → RebuildsLevels lists entry.streams exit.streams outcome
      rebuilt-as told lists known are =
          told-product p q text lent same product took gives (λ (l : ProductLists) (bytes : List ℕ). RebuildsLevels l entry.streams exit.streams outcome) told lists known are (did-as Rebuild asks).form

      -- where no fault comes, the status is that of the feed
      pub all-rebuilt : (can : CanReadFeed entry) → IsQuiet entry exit → IsRebuilt can.product can.bytes outcome.status
      all-rebuilt can quiet =
          let faults = no-fault Rebuild (causes-as Rebuild asks) quiet in
          rebuilt-well entry.streams exit.streams can.product outcome can.bytes can.input_known (λ four. quiet.input ((causes-as Rebuild asks).read four).1) faults.1 (rebuilt-as can.text can.product can.text_known can.gives)

    -- ---- what was printed

    module _ (c : Command) (asks : asked ≡ Some c) where
      reads-by : (x : Command) → IsPrinting x → Did x → ReadsAndSends m old new
      reads-by Run printing did = absurd printing
      reads-by (Drill first count) printing did = absurd printing
      reads-by Checkpoint printing did = absurd printing
      reads-by Amend printing did = absurd printing
      reads-by Session printing did = absurd printing
      reads-by Opening printing did = absurd printing
      reads-by Rebuild printing did = absurd printing
      reads-by Replay printing did = did.reads
      reads-by Book printing did = did.reads
      reads-by Fills printing did = did.reads
      reads-by Ledger printing did = did.reads
      reads-by Levels printing did = did.reads
      reads-by Steps printing did = did.reads

      only-by : (x : Command) → OnlyReads x → Did x → ReadsAndSends m old new
      only-by Session reads did = did.reads
      only-by Opening reads did = did.reads
      only-by Rebuild reads did = did.reads
      only-by Run reads did = absurd reads
      only-by (Drill first count) reads did = absurd reads
      only-by Checkpoint reads did = absurd reads
      only-by Amend reads did = absurd reads
      only-by Replay reads did = reads-by Replay reads did
      only-by Book reads did = reads-by Book reads did
      only-by Fills reads did = reads-by Fills reads did
      only-by Ledger reads did = reads-by Ledger reads did
      only-by Levels reads did = reads-by Levels reads did
      only-by Steps reads did = reads-by Steps reads did

      -- a command that prints or answers only reads
      pub reads-only : OnlyReads c → ReadsAndSends m old new
      reads-only reads = only-by c reads (did-as c asks)

      input-by : (x : Command) → (ReadsInput x → ⊥) → Did x → exit.streams.input ≡ entry.streams.input
      input-by Run other did = absurd (other tt)
      input-by Session other did = absurd (other tt)
      input-by Opening other did = absurd (other tt)
      input-by Rebuild other did = absurd (other tt)
      input-by (Drill first count) other did = did.1
      input-by Checkpoint other did = did.1
      input-by Amend other did = did.1
      input-by Replay other did = did.input
      input-by Book other did = did.input
      input-by Fills other did = did.input
      input-by Ledger other did = did.input
      input-by Levels other did = did.input
      input-by Steps other did = did.input

      -- few commands read the input
      pub input-untouched : (ReadsInput c → ⊥) → j.object ≡ i.object
      input-untouched other = ap (λ (x : SourceAt I). x.object) (input-by c other (did-as c asks))

      form-of : (x : Command) → Did x → PrintsAs m product lent entry.streams.station exit.streams.station outcome x
      form-of Run any = tt
      form-of (Drill first count) drilled = tt
      form-of Checkpoint did = tt
      form-of Amend did = tt
      form-of Session did = tt
      form-of Opening did = tt
      form-of Rebuild did = tt
      form-of Replay printed = printed.form
      form-of Book printed = printed.form
      form-of Fills printed = printed.form
      form-of Ledger printed = printed.form
      form-of Levels printed = printed.form
      form-of Steps printed = printed.form

      printed-as : (told : List ℕ) (lists : ProductLists) → p.left ≡ Some told → product_of told ≡ Ok lists → PrintsAs m lists told entry.streams.station exit.streams.station outcome c
      printed-as told lists known are =
          told-product p q text lent same product took gives (λ (l : ProductLists) (bytes : List ℕ). PrintsAs m l bytes entry.streams.station exit.streams.station outcome c) told lists known are (form-of c (did-as c asks))

      pub prints : (given : ProductPremises entry exit outcome.status) → PrintsAs m given.product given.text entry.streams.station exit.streams.station outcome c
      prints given = printed-as given.text given.product given.text_known given.gives

      -- where a run can start and no fault comes, all is printed
      module _ (can : CanStart entry c) (quiet : IsQuiet entry exit) where
        quiet-print : (outcome.status ≢ 5) × (outcome.status ≢ 6)
        quiet-print = no-fault c (causes-as c asks) quiet

        abbrev Printed : Command → Type 0
        Printed x = PrintsAs m can.product can.text entry.streams.station exit.streams.station outcome x

        abbrev Startable : Command → Type 0
        Startable x = x ≢ Steps → (image : List ℕ) × ((entry.streams.station.image ≡ Some image) × ((kept : History) × IsStartable can.product can.text kept image))

        by-command : (x : Command) → IsPrinting x → outcome.status ≢ 1 → Startable x → Printed x → outcome.status ≡ 0
        by-command Run printing lacks startable form = absurd printing
        by-command (Drill first count) printing lacks startable form = absurd printing
        by-command Checkpoint printing lacks startable form = absurd printing
        by-command Amend printing lacks startable form = absurd printing
        by-command Session printing lacks startable form = absurd printing
        by-command Opening printing lacks startable form = absurd printing
        by-command Rebuild printing lacks startable form = absurd printing
        by-command Replay printing lacks startable form =
            let at = startable (λ e. cc e) in events-printed m can.product can.text old new outcome quiet-print can.gives at.0 at.1.1.0 at.1.1.1 _ _ form.answer form.outcome_is lacks (form.prints at.0 at.1.0)
        by-command Fills printing lacks startable form =
            let at = startable (λ e. cc e) in events-printed m can.product can.text old new outcome quiet-print can.gives at.0 at.1.1.0 at.1.1.1 _ _ form.answer form.outcome_is lacks (form.prints at.0 at.1.0)
        by-command Ledger printing lacks startable form =
            let at = startable (λ e. cc e) in events-printed m can.product can.text old new outcome quiet-print can.gives at.0 at.1.1.0 at.1.1.1 _ _ form.answer form.outcome_is lacks (form.prints at.0 at.1.0)
        by-command Levels printing lacks startable form =
            let at = startable (λ e. cc e) in events-printed m can.product can.text old new outcome quiet-print can.gives at.0 at.1.1.0 at.1.1.1 _ _ form.answer form.outcome_is lacks (form.prints at.0 at.1.0)
        by-command Book printing lacks startable form =
            let at = startable (λ e. cc e) in book-printed m can.product can.text old new outcome quiet-print can.gives at.0 at.1.1.0 at.1.1.1 form.answer form.outcome_is (form.prints at.0 at.1.0).prints
        by-command Steps printing lacks startable form = steps-printed outcome quiet-print form.result form.outcome_is

        pub all-printed : IsPrinting c → outcome.status ≢ 1 → outcome.status ≡ 0
        all-printed printing lacks = by-command c printing lacks can.startable (printed-as can.text can.product can.text_known can.gives)

      -- ---- why it ended

      ran-ended : Runs m product lent entry.streams exit.streams outcome → RunEnded entry exit outcome text product
      ran-ended ran = record {
        ending = ran.session.ending;
        is = ran.session.is;
        image = subst (λ (l : List ℕ). IfSome entry.streams.station.image (λ image. AnswersImage product l image ran.session.ending)) same ran.session.image;
        serving = ran.session.serving;
      }

      -- no message of a drill is counted where its journal is refused
      drill-counts : (first count : ℕ) → DrillsMade m product lent first count old new outcome → IsRefusal outcome.status → outcome.messages ≡ 0
      drill-counts first count made refusal = elim (eqb_tells made.did.served.status 0) [
        | inl none ↦ let sums = made.did.sums_up none.1 in absurd (not-summed sums.result sums.outcome_is)
        | inr other ↦
            let same : outcome ≡ made.did.served = (made.did.otherwise other.1).1 in
            ap (λ (o : Outcome). o.messages) same
            ∙ none-counted {I = MadeStream} {S = S} (streams_at {S = S} generator_meanings m (record { left = made_stream product first count; reads = 0 }) old) (streams_at {S = S} generator_meanings m made.end made.did.mid) made.did.served made.did.session.ending made.did.session.serving.taken made.did.session.is made.did.session.serving.ends (subst (λ (o : Outcome). IsRefusal o.status) same refusal)
      ]
        where
          not-summed : (result : Result (Unit {0}) SendFailed) → outcome ≡ outcome_sent made.did.served.messages result → ⊥
          not-summed (Ok t) is = not-refusal outcome.status 0 (ap (λ (o : Outcome). o.status) is) (λ e. cc e) (λ e. cc e) (λ e. cc e) refusal
          not-summed (Err fault) is = not-refusal outcome.status 6 (ap (λ (o : Outcome). o.status) is) (λ e. cc e) (λ e. cc e) (λ e. cc e) refusal

      -- nor of a checkpoint
      checkpoint-none : CheckpointResult m product lent old new outcome → IsRefusal outcome.status → outcome.messages ≡ 0
      checkpoint-none did refusal =
          did.none (λ done. when_done (λ (e : Ending). outcome ≡ outcome_of e outcome.messages → ⊥) (λ is. not-refusal outcome.status 0 (ap (λ (o : Outcome). o.status) is) (λ e. cc e) (λ e. cc e) (λ e. cc e) refusal) did.ending done did.is)

      module _ (first count : ℕ) (input : exit.streams.input ≡ entry.streams.input) (made : DrillsMade m product lent first count old new outcome) where
        abbrev Fits : Ending → Type 0
        Fits ending = IfSome entry.streams.station.image (λ image. AnswersImage product text image ending)

        fits : Fits made.did.session.ending
        fits = subst (λ (l : List ℕ). IfSome entry.streams.station.image (λ image. AnswersImage product l image made.did.session.ending)) same made.did.session.image

        fits-done : (ending : Ending) → made.did.served ≡ outcome_of ending made.did.served.messages → made.did.served.status ≡ 0 → Fits ending → Fits Done
        fits-done Done is none fits = fits
        fits-done (ReadFault place) is none fits = fits
        fits-done StoreFault is none fits = absurd (omega (arith, none, ap (λ (o : Outcome). o.status) is))
        fits-done SendFault is none fits = fits
        fits-done (BadFrame place) is none fits = fits
        fits-done (Truncated place) is none fits = fits
        fits-done (NotAJournal place) is none fits = absurd (omega (arith, none, ap (λ (o : Outcome). o.status) is))
        fits-done (JournalBad place) is none fits = absurd (omega (arith, none, ap (λ (o : Outcome). o.status) is))
        fits-done (ProductDiffers place) is none fits = absurd (omega (arith, none, ap (λ (o : Outcome). o.status) is))
        fits-done (Full place) is none fits = fits

        ended-by : (result : Result (Unit {0}) SendFailed) → outcome ≡ outcome_sent made.did.served.messages result → Fits Done → EndedUnread entry exit outcome text product
        ended-by (Ok t) is fits = record { ending = Done; is = is ∙ ap (λ (n : ℕ). outcome_of Done n) (sym (ap (λ (o : Outcome). o.messages) is)); image = fits; none = drill-counts first count made; input = input }
        ended-by (Err fault) is fits = record { ending = SendFault; is = is ∙ ap (λ (n : ℕ). outcome_of SendFault n) (sym (ap (λ (o : Outcome). o.messages) is)); image = fits; none = drill-counts first count made; input = input }

        drill-ended : EndedUnread entry exit outcome text product
        drill-ended = elim (eqb_tells made.did.served.status 0) [
          | inl none ↦
              let sums = made.did.sums_up none.1 in
              ended-by sums.result sums.outcome_is (fits-done made.did.session.ending made.did.session.is none.1 fits)
          | inr other ↦
              let same : outcome ≡ made.did.served = (made.did.otherwise other.1).1 in
              record {
                ending = made.did.session.ending;
                is = subst (λ (o : Outcome). o ≡ outcome_of made.did.session.ending o.messages) (sym same) made.did.session.is;
                image = fits;
                none = drill-counts first count made;
                input = input;
              }
        ]

      checkpoint-ended : exit.streams.input ≡ entry.streams.input → CheckpointResult m product lent old new outcome → EndedUnread entry exit outcome text product
      checkpoint-ended input did = record {
        ending = did.ending;
        is = did.is;
        image = subst (λ (l : List ℕ). IfSome entry.streams.station.image (λ image. AnswersImage product l image did.ending)) same did.image;
        none = checkpoint-none did;
        input = input;
      }

      -- what was taken of the input: nothing, if the journal was not read to its end
      takes-input : AnswersSession m product lent entry.streams exit.streams outcome → TakesInput entry.streams exit.streams
      takes-input (inl stopped) = record { taken = []; took = and_left-none i.left ∙ ap (λ (l : Option (List ℕ)). and_left [] l) (sym (ap (λ (x : SourceAt I). x.left) stopped.input)) }
      takes-input (inr did) = record { taken = did.answers.serving.taken; took = did.answers.serving.took }

      -- why `opening` ended
      opened-as-text : ShowsOpenings product lent entry.streams exit.streams outcome → RunEnded entry exit outcome text product
      opened-as-text shows = opening-ended entry exit outcome text product (subst (λ (l : List ℕ). ShowsOpenings product l entry.streams exit.streams outcome) same shows)

      ended : (x : Command) → Did x → outcome.status ≢ 1 → CommandEnded entry exit outcome text product x
      ended Run did told = ran-ended did
      ended (Drill first count) drilled told = drill-ended first count drilled.1 drilled.0
      ended Checkpoint did told = checkpoint-ended did.1 did.0
      ended Amend did told = did.1
      ended Session did told = takes-input did.form
      ended Opening did told = opened-as-text did.form
      ended Replay printed told = printed.input
      ended Book printed told = printed.input
      ended Fills printed told = printed.input
      ended Ledger printed told = printed.input
      ended Levels printed told = printed.input
      ended Rebuild did told = rebuilt-takes entry.streams exit.streams product outcome did.form
      ended Steps printed told = printed.input

      pub told-ended : outcome.status ≢ 1 → CommandResult entry exit outcome c
      told-ended told = inr (inr (record { text = text; taken = took; product = product; gives = gives; product_right = causes.product_right; ended = ended c (did-as c asks) told }))

      -- ---- what is refused

      abbrev AnswersText : List ℕ → Ending → Type 0
      AnswersText image ending = AnswersImage product text image ending

      at-image : (image : List ℕ) → entry.streams.station.image ≡ Some image → (ending : Ending) → IfSome entry.streams.station.image (λ image. AnswersText image ending) → AnswersText image ending
      at-image image known ending told = subst (λ (o : Option (List ℕ)). IfSome o (λ image. AnswersText image ending)) known told

      module _ (image : List ℕ) (known : entry.streams.station.image ≡ Some image) where
        abbrev Exactly : Command → Type 0
        Exactly x = RefusesExactly x product text image outcome

        -- by what was printed of the book, or of the events
        formed : (x : Command) → Did x → PrintsAs m product text entry.streams.station exit.streams.station outcome x
        formed x did = subst (λ (l : List ℕ). PrintsAs m product l entry.streams.station exit.streams.station outcome x) same (form-of x did)

        by-session : AnswersSession m product text entry.streams exit.streams outcome → outcome.status ≢ 1 → Exactly Session
        by-session (inl stopped) told =
            by-unread Session product text image (λ head. one_bad_for_each head product.journal_limit image) outcome (λ head at bad. bad) (λ head at bad. bad) stopped.why stopped.is told (stopped.fits image known)
        by-session (inr did) told =
            by-answers Session product text image (λ head. one_bad_for_each head product.journal_limit image) outcome (λ head at bad. bad) (λ head at bad. bad) m entry.streams exit.streams did known

        refuses-by : (x : Command) → OpensByText x → Did x → outcome.status ≢ 1 → Exactly x
        refuses-by Run opens did told =
            let ended = ran-ended did in
            by-ending Run product text image (λ head. one_place product head product.journal_limit image) outcome (λ head at bad. bad) (λ head at bad. bad)
            ended.ending ended.is (none-counted _ _ outcome ended.ending ended.serving.taken ended.is ended.serving.ends) (at-image image known ended.ending ended.image)
        refuses-by (Drill first count) opens drilled told =
            let ended = drill-ended first count drilled.1 drilled.0 in
            by-ending (Drill first count) product text image (λ head. one_place product head product.journal_limit image) outcome (λ head at bad. bad) (λ head at bad. bad)
            ended.ending ended.is ended.none (at-image image known ended.ending ended.image)
        refuses-by Checkpoint opens did told =
            let ended = checkpoint-ended did.1 did.0 in
            by-ending Checkpoint product text image (λ head. one_place product head product.journal_limit image) outcome (λ head at bad. bad) (λ head at bad. bad)
            ended.ending ended.is ended.none (at-image image known ended.ending ended.image)
        refuses-by Book opens did told =
            let form = formed Book did in
            by-book Book product text image (λ head. one_place product head product.journal_limit image) outcome (λ head at bad. bad) (λ head at bad. bad) m old new form.answer form.outcome_is (form.prints image known).prints
        refuses-by Replay opens did told =
            let form = formed Replay did in
            by-events Replay product text image (λ head. one_bad_for_each head product.journal_limit image) outcome (λ head at bad. bad) (λ head at bad. bad) tt m old new _ _ form.answer form.outcome_is told (form.prints image known)
        refuses-by Fills opens did told =
            let form = formed Fills did in
            by-events Fills product text image (λ head. one_bad_for_each head product.journal_limit image) outcome (λ head at bad. bad) (λ head at bad. bad) tt m old new _ _ form.answer form.outcome_is told (form.prints image known)
        refuses-by Ledger opens did told =
            let form = formed Ledger did in
            by-events Ledger product text image (λ head. one_bad_for_each head product.journal_limit image) outcome (λ head at bad. bad) (λ head at bad. bad) tt m old new _ _ form.answer form.outcome_is told (form.prints image known)
        refuses-by Levels opens did told =
            let form = formed Levels did in
            by-events Levels product text image (λ head. one_bad_for_each head product.journal_limit image) outcome (λ head at bad. bad) (λ head at bad. bad) tt m old new _ _ form.answer form.outcome_is told (form.prints image known)
        refuses-by Session opens did told = by-session (subst (λ (l : List ℕ). AnswersSession m product l entry.streams exit.streams outcome) same did.form) told
        refuses-by Opening opens did told =
            let ended = opened-as-text did.form in
            by-ending Opening product text image (λ head. one_place product head product.journal_limit image) outcome (λ head at bad. bad) (λ head at bad. bad)
            ended.ending ended.is (none-counted _ _ outcome ended.ending ended.serving.taken ended.is ended.serving.ends) (at-image image known ended.ending ended.image)
        refuses-by Steps opens did told = absurd opens
        refuses-by Rebuild opens did told = absurd opens
        refuses-by Amend opens did told = absurd opens

        refuses-told : OpensByText c → outcome.status ≢ 1 → (told : List ℕ) (lists : ProductLists) → p.left ≡ Some told → product_of told ≡ Ok lists → RefusesExactly c lists told image outcome
        refuses-told opens ended told lists known' are =
            told-product p q text text refl product took gives (λ (l : ProductLists) (bytes : List ℕ). RefusesExactly c l bytes image outcome) told lists known' are (refuses-by c opens (did-as c asks) ended)

      -- the journal is refused exactly where its image is such
      pub refuses : OpensByText c → (given : ProductPremises entry exit outcome.status) → (image : List ℕ) → entry.streams.station.image ≡ Some image → RefusesExactly c given.product given.text image outcome
      refuses opens given image known = refuses-told image known opens given.memory given.text given.product given.text_known given.gives

      -- it is not where a run can start
      module _ (can : CanStart entry c) (refusal : IsRefusal outcome.status) where
        not-started : OpensByText c → c ≢ Steps → ⊥
        not-started opens other =
            let at = can.startable other in
            let exactly = refuses-told at.0 at.1.0 opens (λ one. not-refusal outcome.status 1 one (λ e. cc e) (λ e. cc e) (λ e. cc e) refusal) can.text can.product can.text_known can.gives in
            not-refused-by can.product can.text at.0 at.1.1.0 can.gives at.1.1.1 c outcome.status outcome.at (exactly.answered refusal).0

        sent-not-refused : (result : Result (Unit {0}) SendFailed) → outcome ≡ outcome_sent 0 result → ⊥
        sent-not-refused (Ok t) is = not-refusal outcome.status 0 (ap (λ (o : Outcome). o.status) is) (λ e. cc e) (λ e. cc e) (λ e. cc e) refusal
        sent-not-refused (Err fault) is = not-refusal outcome.status 6 (ap (λ (o : Outcome). o.status) is) (λ e. cc e) (λ e. cc e) (λ e. cc e) refusal

        amend-not-refused : c ≡ Amend → c ≢ Steps → ⊥
        amend-not-refused is other =
            let at = can.startable other in
            amend-opens can.product can.text at.0 can.gives at.1.1.0 at.1.1.1 m old new outcome (amended-as (asks ∙ ap (λ (x : Command). Some x) is) can.text can.product can.text_known can.gives) at.1.0 refusal

        started-by : (x : Command) → c ≡ x → Did x → ⊥
        started-by Run is did = not-started (subst OpensByText (sym is) tt) (λ e. cc (e, is))
        started-by (Drill first count) is did = not-started (subst OpensByText (sym is) tt) (λ e. cc (e, is))
        started-by Checkpoint is did = not-started (subst OpensByText (sym is) tt) (λ e. cc (e, is))
        started-by Amend is did = amend-not-refused is (λ e. cc (e, is))
        started-by Book is did = not-started (subst OpensByText (sym is) tt) (λ e. cc (e, is))
        started-by Replay is did = not-started (subst OpensByText (sym is) tt) (λ e. cc (e, is))
        started-by Fills is did = not-started (subst OpensByText (sym is) tt) (λ e. cc (e, is))
        started-by Ledger is did = not-started (subst OpensByText (sym is) tt) (λ e. cc (e, is))
        started-by Levels is did = not-started (subst OpensByText (sym is) tt) (λ e. cc (e, is))
        started-by Session is did = not-started (subst OpensByText (sym is) tt) (λ e. cc (e, is))
        started-by Opening is did = not-started (subst OpensByText (sym is) tt) (λ e. cc (e, is))
        started-by Steps is did = sent-not-refused did.form.result did.form.outcome_is
        started-by Rebuild is did = rebuilt-not-refused entry.streams exit.streams product outcome did.form refusal

        pub opens-again : ⊥
        opens-again = started-by c refl (did-as c asks)

      -- ---- each command has its statuses

      -- 7 and 8 come of a command that reads the input
      no-frames : (x : Command) → Causes x → (ReadsInput x → ⊥) → {Others : Type 0} → (Others → ⊥) → (outcome.status ≡ 7) ⊎ ((outcome.status ≡ 8) ⊎ Others) → ⊥
      no-frames x why other none never = ⊎_elim (λ seven. other (why.frames (inl seven))) (λ more. ⊎_elim (λ eight. other (why.frames (inr eight))) none more) never

      printing-status : (x : Command) → Causes x → (answer : Result ℕ Unprinted) → outcome ≡ outcome_printed answer → (ReadsInput x → ⊥) → NeverEndsWith Replay outcome.status → ⊥
      printing-status x why answer is other never =
          let low = printed-low outcome answer is in
          no-frames x why other (λ high. omega (arith, high, low)) never

      answers-low : AnswersSession m product lent entry.streams exit.streams outcome → 13 ≤ outcome.status → ⊥
      answers-low (inl stopped) never = let low = printed-low outcome (unprinted-answer stopped.why) stopped.is in omega (arith, never, low)
      answers-low (inr did) never = let low = ending-low outcome did.ending outcome.messages did.is in omega (arith, never, low)

      ending-by : (x : Command) → Did x → Causes x → NeverEndsWith x outcome.status → ⊥
      ending-by Run did why never = omega (arith, never, ending-low outcome did.session.ending outcome.messages did.session.is)
      ending-by (Drill first count) did why never =
          let low = drill-low m product lent i old new outcome first count did.0 in
          no-frames (Drill first count) why (λ reads. reads) (λ e. omega (arith, e, low)) never
      ending-by Checkpoint did why never = ⊎_elim
          (λ six. checkpoint-not-sent outcome did.0.ending did.0.possible did.0.is six)
          (λ frames. let low = ending-low outcome did.0.ending outcome.messages did.0.is in no-frames Checkpoint why (λ reads. reads) (λ e. omega (arith, e, low)) frames)
          never
      ending-by Amend did why never = amend-statuses m product lent i old new outcome did.0 never
      ending-by Session did why never = answers-low did.form never
      ending-by Opening did why never = omega (arith, never, ending-low outcome did.form.ending outcome.messages did.form.is)
      ending-by Replay did why never = printing-status Replay why did.form.answer did.form.outcome_is (λ reads. reads) never
      ending-by Book did why never = printing-status Book why did.form.answer did.form.outcome_is (λ reads. reads) never
      ending-by Fills did why never = printing-status Fills why did.form.answer did.form.outcome_is (λ reads. reads) never
      ending-by Ledger did why never = printing-status Ledger why did.form.answer did.form.outcome_is (λ reads. reads) never
      ending-by Levels did why never = printing-status Levels why did.form.answer did.form.outcome_is (λ reads. reads) never
      ending-by Rebuild did why never = rebuilt-statuses entry.streams exit.streams product outcome did.form never
      ending-by Steps did why never = sent-status outcome did.form.result did.form.outcome_is never

      pub never-ends : NeverEndsWith c outcome.status → ⊥
      never-ends never = ending-by c (did-as c asks) (causes-as c asks) never

  -- ---- the same, of every command: what it did is known where there was memory

  module _ (asked : Option Command) (command : Command) (is : asked ≡ Some command) (did : outcome.status ≢ 1 → Did command) (causes : Causes command) where
    abbrev pub the-call : Call P I S
    the-call = record { station = m; asked = asked; before = entry; after = exit; outcome = outcome }

    -- want of memory leaves all but the product's source as it was, or what was read of a journal whose products it takes
    pub leaves-all : LeavesAllAtNoMemory the-call
    leaves-all one = (
      few-of-product p q text product took gives,
      ⊎_elim
          (λ untouched. inl untouched)
          (λ stopped. inr (command, is, stopped.0, stopped.1.input, stopped.1.reads, λ told lists known are image held. told-product p q text lent same product took gives (λ (l : ProductLists) (bytes : List ℕ). HasKeptProducts command l bytes image) told lists known are (stopped.1.has image held)))
          (causes.memory one).0,
    )

    pub does-all : DoesAll the-call
    does-all c asks writing = by-writing (λ x. asked ≡ Some x → (given : GivenFor the-call x) (read : Reads the-call x) → outcome.status ≡ 0 → DoneBy the-call x given read)
        (λ asks given read none. exactly asked command is (did given.memory) causes asks given read none)
        (λ first count asks given read none. sums-up asked command is (did given.memory) causes first count asks given none)
        (λ asks given read none. record { adds = adds-image asked command is (did given.memory) causes asks given none; keeps = keeps-the-same asked command is (did given.memory) causes asks given })
        (λ asks given read none. amend-does m p q i j old new outcome given (amended-from asked command is (did given.memory) causes asks given) none)
        c writing asks

    pub ends-as-told : EndsAsTold the-call
    ends-as-told c asks writing = by-writing (λ x. asked ≡ Some x → (given : GivenFor the-call x) (read : Reads the-call x) → outcome.status ≢ 0 → EndedBy the-call x given read)
        (λ asks given read other. otherwise asked command is (did given.memory) causes asks given read)
        (λ first count asks given read other. drill-ends asked command is (did given.memory) causes first count asks given other)
        (λ asks given read other. keeps-the-same asked command is (did given.memory) causes asks given)
        (λ asks given read other. amend-ends m p q i j old new outcome given (amended-from asked command is (did given.memory) causes asks given) other)
        c writing asks

    pub leaves-a-front : LeavesAFront the-call
    leaves-a-front c asks writing = by-writing (λ x. asked ≡ Some x → (given : GivenFor the-call x) (read : Reads the-call x) → LeavesFronts the-call (work_of the-call x given read))
        (λ asks given read. fronts-of the-call given (messages_of read.taken) (λ messages. new_reports given.kept messages) (every-moment asked command is (did given.memory) causes asks given read))
        (λ first count asks given read. fronts-of the-call given (made_messages given.product first count) (λ messages. summary_of_all given.product given.kept (made_messages given.product first count) messages) (drill-every-moment asked command is (did given.memory) causes first count asks given))
        (λ asks given read. fronts-of the-call given [] sends_nothing (checkpoint-every-moment asked command is (did given.memory) causes asks given))
        (λ asks given read. amend-every-moment m p q i j old new outcome given.start (amended-from asked command is (did given.memory) causes asks given) asked)
        c writing asks

    pub leaves-the-entry : (m.is_honest old → IsHonestNow m old) → LeavesTheEntry the-call
    leaves-the-entry now c asks writing = by-writing (λ x. asked ≡ Some x → (given : GivenFor the-call x) (read : Reads the-call x) → LeavesEntryOrFronts the-call (work_of the-call x given read))
        (λ asks given read. entry-or-fronts the-call given (messages_of read.taken) (λ messages. new_reports given.kept messages) (first-sync asked command is (did given.memory) causes asks given read (now given.honest)))
        (λ first count asks given read. entry-or-fronts the-call given (made_messages given.product first count) (λ messages. summary_of_all given.product given.kept (made_messages given.product first count) messages) (drill-before-sync asked command is (did given.memory) causes first count asks given (now given.honest)))
        (λ asks given read. entry-or-fronts the-call given [] sends_nothing (checkpoint-before-sync asked command is (did given.memory) causes asks given (now given.honest)))
        (λ asks given read. amend-first-sync m p q i j old new outcome given.start (amended-from asked command is (did given.memory) causes asks given) asked (now given.start.honest))
        c writing asks

    -- more is sent of more messages
    sends-grow : (c : Command) (given : GivenFor the-call c) (read : Reads the-call c) (a b : ℕ) → a ≤ b → length ((work_of the-call c given read).sends a) ≤ length ((work_of the-call c given read).sends b)
    sends-grow Run given read a b le = fewer-reports given.kept (messages_of read.taken) a b le
    sends-grow (Drill first count) given read a b le = let made = made_messages given.product first count in all-grows (summary given.product given.kept made) made a b le
    sends-grow Checkpoint given read a b le = omega arith
    sends-grow Amend given read a b le = omega arith
    sends-grow Replay given read a b le = omega arith
    sends-grow Book given read a b le = omega arith
    sends-grow Fills given read a b le = omega arith
    sends-grow Ledger given read a b le = omega arith
    sends-grow Steps given read a b le = omega arith
    sends-grow Session given read a b le = omega arith
    sends-grow Opening given read a b le = omega arith
    sends-grow Levels given read a b le = omega arith
    sends-grow Rebuild given read a b le = omega arith

    pub keeps-what-is-sent : (m.is_honest old → IsHonestNow m old) → KeepsWhatIsSent the-call
    keeps-what-is-sent now c asks writing given read = every-sent the-call (work_of the-call c given read) (sends-grow c given read) (leaves-the-entry now c asks writing given read)

    pub reads-it-once : ReadsItOnce the-call
    reads-it-once c asks goes = by-going-on (λ x. asked ≡ Some x → (given : Premises m entry exit outcome.status) → ReadsFew m entry exit outcome given)
        (λ asks given. few-read asked command is (did given.memory) causes asks given)
        (λ first count asks given. drill-few-read asked command is (did given.memory) causes first count asks given)
        (λ asks given. checkpoint-few-read asked command is (did given.memory) causes asks given)
        c goes asks

    pub adds-messages-alone : AddsMessagesAlone the-call
    adds-messages-alone c asks serves = by-serving (λ x. asked ≡ Some x → (given : Premises m entry exit outcome.status) → AddsMessages m entry exit outcome given)
        (λ asks given. (each-read asked command is (did given.memory) causes asks given).adds)
        (λ first count asks given. drill-adds-messages asked command is (did given.memory) causes first count asks given)
        the-call c serves asks

    pub adds-a-record-per-read : AddsARecordPerRead the-call
    adds-a-record-per-read asks given = each-read asked command is (did given.memory) causes asks given

    pub sends-nothing-then : SendsNothing the-call
    sends-nothing-then c asks serves = by-memory outcome.status
        (λ one. (sends-none command causes one, λ other. (causes.memory one).1))
        (λ there. by-serving-none the-call (λ x. asked ≡ Some x → (m.sent new ≡ m.sent old) × (outcome.status ≢ 0 → outcome.messages ≡ 0))
        (λ asks. ((checkpoint-sends-nothing asked command is (did there) causes asks).0, λ other. checkpoint-counts asked command is (did there) causes asks other))
        (λ asks. (amend-sends-nothing asked command is (did there) causes asks, λ other. amend-counts-none asked command is (did there) causes asks other))
        c serves asks)

    pub is-full-for-image : IsFullForImage the-call
    is-full-for-image asks given twelve = image-full asked command is (did given.memory) causes asks given twelve

    pub is-full-for-amendment : IsFullForAmendment the-call
    is-full-for-amendment asks given twelve = amend-full m p q i j old new outcome given (amended-from asked command is (did given.memory) causes asks given) twelve

    pub is-full-for-messages : IsFullForMessages the-call
    is-full-for-messages c asks serves given = by-serving
        (λ x. asked ≡ Some x → (read : Reads the-call x) → m.is_honest old → (image : List ℕ) (head : Header) (records : List Record) → m.holds old ≡ Some image → HasLastText head records given.text → Keeps head given.product.journal_limit records image → outcome.status ≡ 12
        → IsFullJournal given.product given.text head image records exit.streams.station outcome (bytes_for the-call given x read))
        (λ asks read honest image head records known text_is keeps twelve. full asked command is (did given.memory) causes asks given read honest image head records known text_is keeps twelve)
        (λ first count asks read honest image head records known text_is keeps twelve. drill-has-no-room asked command is (did given.memory) causes first count asks given honest image head records known text_is keeps twelve)
        the-call c serves asks

    pub ends-well : EndsWellWhereItCan the-call
    ends-well Run asks can quiet = unless-memory outcome.status (λ there. all-served asked command is (did there) causes asks can quiet)
    ends-well (Drill first count) asks can quiet = unless-memory outcome.status (λ there. all-drilled asked command is (did there) causes first count asks can quiet)
    ends-well Checkpoint asks can quiet = unless-memory outcome.status (λ there. all-checkpointed asked command is (did there) causes asks can quiet)
    ends-well Amend asks can quiet = by-memory outcome.status (λ one. inl one) (λ there. all-amended asked command is (did there) causes asks can quiet)
    ends-well Session asks can quiet = unless-memory outcome.status (λ there. all-answered asked command is (did there) causes asks can quiet there)
    ends-well Opening asks can quiet = unless-memory outcome.status (λ there. all-collected asked command is (did there) causes asks can quiet)
    ends-well Replay asks can quiet = unless-memory outcome.status (λ there. all-printed asked command is (did there) causes Replay asks can quiet tt there)
    ends-well Book asks can quiet = unless-memory outcome.status (λ there. all-printed asked command is (did there) causes Book asks can quiet tt there)
    ends-well Fills asks can quiet = unless-memory outcome.status (λ there. all-printed asked command is (did there) causes Fills asks can quiet tt there)
    ends-well Ledger asks can quiet = unless-memory outcome.status (λ there. all-printed asked command is (did there) causes Ledger asks can quiet tt there)
    ends-well Levels asks can quiet = unless-memory outcome.status (λ there. all-printed asked command is (did there) causes Levels asks can quiet tt there)
    ends-well Rebuild asks can quiet = unless-memory outcome.status (λ there. all-rebuilt asked command is (did there) causes asks can quiet)
    ends-well Steps asks can quiet = unless-memory outcome.status (λ there. all-printed asked command is (did there) causes Steps asks can quiet tt there)

    pub prints-its-text : PrintsItsText the-call
    prints-its-text c asks given = prints asked command is (did given.memory) causes c asks given

    pub answers-its-input : AnswersItsInput the-call
    answers-its-input asks given = answered-as asked command is (did given.memory) causes asks given.text given.product given.text_known given.gives

    pub shows-its-openings : ShowsItsOpenings the-call
    shows-its-openings asks given = shown-as asked command is (did given.memory) causes asks given.text given.product given.text_known given.gives

    pub rebuilds-its-levels : RebuildsItsLevels the-call
    rebuilds-its-levels asks given = rebuilt-as asked command is (did given.memory) causes asks given.text given.product given.text_known given.gives

    pub ends-where-told : EndsWhereTold the-call
    ends-where-told c asks told = told-ended asked command is (did told) causes c asks told

    pub refuses-what-it-must : RefusesWhatItMust the-call
    refuses-what-it-must c asks opens given image known = refuses asked command is (did given.memory) causes c asks opens given image known

    pub refuses-amendments : RefusesAmendments the-call
    refuses-amendments asks given image known =
        amend-refuses m given.product given.text old new outcome (amended-as asked command is (did given.memory) causes asks given.text given.product given.text_known given.gives) given.memory image known

    pub opens-it-again : OpensAgain the-call
    opens-it-again c asks can refusal = opens-again asked command is (did (λ one. not-refusal outcome.status 1 one (λ e. cc e) (λ e. cc e) (λ e. cc e) refusal)) causes c asks can refusal

    pub has-its-statuses : HasItsStatuses the-call
    has-its-statuses c asks never = never-ends asked command is (did (never-lacks c outcome.status never)) causes c asks never

    -- ---- what holds of a command, whether or not there was memory

    pub only-reads : (c : Command) → asked ≡ Some c → OnlyReads c → ReadsAndSends m old new
    only-reads c asks reads = by-memory outcome.status
        (λ one. reads-none command causes one)
        (λ there. reads-only asked command is (did there) causes c asks reads)

    pub leaves-the-input : (c : Command) → asked ≡ Some c → (ReadsInput c → ⊥) → j.object ≡ i.object
    leaves-the-input c asks other = by-memory outcome.status
        (λ one. input-left command causes one)
        (λ there. input-untouched asked command is (did there) causes c asks other)
