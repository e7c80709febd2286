-- What answering comes to, from the entry on: the journal is noted first.
use Rattle.std.proofs.Common.{◌≡◌, inl, inr, true≢false, ℕ, ◌<◌, ◌^◌, List, Option, Some, None, Result, Ok, Err, refl, sym, ap, subst, ◌∙◌, arith}
use Rattle.std.specs.Prelude.{IfSome, IsErrOf, is_err, slice_index}
use Rattle.gx_base.specs.KnownBytes.{IsKnownPrefix}
use Rattle.gx_base.specs.declared.order.Desk.{Desk}
use Rattle.gx_station.specs.Counts.{Rose}
use Rattle.gx_station.specs.Stations.{StationMeanings, sent_and}
use Rattle.match_journal.specs.Causes.{ReadsOnly}
use Rattle.product_file.specs.Products.{ProductLists}
use Rattle.fix_session.specs.declared.sessions.FirmSession.{FirmSession}
use Rattle.fix_session.specs.SessionOut.{first_sessions}
use Rattle.order_kinds.specs.Cores.{AreCounters, FitsProduct}
use Rattle.order_kinds.specs.Histories.{History}
use Rattle.order_kinds.specs.State.{State, empty_state}
use Rattle.order_kinds.specs.declared.core_state.TheConstants.{MOST_MESSAGES}
use Rattle.book_recovery.specs.Kept.{HasKept}
use Rattle.book_recovery.specs.Recovering.{HasRoomFor}
use Rattle.journal_print.specs.KeptJournals.{CanBeReadAgain}
use Rattle.journal_print.specs.Noted.{AllNoted, NotesMessages}
use Rattle.journal_print.specs.NoteWorks.{sessions_noted}
use Rattle.journal_print.specs.ReadingLaws.{reading_then, reading_only}
use Rattle.journal_print.specs.Readers.{IsIdleReader}
use Rattle.journal_print.specs.declared.kept.KeptJournal.{KeptJournal}
use Rattle.journal_print.specs.declared.reader.Reader.{Reader}
use Rattle.journal_print.specs.declared.unprinted.Unprinted.{Unprinted}
use Rattle.journal_print.specs.declared.unprinted.Unprinted.TheVariants as unprinted
use Rattle.globex_run.specs.Outside.{SourceAt, Streams, station_at}
use Rattle.globex_run.specs.Outcomes.{outcome_of}
use Rattle.globex_run.specs.Prints.{outcome_printed}
use Rattle.globex_run.specs.RunResult.{EndsAs}
use Rattle.globex_run.specs.Answering.{AnswersBy, AnswersInput, IsUnreadable}
use Rattle.globex_run.specs.Inner.Answers.{AnswersWithCauses}
use Rattle.globex_run.specs.Inner.AnswerSteps.{CanResend, ShowsHistory, AnswersAll}
use Rattle.globex_run.specs.Inner.Serving.{CausedBy}
use Rattle.globex_run.specs.declared.outcome.Outcome.{Outcome}
use Rattle.globex_run.specs.declared.ending.Ending.{Ending}
use Rattle.globex_run.specs.declared.ending.Ending.TheVariants.{Done, ReadFault, StoreFault, SendFault, BadFrame, Truncated, NotAJournal, JournalBad, ProductDiffers, Full}

-- fewer messages than a journal may keep count no line up to 2 ^ 62
pub counts-below : (desk : Desk) → AreCounters desk → desk.messages < MOST_MESSAGES → (place : ℕ) → slice_index desk.lines place < 2 ^ 62
counts-below desk counters few place = omega (arith, counters.counts.lines place, few)

-- an outcome by an ending tells the count
pub count-of : (ending : Ending) (count : ℕ) → (outcome_of ending count).messages ≡ count
count-of Done count = refl
count-of (ReadFault place) count = refl
count-of StoreFault count = refl
count-of SendFault count = refl
count-of (BadFrame place) count = refl
count-of (Truncated place) count = refl
count-of (NotAJournal place) count = refl
count-of (JournalBad place) count = refl
count-of (ProductDiffers place) count = refl
count-of (Full place) count = refl

-- ---- the journal was noted

module _ {S B : Type 0} (m : StationMeanings S) (product : ProductLists) (reader : Reader B) (station : S) (idle : IsIdleReader product reader) where
  pub can-resend : (kept : Option KeptJournal) → IfSome kept (λ k. CanBeReadAgain m product k station) → CanResend m (record { kept = kept; reader = reader }) station
  can-resend None again = tt
  can-resend (Some k) again =
      let last = sym again.last in
      record {
        again = subst (λ (p : ProductLists). CanBeReadAgain m p k station) last again;
        core = subst (λ (p : ProductLists). FitsProduct p reader.core) last idle.core;
        spare = subst (λ (p : ProductLists). reader.spare ≡ empty_state p) last idle.spare;
        room = subst (λ (p : ProductLists). HasRoomFor p reader.scratch) last idle.room;
      }

module _ {S : Type 0} (m : StationMeanings S) (product : ProductLists) (text image : List ℕ) (sessions noted : List FirmSession) (state : State) (station : S) (holds : m.holds station ≡ Some image) where
  shows-noted : (kept : Option KeptJournal) → IfSome kept (λ k. CanBeReadAgain m product k station) → (all : AllNoted product text image sessions noted state kept) → ShowsHistory m kept station all.kept
  shows-noted None again all = (product, all.none refl)
  shows-noted (Some k) again all = record {
    text = text;
    image = image;
    holds = holds;
    of_image = all.of_image;
    has = subst (λ (p : ProductLists). HasKept p text all.kept image) (sym again.last) all.has;
  }

-- what is Ok is no fault
pub never : {A : Type 0} (a : A) (why : Unprinted) → IsErrOf (Ok a) why → ⊥
never a why e = true≢false (sym (ap is_err e))

-- ---- the journal was not read to its end

abbrev refused : Unprinted → Result (Option KeptJournal) Unprinted
refused why = Err why

abbrev reason : Result (Option KeptJournal) Unprinted → Unprinted
reason (Ok found) = unprinted.Store
reason (Err why) = why

unreadable : (product : ProductLists) (text image : List ℕ) (sessions noted : List FirmSession) (state : State) (why : Unprinted) → NotesMessages product text image sessions noted state (Err why) → IsUnreadable product text image why
unreadable product text image sessions noted state unprinted.Store notes = tt
unreadable product text image sessions noted state unprinted.Send notes = notes
unreadable product text image sessions noted state unprinted.NoMemory notes = notes
unreadable product text image sessions noted state (unprinted.NotAJournal at) notes = notes
unreadable product text image sessions noted state (unprinted.Bad at) notes = notes
unreadable product text image sessions noted state (unprinted.ProductDiffers at) notes = notes

module _ {I S : Type 0} (m : StationMeanings S) (product : ProductLists) (text : List ℕ) (source : SourceAt I) (old mid : S) (only : ReadsOnly m old mid) where
  abbrev before : Streams I S
  before = record { input = source; station = station_at m old }

  pub stops : (outcome : Outcome) (why : Unprinted) (sessions noted : List FirmSession) (state : State) → outcome ≡ outcome_printed (Err why) → (IsErrOf (refused why) unprinted.Send → ⊥)
      → (IsErrOf (refused why) unprinted.Store → Rose (m.store_faults old) (m.store_faults mid)) → ((IsErrOf (refused why) unprinted.Store → ⊥) → m.store_faults mid ≡ m.store_faults old)
      → ((image : List ℕ) → m.holds old ≡ Some image → NotesMessages product text image sessions noted state (Err why))
      → AnswersWithCauses m product text before (record { input = source; station = station_at m mid }) outcome
  stops outcome why sessions noted state is no_send store no_store notes = inl (record {
    stops = record {
      why = why;
      is = is;
      input = refl;
      sent = only.looks.silent.sent;
      no_send = λ e. no_send (ap refused e);
      fits = λ image told. unreadable product text image sessions noted state why (notes image told);
    };
    reads = only;
    store = λ e. store (ap refused e);
    no_store = λ other. no_store (λ e. other (ap reason e));
    send_faults = only.looks.silent.send_faults;
  })

  -- ---- its messages were answered

  module _ (then : SourceAt I) (new : S) (steady : m.store_faults mid ≡ m.store_faults old) where
    abbrev between : Streams I S
    between = record { input = source; station = station_at m mid }

    abbrev after : Streams I S
    after = record { input = then; station = station_at m new }

    ends-from : (ending : Ending) (count : ℕ) (taken : List ℕ) → EndsAs between after ending count taken → EndsAs before after ending count taken
    ends-from Done count taken ends = ends
    ends-from (ReadFault place) count taken ends = ends
    ends-from StoreFault count taken ends = ends
    ends-from SendFault count taken ends = ends
    ends-from (BadFrame place) count taken ends = ends
    ends-from (Truncated place) count taken ends = ends
    ends-from (NotAJournal place) count taken ends = record { none = ends.none; nothing = ends.nothing; input = ends.input }
    ends-from (JournalBad place) count taken ends = record { none = ends.none; nothing = ends.nothing; input = ends.input }
    ends-from (ProductDiffers place) count taken ends = record { none = ends.none; nothing = ends.nothing; input = ends.input }
    ends-from (Full place) count taken ends = ends

    sends : m.send_faults mid ≡ m.send_faults old
    sends = only.looks.silent.send_faults

    cause-from : (ending : Ending) → CausedBy ending between after → CausedBy ending before after
    cause-from Done cause = (cause.0, cause.1 ∙ steady, cause.2 ∙ sends)
    cause-from (ReadFault place) cause = (cause.0, cause.1 ∙ steady, cause.2 ∙ sends)
    cause-from StoreFault cause = (cause.0, subst (λ k. Rose k (m.store_faults new)) steady cause.1, cause.2 ∙ sends)
    cause-from SendFault cause = (cause.0, cause.1 ∙ steady, subst (λ k. Rose k (m.send_faults new)) sends cause.2)
    cause-from (BadFrame place) cause = (cause.0, cause.1 ∙ steady, cause.2 ∙ sends)
    cause-from (Truncated place) cause = (cause.0, cause.1 ∙ steady, cause.2 ∙ sends)
    cause-from (NotAJournal place) cause = (cause.0, cause.1 ∙ steady, cause.2 ∙ sends)
    cause-from (JournalBad place) cause = (cause.0, cause.1 ∙ steady, cause.2 ∙ sends)
    cause-from (ProductDiffers place) cause = (cause.0, cause.1 ∙ steady, cause.2 ∙ sends)
    cause-from (Full place) cause = (cause.0, cause.1 ∙ steady, cause.2 ∙ sends)

    same-sent : (bytes : List ℕ) → sent_and (m.sent mid) bytes ≡ sent_and (m.sent old) bytes
    same-sent bytes = ap (λ s. sent_and s bytes) only.looks.silent.sent

    part-from : (bytes : List ℕ) → IsKnownPrefix (m.sent new) (sent_and (m.sent mid) bytes) → IsKnownPrefix (m.sent new) (sent_and (m.sent old) bytes)
    part-from bytes part = subst (λ s. IsKnownPrefix (m.sent new) s) (same-sent bytes) part

    answers-from : (kept : History) (ending : Ending) (count : ℕ) (taken : List ℕ) → AnswersBy m product kept mid new ending count taken → AnswersBy m product kept old new ending count taken
    answers-from kept Done count taken did = did ∙ same-sent _
    answers-from kept (ReadFault place) count taken did = did ∙ same-sent _
    answers-from kept StoreFault count taken did = (part-from _ did.0, did.1)
    answers-from kept SendFault count taken did = part-from _ did
    answers-from kept (BadFrame place) count taken did = did ∙ same-sent _
    answers-from kept (Truncated place) count taken did = did ∙ same-sent _
    answers-from kept (NotAJournal place) count taken did = did
    answers-from kept (JournalBad place) count taken did = did
    answers-from kept (ProductDiffers place) count taken did = did
    answers-from kept (Full place) count taken did = (did.0 ∙ same-sent _, did.1)

    pub answers : (outcome : Outcome) (ending : Ending) (count : ℕ) (start sessions : List FirmSession) (state : State) (lines : List ℕ) (found : Option KeptJournal) → outcome ≡ outcome_of ending count → start ≡ first_sessions → lines ≡ state.desk.lines
        → IfSome found (λ k. CanBeReadAgain m product k mid) → ((image : List ℕ) → m.holds old ≡ Some image → AllNoted product text image start sessions state found)
        → AnswersAll m product lines sessions found source then mid new ending count
        → AnswersWithCauses m product text before after outcome
    answers outcome ending count start sessions state lines found is start_is lines_are again notes all =
        let count_is : outcome.messages ≡ count = ap (λ (o : Outcome). o.messages) is ∙ count-of ending count in
        let serving = all.serving in
        let input : AnswersInput m product text before after ending count = record {
          serving = record { taken = serving.taken; took = serving.took; some = serving.some; ends = ends-from ending count serving.taken serving.ends };
          few = all.few;
          answers = λ image told.
              let noted = notes image told in
              let shows = shows-noted m product text image start sessions state mid (only.looks.keeps.holds ∙ told) found again noted in (
                noted.kept,
                (
                  noted.has,
                  answers-from noted.kept ending count serving.taken
                      (all.answers noted.kept shows (lines_are ∙ ap (λ (d : Desk). d.lines) noted.desk_is) (noted.noted_is ∙ ap (λ (s : List FirmSession). sessions_noted s noted.kept) start_is)),
                ),
              );
        } in
        inr (record {
          did = record {
            ending = ending;
            is = is ∙ ap (λ n. outcome_of ending n) (sym count_is);
            answers = subst (λ n. AnswersInput m product text before after ending n) (sym count_is) input;
          };
          reads = reading_then m old mid new (reading_only m old mid only) all.reads;
          cause = cause-from ending all.cause;
        })
