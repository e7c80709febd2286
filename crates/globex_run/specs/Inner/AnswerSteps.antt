-- What the steps of answering do: a text is sent, a range of report lines is sent again, and all frames at hand are answered.
use Rattle.std.specs.Prelude.{◌≡◌, ℕ, ◌<◌, List, [], Option, Some, None, IfSome, Result, Ok, Err, OnOk, OnErr}
use Rattle.gx_base.specs.KnownBytes.{IsKnownPrefix}
use Rattle.gx_station.specs.Counts.{Rose}
use Rattle.gx_station.specs.Stations.{StationMeanings, sent_and}
use Rattle.product_file.specs.Products.{ProductLists}
use Rattle.fix_session.specs.SessionOut.{first_sessions}
use Rattle.fix_session.specs.declared.sessions.FirmSession.{FirmSession}
use Rattle.order_kinds.specs.Cores.{FitsProduct}
use Rattle.order_kinds.specs.State.{empty_state}
use Rattle.order_kinds.specs.Histories.{History, of_product, state_kept}
use Rattle.order_kinds.specs.declared.core_state.TheConstants.{MOST_MESSAGES}
use Rattle.book_recovery.specs.Kept.{HasKept}
use Rattle.book_recovery.specs.Recovering.{HasRoomFor}
use Rattle.journal_print.specs.KeptJournals.{CanBeReadAgain, IsKeptOf}
use Rattle.journal_print.specs.NoteWorks.{sessions_noted}
use Rattle.journal_print.specs.Reading.{ReadsAndSends}
use Rattle.journal_print.specs.declared.kept.KeptJournal.{KeptJournal}
use Rattle.journal_print.specs.declared.reader.Reader.{Reader}
use Rattle.journal_print.specs.declared.unprinted.Unprinted.{Unprinted}
use Rattle.journal_print.specs.declared.unprinted.Unprinted.TheVariants as unprinted
use Rattle.globex_run.specs.Outside.{SourceAt, station_at}
use Rattle.globex_run.specs.RunResult.{ServingResult}
use Rattle.globex_run.specs.Answering.{AnswersBy}
use Rattle.globex_run.specs.Inner.Serving.{CausedBy}
use Rattle.globex_run.specs.declared.resender.Resender.{Resender}
use Rattle.globex_run.specs.declared.resender.Unanswered.{Unanswered}
use Rattle.globex_run.specs.declared.resender.Unanswered.TheVariants as unanswered
use Rattle.globex_run.specs.declared.ending.Ending.{Ending}

-- why an answer was not sent, where lines were not sent again for this reason; no other comes where the journal is as it was
abbrev pub unanswered_by : Unprinted → Option Unanswered
unanswered_by unprinted.Store = Some unanswered.Store
unanswered_by unprinted.Send = Some unanswered.Send
unanswered_by unprinted.NoMemory = None
unanswered_by (unprinted.NotAJournal at) = None
unanswered_by (unprinted.Bad at) = None
unanswered_by (unprinted.ProductDiffers at) = None

module _ {S : Type 0} (m : StationMeanings S) where
  -- ---- the journal whose lines are sent again

  -- its records can be gone through by the reader
  pub record CanGoThrough {B : Type 0} (reader : Reader B) (station : S) (kept : KeptJournal) : Type 0 where
    pub again : CanBeReadAgain m kept.products.last.now kept station
    pub core : FitsProduct kept.products.last.now reader.core
    pub spare : reader.spare ≡ empty_state kept.products.last.now
    pub room : HasRoomFor kept.products.last.now reader.scratch

  -- if there is one
  abbrev pub CanResend : {B : Type 0} → Resender B → S → Type 0
  CanResend resender station = IfSome resender.kept (CanGoThrough resender.reader station)

  -- it is that of the image, which keeps this history
  pub record IsJournalOf (station : S) (history : History) (kept : KeptJournal) : Type 0 where
    pub text : List ℕ
    pub image : List ℕ
    pub holds : m.holds station ≡ Some image
    pub of_image : IsKeptOf image kept
    pub has : HasKept kept.products.last.now text history image

  -- This is the history kept: that of the journal, or that of an unfinished creation, which has no message.
  abbrev pub ShowsHistory : Option KeptJournal → S → History → Type 0
  ShowsHistory None station history = (product : ProductLists) × (history ≡ of_product product [])
  ShowsHistory (Some kept) station history = IsJournalOf station history kept

  -- ---- what a step does

  -- which count of faults rose
  abbrev pub FaultsBy : S → S → Result (Unit {0}) Unanswered → Type 0
  FaultsBy old new (Ok t) = (m.store_faults new ≡ m.store_faults old) × (m.send_faults new ≡ m.send_faults old)
  FaultsBy old new (Err unanswered.Store) = Rose (m.store_faults old) (m.store_faults new) × (m.send_faults new ≡ m.send_faults old)
  FaultsBy old new (Err unanswered.Send) = (m.store_faults new ≡ m.store_faults old) × Rose (m.send_faults old) (m.send_faults new)

  -- Bytes were sent or wait after what was sent and what waited; after an error what was sent is a part of these.
  pub record Pushes {T F : Type 0} (old new : S) (waits waits_new bytes : List ℕ) (result : Result T F) : Type 0 where
    pub all : OnOk result (sent_and (m.sent new) waits_new ≡ sent_and (sent_and (m.sent old) waits) bytes)
    pub part : OnErr result (IsKnownPrefix (m.sent new) (sent_and (sent_and (m.sent old) waits) bytes))

  module _ {B : Type 0} (resender resender_new : Resender B) (old new : S) (bytes : History → List ℕ) (result : Result (Unit {0}) Unanswered) where
    -- The station was only read, and sent to. Over the history kept these bytes were sent or wait, or a part of them was sent. The
    -- journal can be gone through again, and is that of the same history still.
    pub record Steps : Type 0 where
      pub reads : ReadsAndSends m old new
      pub faults : FaultsBy old new result
      pub can : OnOk result (CanResend resender_new new)
      pub shows : OnOk result ((history : History) → ShowsHistory resender.kept old history → ShowsHistory resender_new.kept new history)
      pub sends : (history : History) → ShowsHistory resender.kept old history
          → Pushes old new resender.reader.reports resender_new.reader.reports (bytes history) result

    -- The same, from nothing that waits to nothing.
    pub record Turns : Type 0 where
      pub reads : ReadsAndSends m old new
      pub faults : FaultsBy old new result
      pub can : OnOk result (CanResend resender_new new)
      pub shows : OnOk result ((history : History) → ShowsHistory resender.kept old history → ShowsHistory resender_new.kept new history)
      pub all : (history : History) → ShowsHistory resender.kept old history → OnOk result (m.sent new ≡ sent_and (m.sent old) (bytes history))
      pub part : (history : History) → ShowsHistory resender.kept old history → OnErr result (IsKnownPrefix (m.sent new) (sent_and (m.sent old) (bytes history)))
      pub empty : OnOk result (resender_new.reader.reports ≡ [])

-- ---- all turns

-- The messages of the input were answered until an ending, from these sessions on, where so many report lines went to each addressee.
pub record AnswersAll {I S : Type 0} (m : StationMeanings S) (product : ProductLists) (lines : List ℕ) (sessions : List FirmSession) (kept : Option KeptJournal) (before after : SourceAt I) (old new : S) (ending : Ending) (count : ℕ) : Type 0 where
  pub serving : ServingResult {I = I} {S = S} (record { input = before; station = station_at m old }) (record { input = after; station = station_at m new }) ending count
  pub few : count < MOST_MESSAGES
  pub reads : ReadsAndSends m old new
  pub cause : CausedBy {I = I} {S = S} ending (record { input = before; station = station_at m old }) (record { input = after; station = station_at m new })
  pub answers : (history : History) → ShowsHistory m kept old history → lines ≡ (state_kept history).desk.lines → sessions ≡ sessions_noted first_sessions history
      → AnswersBy m product history old new ending count serving.taken
