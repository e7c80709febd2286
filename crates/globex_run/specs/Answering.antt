-- What `session` sends: the answers to the messages of its input, over the history that the journal keeps.
use Rattle.std.specs.Prelude.{◌≡◌, ◌⊎◌, ℕ, ◌+◌, ◌<◌, ◌≤◌, List, length, Some, Err}
use Rattle.gx_base.specs.KnownBytes.{IsKnownPrefix}
use Rattle.gx_station.specs.Stations.{StationMeanings, sent_and}
use Rattle.fix_frame.specs.Stream.{messages_of}
use Rattle.product_file.specs.Products.{ProductLists}
use Rattle.fix_session.specs.SessionOut.{session_out, first_sessions}
use Rattle.fix_session.specs.declared.again.ReportRange.{ReportRange}
use Rattle.order_kinds.specs.Histories.{History, state_kept}
use Rattle.order_kinds.specs.declared.core_state.TheConstants.{MOST_MESSAGES}
use Rattle.match_journal.specs.Classes.{IsForeignAt}
use Rattle.match_journal.specs.Opening.{IsOpenedOf, IsBadAt, HasOtherText}
use Rattle.book_recovery.specs.Kept.{HasKept}
use Rattle.book_recovery.specs.BadPlaces.{HasAmendment, IsBadForEachRecord}
use Rattle.journal_print.specs.NoteWorks.{sessions_noted}
use Rattle.journal_print.specs.Resent.{lines_again_kept}
use Rattle.journal_print.specs.declared.unprinted.Unprinted.{Unprinted}
use Rattle.journal_print.specs.declared.unprinted.Unprinted.TheVariants as unprinted
use Rattle.globex_run.specs.Outside.{Streams}
use Rattle.globex_run.specs.Outcomes.{outcome_of}
use Rattle.globex_run.specs.RunResult.{ServingResult, first_messages}
use Rattle.globex_run.specs.Headline.{IsServed}
use Rattle.globex_run.specs.Prints.{outcome_printed}
use Rattle.globex_run.specs.declared.outcome.Outcome.{Outcome}
use Rattle.globex_run.specs.declared.ending.Ending.{Ending}
use Rattle.globex_run.specs.declared.ending.Ending.TheVariants.{Done, ReadFault, StoreFault, SendFault, BadFrame, Truncated, NotAJournal, JournalBad, ProductDiffers, Full}

-- the report lines of a range again, each with the names of the product of its message
abbrev pub lines_again : History → ReportRange → List ℕ
lines_again kept range = lines_again_kept range kept

-- What these messages are answered, one after the other, where this history is kept: the firms' next numbers are those that the kept
-- messages leave, and so many lines went to each.
abbrev pub answers_to : ProductLists → History → List (List ℕ) → List ℕ
answers_to product kept messages =
    session_out product.names (state_kept kept).desk.lines (lines_again kept) (sessions_noted first_sessions kept) messages

module _ {S : Type 0} (m : StationMeanings S) (product : ProductLists) (kept : History) (old new : S) where
  -- the first messages of the bytes taken were answered, and nothing else was sent
  abbrev pub AnswersFirst : ℕ → List ℕ → Type 0
  AnswersFirst count taken = m.sent new ≡ sent_and (m.sent old) (answers_to product kept (first_messages count taken))

  -- a part of the answers to all messages of the bytes taken was sent
  abbrev pub AnswersPart : List ℕ → Type 0
  AnswersPart taken = IsKnownPrefix (m.sent new) (sent_and (m.sent old) (answers_to product kept (messages_of taken)))

  -- what was sent, by how answering ended: the journal is never refused then
  abbrev pub AnswersBy : Ending → ℕ → List ℕ → Type 0
  AnswersBy Done count taken = AnswersFirst count taken
  AnswersBy (ReadFault place) count taken = AnswersFirst count taken
  AnswersBy StoreFault count taken = AnswersPart taken × (count ≡ 0)
  AnswersBy SendFault count taken = AnswersPart taken
  AnswersBy (BadFrame place) count taken = AnswersFirst count taken
  AnswersBy (Truncated place) count taken = AnswersFirst count taken
  AnswersBy (NotAJournal place) count taken = ⊥
  AnswersBy (JournalBad place) count taken = ⊥
  AnswersBy (ProductDiffers place) count taken = ⊥
  AnswersBy (Full place) count taken = AnswersFirst count taken × (count + 1 ≡ MOST_MESSAGES)

-- What an image is that is not read to its end, by the reason: a record of it is bad to who reads each, or its products take memory.
abbrev pub IsUnreadable : ProductLists → List ℕ → List ℕ → Unprinted → Type 0
IsUnreadable product text image unprinted.Store = Unit {0}
IsUnreadable product text image unprinted.Send = ⊥
IsUnreadable product text image unprinted.NoMemory =
    (opened : IsOpenedOf text product.journal_limit image) × HasAmendment opened.head product.journal_limit image
IsUnreadable product text image (unprinted.NotAJournal at) = IsForeignAt image at
IsUnreadable product text image (unprinted.Bad at) =
    IsBadAt product.journal_limit image at ⊎ ((opened : IsOpenedOf text product.journal_limit image) × IsBadForEachRecord opened.head product.journal_limit image at)
IsUnreadable product text image (unprinted.ProductDiffers at) = HasOtherText text product.journal_limit image at

module _ {I S : Type 0} (m : StationMeanings S) (product : ProductLists) (text : List ℕ) (before after : Streams I S) where
  -- Bytes were taken from the input, in whatever pieces, and their messages answered until an ending, over the history that the image
  -- of entry keeps.
  pub record AnswersInput (ending : Ending) (count : ℕ) : Type 0 where
    pub serving : ServingResult before after ending count
    pub few : count < MOST_MESSAGES
    pub answers : (image : List ℕ) → before.station.image ≡ Some image
        → (kept : History) × (HasKept product text kept image × AnswersBy m product kept before.station.object after.station.object ending count serving.taken)

  module _ (outcome : Outcome) where
    -- The messages were answered.
    pub record AnswersMessages : Type 0 where
      pub ending : Ending
      pub is : outcome ≡ outcome_of ending outcome.messages
      pub answers : AnswersInput ending outcome.messages

    -- The journal was not read to its end, for a reason that fits the image of entry. Nothing was sent, and the input is untouched.
    pub record StopsUnread : Type 0 where
      pub why : Unprinted
      pub is : outcome ≡ outcome_printed (Err why)
      pub input : after.input ≡ before.input
      pub sent : after.station.sent ≡ before.station.sent
      pub no_send : why ≡ unprinted.Send → ⊥
      pub fits : (image : List ℕ) → before.station.image ≡ Some image → IsUnreadable product text image why

    abbrev pub AnswersSession : Type 0
    AnswersSession = StopsUnread ⊎ AnswersMessages

-- How answering ends if no fault comes: with the input, by what comes after its messages; or at the first message that is one more than a
-- journal may keep.
abbrev pub IsAnswered : List ℕ → ℕ → Type 0
IsAnswered bytes status =
    ((length (messages_of bytes) < MOST_MESSAGES) × IsServed bytes status) ⊎ ((MOST_MESSAGES ≤ length (messages_of bytes)) × (status ≡ 12))
