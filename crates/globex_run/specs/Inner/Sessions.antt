-- A run of a product that was taken: what opening its journal does, and what it comes to from the image of entry on.
use Rattle.std.specs.Prelude.{◌≡◌, ◌⊎◌, ℕ, ◌+◌, ◌≤◌, max, List, ◌++◌, length, Some, Result, Ok, Err, IfOk, IfSome}
use Rattle.gx_base.specs.KnownBytes.{IsKnownPrefix}
use Rattle.gx_station.specs.Stations.{StationMeanings, sent_and}
use Rattle.gx_station.specs.Honest.{IsSettled}
use Rattle.gx_station.specs.Moments.{AddsOnly}
use Rattle.match_journal.specs.Journal.{Header, Record, journal_front}
use Rattle.match_journal.specs.Classes.{Keeps, IsForeignAt}
use Rattle.match_journal.specs.Opening.{IsOpenedOf, IsBadAt, HasOtherText}
use Rattle.book_recovery.specs.BadPlaces.{IsBadPlace}
use Rattle.match_journal.specs.Texts.{HasLastText}
use Rattle.match_journal.specs.Appending.{IsJournalTo}
use Rattle.match_journal.specs.Causes.{ReadsAtMost}
use Rattle.match_journal.specs.Steps.{HoldsOne}
use Rattle.match_journal.specs.declared.limits.TheConstants.{MOST_UNFINISHED}
use Rattle.match_journal.specs.declared.standing.Standing.{Standing}
use Rattle.order_kinds.specs.Histories.{History, state_kept}
use Rattle.book_recovery.specs.Records.{AreWhole, messages_in, from_last_image, count_behind_all}
use Rattle.book_recovery.specs.Kept.{IsStartable, CanBeRecovered}
use Rattle.book_recovery.specs.Recovering.{IsStateAfter}
use Rattle.product_file.specs.Products.{ProductLists, IsRightProduct}
use Rattle.gx_base.specs.declared.event.Event.{Event}
use Rattle.order_kinds.specs.State.{State}
use Rattle.order_kinds.specs.Step.{state_after, events_from}
use Rattle.exec_report.specs.Forms.{LineText}
use Rattle.globex_run.specs.Outside.{Streams, AreWithinReads}
use Rattle.globex_run.specs.Outcomes.{outcome_of}
use Rattle.globex_run.specs.Journals.{AnswersImage, bytes_in, length_of_records, most_read}
use Rattle.globex_run.specs.RunResult.{ServingResult}
use Rattle.globex_run.specs.Inner.OneHeader.{KeepsUnder, IsOpeningUnder}
use Rattle.globex_run.specs.Inner.Recording.{lines_from, IsRecordCrash, RestsAtEnd}
use Rattle.globex_run.specs.Inner.Serving.{CausedBy, IsDone, HasNoRoomAt, IsLastCounted}
use Rattle.globex_run.specs.declared.outcome.Outcome.{Outcome}
use Rattle.globex_run.specs.declared.ending.Ending.{Ending}
use Rattle.globex_run.specs.declared.ending.Ending.TheVariants as ending
use Rattle.globex_run.specs.declared.open.Unopened.{Unopened}
use Rattle.globex_run.specs.declared.open.Unopened.TheVariants as unopened

-- ---- opening

-- how a run ends whose journal was not opened
abbrev pub ending_without : Unopened → Ending
ending_without unopened.Store = ending.StoreFault
ending_without (unopened.NotAJournal at) = ending.NotAJournal at
ending_without (unopened.Bad at) = ending.JournalBad at
ending_without (unopened.ProductDiffers at) = ending.ProductDiffers at

-- what the image is, by the answer
abbrev pub AnswersOpening : ProductLists → ℕ → List ℕ → List ℕ → Result Standing Unopened → Type 0
AnswersOpening product limit text image (Ok journal) = CanBeRecovered product text limit image
AnswersOpening product limit text image (Err unopened.Store) = Unit {0}
AnswersOpening product limit text image (Err (unopened.NotAJournal at)) = IsForeignAt image at
AnswersOpening product limit text image (Err (unopened.Bad at)) =
    IsBadAt limit image at ⊎ ((opened : IsOpenedOf text limit image) × IsBadPlace product opened.head limit image at)
AnswersOpening product limit text image (Err (unopened.ProductDiffers at)) = HasOtherText text limit image at

-- the image was refused
abbrev pub IsRefusedOpening : {J : Type 0} → Result J Unopened → Type 0
IsRefusedOpening (Ok journal) = ⊥
IsRefusedOpening (Err unopened.Store) = ⊥
IsRefusedOpening (Err (unopened.NotAJournal at)) = Unit {0}
IsRefusedOpening (Err (unopened.Bad at)) = Unit {0}
IsRefusedOpening (Err (unopened.ProductDiffers at)) = Unit {0}

module _ {S : Type 0} (m : StationMeanings S) (limit : ℕ) (head : Header) where
  -- The journal of an honest station, whose image keeps these records, was opened, and the core is in the state after the
  -- history in them; or a call on the store has failed. In either case the image keeps the same records.
  pub record Opens (old new : S) (image : List ℕ) (records : List Record) (kept : History) (state : State) (result : Result Standing Unopened) : Type 0 where
    pub accepted : IsRefusedOpening result → ⊥
    pub moments : AddsOnly m old new (λ left out. IsOpeningUnder head.text limit records image left × (m.sent old ≡ Some out))
    pub keeps : HoldsOne m (IsOpeningUnder head.text limit records image) new
    pub at_end : IfOk result (λ journal. RestsAtEnd m head limit records journal.gate (max (length image) MOST_UNFINISHED) new)
    pub is_state : IfOk result (λ journal. IsStateAfter kept state)
    pub bytes : ReadsAtMost (most_read records) (m.bytes_read old) (m.bytes_read new)

  -- The journal of an image that keeps these records was opened, good or true or not: nothing is pending after them, and those from the
  -- last book image on are counted.
  pub record RestsBehind (new : S) (image : List ℕ) (records : List Record) (state : State) (journal : Standing) : Type 0 where
    pub at_end : RestsAtEnd m head limit records journal.gate (max (length image) MOST_UNFINISHED) new
    pub count : state.desk.messages ≡ count_behind_all 0 (from_last_image records)

-- ---- a session, from its opening on

module _ {I S : Type 0} (m : StationMeanings S) (line : LineText) (product : ProductLists) (head : Header) (before after : Streams I S) where
  -- a read gives an image that keeps these records
  abbrev pub KeepsRecords : List Record → Type 0
  KeepsRecords records = HoldsOne m (KeepsUnder head.text product.journal_limit records) after.station.object

  -- of the records added all are kept, and the reports of their messages were sent
  pub record IsAllServed (records : List Record) (kept : History) (added : List Record) (count : ℕ) : Type 0 where
    pub sent : after.station.sent ≡ sent_and before.station.sent (lines_from line product (state_kept kept) (messages_in added))
    pub keeps : KeepsRecords (records ++ added)
    pub messages : count ≡ length (messages_in added)

  -- of the records added the first ones are kept and their messages reported; one more may be kept
  pub record IsFrontServed (records : List Record) (kept : History) (added : List Record) (count : ℕ) : Type 0 where
    pub served : List Record
    pub others : List Record
    pub are : added ≡ served ++ others
    pub one : length others ≤ 1
    pub sent : after.station.sent ≡ sent_and before.station.sent (lines_from line product (state_kept kept) (messages_in served))
    pub keeps : KeepsRecords (records ++ served) ⊎ KeepsRecords (records ++ added)
    pub messages : count ≡ length (messages_in served)

  -- of the records added all are kept
  pub record IsAllKept (records added : List Record) (count : ℕ) : Type 0 where
    pub keeps : KeepsRecords (records ++ added)
    pub messages : count ≡ length (messages_in added)

  -- the journal ends at this gate, and the next message has no room
  pub record EndsAtFull (records added : List Record) (behind : List ℕ) : Type 0 where
    pub end : ℕ
    pub end_is : end ≡ length (journal_front head records) + length_of_records added
    pub journal : HoldsOne m (IsJournalTo head product.journal_limit (records ++ added) end) after.station.object
    pub no_room : HasNoRoomAt product.journal_limit end behind

  abbrev pub EndsSession : Ending → ℕ → List Record → History → List Record → List ℕ → Type 0
  EndsSession ending.StoreFault count records kept added behind = IsFrontServed records kept added count
  EndsSession ending.SendFault count records kept added behind = IsAllKept records added count
  EndsSession (ending.NotAJournal at) count records kept added behind = ⊥
  EndsSession (ending.JournalBad at) count records kept added behind = ⊥
  EndsSession (ending.ProductDiffers at) count records kept added behind = ⊥
  EndsSession (ending.Full at) count records kept added behind = IsAllServed records kept added count × EndsAtFull records added behind
  EndsSession _ count records kept added behind = IsAllServed records kept added count

  -- nothing is pending, and the image that a read gives is no longer than this
  pub record IsAtRest (most : ℕ) : Type 0 where
    pub image : List ℕ
    pub read : after.station.image ≡ Some image
    pub settled : IsSettled m after.station.object
    pub short : length image ≤ most

  -- From an image that keeps these records: which records were added, what was sent and is kept, and what a crash leaves.
  pub record SessionFrom (Published : List Event → Type 0) (then : State) (image : List ℕ) (records : List Record) (kept : History) (taken : List ℕ) (ending : Ending) (count : ℕ) : Type 0 where
    pub right : IsRightProduct product
    pub added : List Record
    pub behind : List ℕ
    pub are : taken ≡ bytes_in added ++ behind
    pub reads : AreWithinReads before.input after.input (length added)
    pub bytes : ReadsAtMost (most_read records) (m.bytes_read before.station.object) (m.bytes_read after.station.object)
    pub whole : AreWhole added
    pub part : IsKnownPrefix after.station.sent (sent_and before.station.sent (lines_from line product (state_kept kept) (messages_in added)))
    pub adds : AddsOnly m before.station.object after.station.object (IsRecordCrash line product (state_kept kept) head product.journal_limit records added (length image) before.station.sent)
    pub ends : EndsSession ending count records kept added behind
    pub at_rest : IsDone ending → IsAtRest (max (length image) product.journal_limit)
    pub is_state : IsDone ending → then ≡ state_after product (state_kept kept) (messages_in added)
    pub published : IsDone ending → Published (events_from product (state_kept kept) (messages_in added))

  -- After an image that keeps these records, good or true or not, some were added, and the next message has no room after them, or
  -- cannot be counted.
  pub record IsFullBehind (records : List Record) (taken : List ℕ) (place count : ℕ) : Type 0 where
    pub added : List Record
    pub behind : List ℕ
    pub are : taken ≡ bytes_in added ++ behind
    pub whole : AreWhole added
    pub messages : count ≡ length (messages_in added)
    pub place_is : place ≡ length (bytes_in added)
    pub end : ℕ
    pub end_is : end ≡ length (journal_front head records) + length_of_records added
    pub journal : HoldsOne m (IsJournalTo head product.journal_limit (records ++ added) end) after.station.object
    pub why : HasNoRoomAt product.journal_limit end behind ⊎ IsLastCounted (count_behind_all 0 (from_last_image records) + count) behind

-- the ending is that of a full journal, at this place
abbrev pub IsFullAt : ℕ → Ending → Type 0
IsFullAt place last = last ≡ ending.Full place

module _ {I S : Type 0} (m : StationMeanings S) (line : LineText) (product : ProductLists) (text : List ℕ) (before after : Streams I S) where
  -- the journal was opened, and the input served until an ending
  pub record SessionResult (Published : List Event → Type 0) (then : State) (outcome : Outcome) : Type 0 where
    pub right : IsRightProduct product
    pub ending : Ending
    pub is : outcome ≡ outcome_of ending outcome.messages
    pub cause : CausedBy ending before after
    pub image : IfSome before.station.image (λ image. AnswersImage product text image ending)
    pub serving : ServingResult before after ending outcome.messages
    pub from : (image : List ℕ) (kept : History) → m.is_honest before.station.object → before.station.image ≡ Some image → (startable : IsStartable product text kept image)
        → SessionFrom m line product startable.head before after Published then image startable.records kept serving.taken ending outcome.messages
    pub full : (image : List ℕ) (head : Header) (records : List Record) → m.is_honest before.station.object → before.station.image ≡ Some image → HasLastText head records text
        → Keeps head product.journal_limit records image → (place : ℕ) → IsFullAt place ending
        → IsFullBehind m line product head before after records serving.taken place outcome.messages
