-- Replaying records: their messages are applied, and an image takes the place of the state.
use Rattle.std.specs.Prelude.{◌≡◌, ℕ, ◌+◌, false, List, take, drop, None, Result, Ok, Err}
use Rattle.product_file.specs.Products.{ProductLists}
use Rattle.order_kinds.specs.State.{State, state_numbered}
use Rattle.order_kinds.specs.Cores.{AreNumbered}
use Rattle.book_image.specs.Faults.{image_fault}
use Rattle.book_image.specs.Reading.{state_of_image}
use Rattle.match_journal.specs.Journal.{Record, Header}
use Rattle.match_journal.specs.Appending.{IsJournalTo}
use Rattle.match_journal.specs.declared.entry.Entry.{Entry}
use Rattle.match_journal.specs.declared.entry.EntryKind.{EntryKind}
use Rattle.book_recovery.specs.Records.{is_image, image_in, image_kind, HasTextAs, from_last_image, count_behind, count_behind_all, state_behind, IsGoodRecord, AreGoodRecords}
use Rattle.book_recovery.specs.BadPlaces.{HasBadPayloadAt}
use Rattle.book_recovery.specs.Recovering.{KeptFrom}
use Rattle.book_recovery.specs.declared.recovery.RecoverFault.{RecoverFault}
use Rattle.book_recovery.specs.declared.recovery.RecoverFault.TheVariants as fault

-- the payload of an entry, and its record
abbrev pub payload_at : List ℕ → Entry → List ℕ
payload_at image entry = take entry.length (drop (entry.at + 6) image)

abbrev pub record_at : List ℕ → Entry → Record
record_at image entry = record { kind = entry.kind; payload = payload_at image entry }

-- the image in a payload of this kind is right
pub record HasRightImage (kind : EntryKind) (product : ProductLists) (payload : List ℕ) : Type 0 where
  pub text : HasTextAs kind payload
  pub right : image_fault (image_kind kind) product (image_in kind payload) ≡ None

-- it is, and the state is the one that it is of
pub record IsImageRead (kind : EntryKind) (product : ProductLists) (payload : List ℕ) (new : State) : Type 0 where
  pub has : HasRightImage kind product payload
  pub state : state_numbered new ≡ state_of_image (image_kind kind) product (image_in kind payload)

-- what is answered at an image of this kind, with its payload and gate
abbrev pub ReadsImage : EntryKind → ProductLists → List ℕ → State → ℕ → Result (Unit {0}) RecoverFault → Type 0
ReadsImage kind product payload new gate (Ok t) = IsImageRead kind product payload new
ReadsImage kind product payload new gate (Err fault.Store) = Unit {0}
ReadsImage kind product payload new gate (Err (fault.Bad at)) = (HasRightImage kind product payload → ⊥) × (at ≡ gate)

-- The record is good after so many messages, and the state is the one after it; where it is frames, only if order numbers differed.
pub record IsReplayed (product : ProductLists) (old new : State) (r : Record) : Type 0 where
  pub good : IsGoodRecord product old.desk.messages r
  pub messages : new.desk.messages ≡ count_behind old.desk.messages r
  pub state : (is_image r ≡ false → AreNumbered old) → state_numbered new ≡ state_behind product (state_numbered old) r
  pub numbered : is_image r ≡ false → AreNumbered old → AreNumbered new

-- what is answered at this record, with its gate
abbrev pub ReplaysOne : ProductLists → State → State → ℕ → Record → Result (Unit {0}) RecoverFault → Type 0
ReplaysOne product old new gate r (Ok t) = IsReplayed product old new r
ReplaysOne product old new gate r (Err fault.Store) = Unit {0}
ReplaysOne product old new gate r (Err (fault.Bad at)) = (IsGoodRecord product old.desk.messages r → ⊥) × (at ≡ gate)

-- all records from the last image on are good, and were replayed
pub record AreReplayed (product : ProductLists) (head : Header) (limit : ℕ) (image : List ℕ) (records : List Record) (gate : ℕ) (new : State) : Type 0 where
  pub journal : IsJournalTo head limit records gate image
  pub good : AreGoodRecords product 0 (from_last_image records)
  pub messages : new.desk.messages ≡ count_behind_all 0 (from_last_image records)
  pub kept : KeptFrom head records new

-- what is answered over a journal with these records
abbrev pub ReplaysAll : ProductLists → Header → ℕ → List ℕ → List Record → ℕ → State → Result (Unit {0}) RecoverFault → Type 0
ReplaysAll product head limit image records gate new (Ok t) = AreReplayed product head limit image records gate new
ReplaysAll product head limit image records gate new (Err fault.Store) = Unit {0}
ReplaysAll product head limit image records gate new (Err (fault.Bad at)) = HasBadPayloadAt product head limit image at
