-- What the private functions of `amend` promise each other.
use Rattle.std.specs.Prelude.{◌≡◌, ◌≢◌, ◌⊎◌, ℕ, ◌+◌, ◌<◌, ◌≤◌, true, false, List, length, Some, Result, Ok, Err}
use Rattle.gx_station.specs.Stations.{StationMeanings}
use Rattle.product_file.specs.Products.{ProductLists}
use Rattle.product_file.specs.Amendments.{may_follow, amend_fault_number}
use Rattle.product_file.specs.declared.amendments.AmendFault.{AmendFault}
use Rattle.product_file.specs.declared.faults.ProductFault.{ProductFault}
use Rattle.product_file.specs.declared.faults.ProductFault.TheVariants.{NoMemory}
use Rattle.match_journal.specs.Journal.{Header, IsJournal, Record, has_kind}
use Rattle.match_journal.specs.Texts.{PlacedText, last_amendment}
use Rattle.match_journal.specs.Standing.{IsStanding}
use Rattle.match_journal.specs.Opening.{IsOpened, StandsIn}
use Rattle.match_journal.specs.Appending.{IsJournalTo, IsBeforeOrAfter, IsAdded}
use Rattle.match_journal.specs.Steps.{Steps}
use Rattle.match_journal.specs.declared.standing.Standing.{Standing}
use Rattle.match_journal.specs.declared.limits.TheConstants.{MOST_LIMIT}
use Rattle.match_journal.specs.declared.version.Version.TheVariants.{First, Second}
use Rattle.match_journal.specs.declared.faults.StartFault.{StartFault}
use Rattle.match_journal.specs.declared.faults.StartFault.TheVariants as start
use Rattle.match_journal.specs.declared.faults.AppendFault.{AppendFault}
use Rattle.match_journal.specs.declared.faults.AppendFault.TheVariants as append
use Rattle.globex_run.specs.Amends.{text_gate}
use Rattle.globex_run.specs.declared.open.Unopened.{Unopened}
use Rattle.globex_run.specs.declared.open.Unopened.TheVariants as unopened
use Rattle.globex_run.specs.declared.unamended.Unamended.{Unamended}
use Rattle.globex_run.specs.declared.unamended.Unamended.TheVariants as unamended

-- why a journal was not opened
abbrev pub unopened_by : StartFault → Unopened
unopened_by start.Store = unopened.Store
unopened_by (start.NotAJournal at) = unopened.NotAJournal at
unopened_by (start.Bad at) = unopened.Bad at
unopened_by (start.ProductDiffers at) = unopened.ProductDiffers at

-- whether a journal of a version goes over from a product to another one
abbrev pub MayAmend : ℕ → ProductLists → ProductLists → Result (Unit {0}) ℕ → Type 0
MayAmend version before after (Ok t) = (version ≢ 1) × (may_follow before after ≡ Ok tt)
MayAmend version before after (Err at) =
    ((version ≡ 1) × (at ≡ 1)) ⊎ ((version ≢ 1) × ((fault : AmendFault) × (may_follow before after ≡ Err fault) × (at ≡ amend_fault_number fault)))

-- why a journal was not amended whose text gives no product: the place is that of the text
abbrev pub TellsNoProduct : Standing → ProductFault → Unamended → Type 0
TellsNoProduct journal fault unamended.NoMemory = Unit {0}
TellsNoProduct journal fault (unamended.Bad at) =
    (fault ≢ NoMemory) × ((image : List ℕ) (head : Header) (records : List Record) → StandsIn journal image → IsJournal head journal.limit records image → at ≡ text_gate (last_amendment head records))
TellsNoProduct journal fault why = ⊥

-- no head is bad
abbrev pub HasGoodHeads : List ℕ → Type 0
HasGoodHeads image = (head : Header) (placed : PlacedText) → IsOpened head MOST_LIMIT placed image → (records : List Record) × IsJournal head MOST_LIMIT records image

-- a journal of the second version whose last text is this one, with no bad head
pub record IsSecondOf (text image : List ℕ) : Type 0 where
  pub head : Header
  pub placed : PlacedText
  pub opened : IsOpened head MOST_LIMIT placed image
  pub is : placed.bytes ≡ text
  pub second : head.version ≡ Second
  pub records : List Record
  pub heads : IsJournal head MOST_LIMIT records image

module _ {S : Type 0} (m : StationMeanings S) where
  -- the journal stands in the image that a read gives
  pub record IsLookedAt (s : S) (journal : Standing) : Type 0 where
    pub standing : IsStanding journal
    pub limit : journal.limit ≡ MOST_LIMIT
    pub not_lost : journal.is_lost ≡ false
    pub reach : journal.known ≤ m.reach s
    pub stands : (image : List ℕ) → m.holds s ≡ Some image → StandsIn journal image

  -- and this is its last text
  pub record IsLooked (s : S) (journal : Standing) (text : List ℕ) : Type 0 where
    pub at : IsLookedAt s journal
    pub is : (image : List ℕ) → m.holds s ≡ Some image → (stands : StandsIn journal image) → stands.text.bytes ≡ text

  module _ (old new : S) (journal : Standing) (limit count : ℕ) (added : Record) where
    -- the record ends within a limit
    abbrev pub EndsWithin : Type 0
    EndsWithin = journal.gate + 7 + length added.payload ≤ limit

    -- it was appended to a journal that was opened, or a call on the store has failed
    abbrev pub IsAppended : Result (Unit {0}) AppendFault → Type 0
    IsAppended result =
        (head : Header) (image : List ℕ) (records : List Record) → has_kind head.version added.kind ≡ true → IsJournalTo head journal.limit records journal.gate image
        → let next = journal.gate + 6 + length added.payload in
        Steps m old new image (IsBeforeOrAfter head journal.limit records added image next) (IsAdded head journal.limit records added image next) result

    -- what is answered to one who adds a record within a limit to a journal that keeps so many messages
    abbrev pub AddsRecord : Result ℕ Unamended → Type 0
    AddsRecord (Ok messages) = (messages ≡ count) × EndsWithin × IsAppended (Ok tt)
    AddsRecord (Err unamended.Store) = EndsWithin × IsAppended (Err append.Store)
    AddsRecord (Err (unamended.Full place)) = (new ≡ old) × (place ≡ journal.gate) × (limit < place + 7 + length added.payload)
    AddsRecord (Err (unamended.NotAmendable at)) = (new ≡ old) × (journal.version ≡ First)
    AddsRecord (Err why) = ⊥
