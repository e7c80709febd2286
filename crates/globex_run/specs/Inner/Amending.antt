-- What `amend` does to a station, once its product was taken.
use Rattle.std.specs.Prelude.{◌≡◌, ◌≢◌, ◌⊎◌, ℕ, ◌+◌, ◌<◌, ◌≤◌, max, List, [], ◌∷◌, ◌++◌, length, Some, Result, Ok, Err, IsErrOf}
use Rattle.gx_station.specs.Counts.{Rose}
use Rattle.gx_station.specs.Stations.{StationMeanings}
use Rattle.gx_station.specs.Honest.{KeepsImage}
use Rattle.gx_station.specs.Moments.{AddsOnly}
use Rattle.product_file.specs.Products.{ProductLists, IsRightProduct}
use Rattle.product_file.specs.ProductTexts.{product_of}
use Rattle.match_journal.specs.Journal.{IsJournal, Record, journal_front}
use Rattle.match_journal.specs.Classes.{HasOpenGate, IsBlank, IsForeignAt}
use Rattle.match_journal.specs.Causes.{ReadsOnly, SendsNothing}
use Rattle.match_journal.specs.Steps.{HoldsOne}
use Rattle.match_journal.specs.declared.limits.TheConstants.{MOST_LIMIT}
use Rattle.order_kinds.specs.Histories.{History, amended, length_kept}
use Rattle.book_recovery.specs.Kept.{IsStartable, CanBeRecovered}
use Rattle.globex_run.specs.Amends.{KeepsOtherText, CanFollow, IsBadForAmend, IsSealedOfOther, IsNotAmendable, amendment_record}
use Rattle.globex_run.specs.Inner.OneHeader.{KeepsUnder}
use Rattle.globex_run.specs.declared.outcome.Outcome.{Outcome}
use Rattle.globex_run.specs.declared.open.Unopened.{Unopened}
use Rattle.globex_run.specs.declared.open.Unopened.TheVariants as unopened
use Rattle.globex_run.specs.declared.unamended.Unamended.{Unamended}
use Rattle.globex_run.specs.declared.unamended.Unamended.TheVariants as unamended

-- why a journal was not amended that was not opened
abbrev pub unamended_without : Unopened → Unamended
unamended_without unopened.Store = unamended.Store
unamended_without (unopened.NotAJournal at) = unamended.NotAJournal at
unamended_without (unopened.Bad at) = unamended.Bad at
unamended_without (unopened.ProductDiffers at) = unamended.ProductDiffers at

-- the outcome, by the answer
abbrev pub outcome_amended : Result ℕ Unamended → Outcome
outcome_amended (Ok count) = record { status = 0; at = 0; messages = count }
outcome_amended (Err unamended.NoMemory) = record { status = 1; at = 0; messages = 0 }
outcome_amended (Err unamended.Store) = record { status = 5; at = 0; messages = 0 }
outcome_amended (Err (unamended.NotAJournal place)) = record { status = 9; at = place; messages = 0 }
outcome_amended (Err (unamended.Bad place)) = record { status = 10; at = place; messages = 0 }
outcome_amended (Err (unamended.ProductDiffers place)) = record { status = 11; at = place; messages = 0 }
outcome_amended (Err (unamended.Full place)) = record { status = 12; at = place; messages = 0 }
outcome_amended (Err (unamended.NotAmendable place)) = record { status = 13; at = place; messages = 0 }

-- What is answered over any image. No two of these answers but Store and NoMemory fit one image, but that a journal which can be amended may
-- be full.
abbrev pub AnswersAmend : ProductLists → List ℕ → List ℕ → Result ℕ Unamended → Type 0
AnswersAmend product text image (Ok count) =
    CanBeRecovered product text MOST_LIMIT image
    ⊎ ((can : CanFollow product text image) × CanBeRecovered can.kept.product can.kept.found.placed.bytes MOST_LIMIT image)
AnswersAmend product text image (Err unamended.NoMemory) = KeepsOtherText text image
AnswersAmend product text image (Err unamended.Store) = Unit {0}
AnswersAmend product text image (Err (unamended.NotAJournal at)) = IsForeignAt image at
AnswersAmend product text image (Err (unamended.Bad at)) = IsBadForAmend product text image at
AnswersAmend product text image (Err (unamended.ProductDiffers at)) = IsSealedOfOther product text image at
AnswersAmend product text image (Err (unamended.Full at)) =
    (can : CanFollow product text image) × CanBeRecovered can.kept.product can.kept.found.placed.bytes MOST_LIMIT image
AnswersAmend product text image (Err (unamended.NotAmendable at)) = IsNotAmendable product text image at

-- the image was refused, so that it stays as it is
abbrev pub IsRefusedAmend : {T : Type 0} → Result T Unamended → Type 0
IsRefusedAmend (Ok count) = ⊥
IsRefusedAmend (Err unamended.NoMemory) = Unit {0}
IsRefusedAmend (Err unamended.Store) = ⊥
IsRefusedAmend (Err (unamended.NotAJournal at)) = Unit {0}
IsRefusedAmend (Err (unamended.Bad at)) = Unit {0}
IsRefusedAmend (Err (unamended.ProductDiffers at)) = Unit {0}
IsRefusedAmend (Err (unamended.Full at)) = ⊥
IsRefusedAmend (Err (unamended.NotAmendable at)) = Unit {0}

-- From an image at entry from which a run of its last text can start.
module _ {S : Type 0} (m : StationMeanings S) (product : ProductLists) (text : List ℕ) (old new : S) (image kept_text : List ℕ) (kept_product : ProductLists) (kept : History) (startable : IsStartable kept_product kept_text kept image) where
  abbrev pub record_to_add : Record
  record_to_add = amendment_record text (amended kept product [])

  -- these records are kept under the header's text, in either version; or these and the amendment, if the text is another one and the
  -- product may follow
  abbrev pub KeepsEither : List ℕ → Type 0
  KeepsEither left =
      KeepsUnder startable.head.text kept_product.journal_limit startable.records left
      ⊎ ((CanFollow product text image × (kept_text ≢ text)) × IsJournal startable.head product.journal_limit (startable.records ++ record_to_add ∷ []) left)

  -- what a crash leaves on the way, while nothing is sent
  pub record IsAmendCrash (left out : List ℕ) : Type 0 where
    pub keeps : KeepsEither left
    pub no_longer : length left ≤ max (length image) product.journal_limit
    pub sent : m.sent old ≡ Some out

  -- the text is that of the image, and of a journal nothing was written; or the amendment was added
  abbrev pub EndsAmended : Type 0
  EndsAmended =
      ((kept_text ≡ text) × HoldsOne m (KeepsUnder startable.head.text kept_product.journal_limit startable.records) new × (HasOpenGate image → ReadsOnly m old new))
      ⊎ ((CanFollow product text image × (kept_text ≢ text))
      × HoldsOne m (IsJournal startable.head product.journal_limit (startable.records ++ record_to_add ∷ [])) new)

  -- the records are kept as they were
  abbrev pub HoldsOld : Type 0
  HoldsOld = HoldsOne m (KeepsUnder startable.head.text kept_product.journal_limit startable.records) new

  -- the amendment has no room after the last gate
  pub record HasNoRoomAtEnd (place : ℕ) : Type 0 where
    pub other : kept_text ≢ text
    pub place_is : place ≡ length (journal_front startable.head startable.records)
    pub too_long : product.journal_limit < place + 7 + length record_to_add.payload

  abbrev pub EndsAmend : Result ℕ Unamended → Type 0
  EndsAmend (Ok count) = EndsAmended × (count ≡ length_kept kept)
  EndsAmend (Err unamended.Store) = HoldsOne m KeepsEither new
  EndsAmend (Err (unamended.Full place)) = HasNoRoomAtEnd place × HoldsOld
  EndsAmend (Err why) = HoldsOld

  pub record AmendFrom (answer : Result ℕ Unamended) : Type 0 where
    pub moments : AddsOnly m old new IsAmendCrash
    pub ends : EndsAmend answer

module _ {S : Type 0} (m : StationMeanings S) (product : ProductLists) (text : List ℕ) (old new : S) where
  -- what `amend` did, whatever the image
  pub record AmendsJournal (answer : Result ℕ Unamended) : Type 0 where
    pub silent : SendsNothing m old new
    pub store : IsErrOf answer unamended.Store → Rose (m.store_faults old) (m.store_faults new)
    pub no_store : (IsErrOf answer unamended.Store → ⊥) → m.store_faults new ≡ m.store_faults old
    pub memory : IsErrOf answer unamended.NoMemory → ReadsOnly m old new
    pub answers : (image : List ℕ) → m.holds old ≡ Some image → AnswersAmend product text image answer
    pub stays : (image : List ℕ) → m.holds old ≡ Some image → IsRefusedAmend answer → KeepsImage m old new
    pub from : (image kept_text : List ℕ) (kept_product : ProductLists) (kept : History) → m.is_honest old → m.holds old ≡ Some image
        → product_of kept_text ≡ Ok kept_product → (startable : IsStartable kept_product kept_text kept image) → (IsBlank image → kept_text ≡ text)
        → AmendFrom m product text old new image kept_text kept_product kept startable answer

  -- the same, and its outcome
  pub record AmendResult (outcome : Outcome) : Type 0 where
    pub right : IsRightProduct product
    pub answer : Result ℕ Unamended
    pub is : outcome ≡ outcome_amended answer
    pub did : AmendsJournal answer
