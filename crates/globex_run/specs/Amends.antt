-- The command `amend`: what it finds in an image, when it refuses, what it adds, and what a crash leaves at every moment of it.
use Rattle.std.specs.Prelude.{◌≡◌, ◌≢◌, ◌⊎◌, ℕ, ◌+◌, ◌<◌, ◌≤◌, max, List, [], ◌∷◌, ◌++◌, length, Option, Some, None, Ok, Err}
use Prim.Native.Nat.{zero, suc}
use Rattle.gx_station.specs.Stations.{StationMeanings}
use Rattle.product_file.specs.Products.{ProductLists}
use Rattle.product_file.specs.ProductTexts.{product_of}
use Rattle.product_file.specs.Amendments.{may_follow, amend_fault_number}
use Rattle.product_file.specs.declared.amendments.AmendFault.{AmendFault}
use Rattle.match_journal.specs.Journal.{Header, IsJournal, Record, journal_front}
use Rattle.match_journal.specs.Classes.{HasOpenGate, IsBlank, IsSealed, IsForeignAt, first_difference}
use Rattle.match_journal.specs.Texts.{PlacedAmendment, PlacedText, last_amendment}
use Rattle.match_journal.specs.BadRecords.{HasBadHeadAt}
use Rattle.match_journal.specs.Opening.{IsOpened, IsOpenedOf, IsBadAt}
use Rattle.match_journal.specs.Causes.{ReadsOnly}
use Rattle.match_journal.specs.declared.version.Version.TheVariants.{First, Second}
use Rattle.match_journal.specs.declared.entry.EntryKind.TheVariants.{Amendment}
use Rattle.match_journal.specs.declared.limits.TheConstants.{MOST_LIMIT}
use Rattle.order_kinds.specs.Histories.{History, amended, length_kept, state_kept}
use Rattle.book_image.specs.Image.{image_of}
use Rattle.book_recovery.specs.Records.{amendment_of}
use Rattle.book_recovery.specs.Kept.{IsStartable}
use Rattle.book_recovery.specs.BadPlaces.{GivesNoProduct, IsBadPlace}
use Rattle.globex_run.specs.Outside.{Outside, NoFault}
use Rattle.globex_run.specs.Journals.{end_of_journal}
use Rattle.globex_run.specs.Steps.{Work}
use Rattle.globex_run.specs.declared.outcome.Outcome.{Outcome}

-- ---- what it finds

-- a journal of which no head is bad, with another last text than this one
pub record KeepsOtherText (text image : List ℕ) : Type 0 where
  pub head : Header
  pub placed : PlacedText
  pub opened : IsOpened head MOST_LIMIT placed image
  pub other : placed.bytes ≢ text
  pub records : List Record
  pub heads : IsJournal head MOST_LIMIT records image

-- that text gives this product
pub record KeepsOtherProduct (text image : List ℕ) : Type 0 where
  pub found : KeepsOtherText text image
  pub product : ProductLists
  pub gives : product_of found.placed.bytes ≡ Ok product

-- the journal takes amendments, and the product handed in may follow its product
pub record CanFollow (product : ProductLists) (text image : List ℕ) : Type 0 where
  pub kept : KeepsOtherProduct text image
  pub second : kept.found.head.version ≡ Second
  pub may : may_follow kept.product product ≡ Ok tt

-- ---- when it refuses

-- the place of a last text without a product: 9 if it is the header's, or the gate of its amendment
abbrev pub text_gate : Option PlacedAmendment → ℕ
text_gate None = 9
text_gate (Some last) = last.gate

module _ (product : ProductLists) (text image : List ℕ) where
  -- The journal is bad: at its opening; or of the text handed in, as for `checkpoint`; or of another text, a head is bad, or that text gives
  -- no product, or, where the product may follow, a record is bad, as for `checkpoint` with that text. All heads are held to the greatest
  -- limit.
  abbrev pub IsBadForAmend : ℕ → Type 0
  IsBadForAmend at =
      IsBadAt MOST_LIMIT image at
      ⊎ (((opened : IsOpenedOf text MOST_LIMIT image) × IsBadPlace product opened.head MOST_LIMIT image at)
      ⊎ (((head : Header) × (placed : PlacedText) × IsOpened head MOST_LIMIT placed image × (placed.bytes ≢ text) × HasBadHeadAt head MOST_LIMIT image at)
      ⊎ (((found : KeepsOtherText text image) × GivesNoProduct found.placed.bytes × (at ≡ text_gate (last_amendment found.head found.records)))
      ⊎ ((can : CanFollow product text image) × IsBadPlace can.kept.product can.kept.found.head MOST_LIMIT image at))))

  -- all of a journal of another text but its first gate
  pub record IsSealedOfOther (at : ℕ) : Type 0 where
    pub head : Header
    pub sealed : IsSealed head image
    pub other : head.text ≢ text
    pub place : at ≡ 13 + first_difference head.text text

  -- The text is another one, and the journal is of the first version, which takes no amendment (1), or the product may not follow (the number
  -- of the rule).
  pub record IsNotAmendable (at : ℕ) : Type 0 where
    pub kept : KeepsOtherProduct text image
    pub why : ((kept.found.head.version ≡ First) × (at ≡ 1))
        ⊎ ((kept.found.head.version ≡ Second) × ((fault : AmendFault) × (may_follow kept.product product ≡ Err fault) × (at ≡ amend_fault_number fault)))

  -- the image is refused with this status and at this place
  abbrev pub IsRefusedForAmend : ℕ → ℕ → Type 0
  IsRefusedForAmend status at =
      ((status ≡ 9) × IsForeignAt image at)
      ⊎ (((status ≡ 10) × IsBadForAmend at)
      ⊎ (((status ≡ 11) × IsSealedOfOther at)
      ⊎ ((status ≡ 13) × IsNotAmendable at)))

  -- It was refused only where the image is such, and no message was counted; and where it is such it was refused, unless a call on the store
  -- had failed before.
  pub record RefusesToAmend (outcome : Outcome) : Type 0 where
    pub answered : (outcome.status ≡ 9) ⊎ ((outcome.status ≡ 10) ⊎ ((outcome.status ≡ 11) ⊎ (outcome.status ≡ 13)))
        → IsRefusedForAmend outcome.status outcome.at × (outcome.messages ≡ 0)
    pub refused : (status at : ℕ) → IsRefusedForAmend status at → ((outcome.status ≡ status) × (outcome.at ≡ at)) ⊎ (outcome.status ≡ 5)

-- ---- what it begins with

-- The product handed in, and an image from which a run of its last text can start, which gives another product or the same. The text of a
-- blank image is the one handed in.
pub record AmendStart {P I S : Type 0} (m : StationMeanings S) (before : Outside P I S) : Type 0 where
  pub text : List ℕ
  pub product : ProductLists
  pub text_known : before.product.left ≡ Some text
  pub gives : product_of text ≡ Ok product
  pub honest : m.is_honest before.streams.station.object
  pub image : List ℕ
  pub image_known : before.streams.station.image ≡ Some image
  pub kept_text : List ℕ
  pub kept_product : ProductLists
  pub kept_gives : product_of kept_text ≡ Ok kept_product
  pub kept : History
  pub startable : IsStartable kept_product kept_text kept image
  pub blank : IsBlank image → kept_text ≡ text

-- the same, and the status is not 1, 2 or 3, and not 4 by the product's read
pub record AmendPremises {P I S : Type 0} (m : StationMeanings S) (before after : Outside P I S) (status : ℕ) : Type 0 where
  pub start : AmendStart m before
  pub memory : status ≢ 1
  pub words : status ≢ 2
  pub product_right : status ≢ 3
  pub product_read : status ≡ 4 → NoFault before.product.faults after.product.faults

-- ---- what it adds

-- the record of an amendment that has this text, and the image of the state after this history
abbrev pub amendment_record : List ℕ → History → Record
amendment_record text history = record { kind = Amendment; payload = amendment_of text (image_of (state_kept history)) }

module _ {P I S : Type 0} {m : StationMeanings S} {before : Outside P I S} (start : AmendStart m before) where
  -- the history of entry, and then the product handed in without a message
  abbrev pub history_amended : History
  history_amended = amended start.kept start.product []

  abbrev pub record_added : Record
  record_added = amendment_record start.text history_amended

  -- the image keeps the history of entry, under its text
  abbrev pub KeepsOld : List ℕ → Type 0
  KeepsOld left = IsStartable start.kept_product start.kept_text start.kept left

  -- it keeps that with the product handed in, under the text handed in
  abbrev pub KeepsNew : List ℕ → Type 0
  KeepsNew left = IsStartable start.product start.text history_amended left

  -- one step at most, of which nothing is sent
  abbrev pub KeepsStep : ℕ → List ℕ → Type 0
  KeepsStep zero left = KeepsOld left
  KeepsStep (suc n) left = KeepsNew left

  abbrev pub amend_work : Work
  amend_work = record { steps = 1; Keeps = KeepsStep; sends = λ n. []; longest = max (length start.image) start.product.journal_limit }

module _ {P I S : Type 0} (m : StationMeanings S) (before after : Outside P I S) (outcome : Outcome) (given : AmendPremises m before after outcome.status) where
  -- The text was that of the journal: a read gives an image that keeps the same, and of a journal nothing was written.
  pub record IsSame : Type 0 where
    pub same : given.start.kept_text ≡ given.start.text
    pub image : List ℕ
    pub image_known : after.streams.station.image ≡ Some image
    pub keeps : KeepsOld given.start image
    pub unwritten : HasOpenGate given.start.image → ReadsOnly m before.streams.station.object after.streams.station.object

  -- It was another one: one record was added, and a read gives an image that keeps the history with the product handed in.
  pub record IsAdded : Type 0 where
    pub other : given.start.kept_text ≢ given.start.text
    pub image : List ℕ
    pub image_known : after.streams.station.image ≡ Some image
    pub keeps : KeepsNew given.start image
    pub journal : IsJournal given.start.startable.head given.start.product.journal_limit (given.start.startable.records ++ record_added given.start ∷ []) image

  -- Status 0: the history ends with the product handed in, and its messages were counted.
  pub record Amends : Type 0 where
    pub did : IsSame ⊎ IsAdded
    pub count : outcome.messages ≡ length_kept given.start.kept

  -- Any other ending: a read gives an image that keeps the history of entry, or at 5 perhaps with the product handed in.
  pub record AmendsNot : Type 0 where
    pub image : List ℕ
    pub image_known : after.streams.station.image ≡ Some image
    pub keeps : KeepsOld given.start image ⊎ ((outcome.status ≡ 5) × KeepsNew given.start image)

  -- Status 12: the record would end past the limit of the product handed in; the place is that of the last gate.
  pub record HasNoRoomForAmendment : Type 0 where
    pub other : given.start.kept_text ≢ given.start.text
    pub place : outcome.at ≡ length (journal_front given.start.startable.head given.start.startable.records)
    pub too_long : given.start.product.journal_limit
        < end_of_journal given.start.startable.head given.start.startable.records + (6 + length (record_added given.start).payload)

-- ---- when it can be done

-- The text is that of the image; or the image is a journal of the second version, the product may follow, and there is room for the record.
pub record CanBeAmended {P I S : Type 0} (m : StationMeanings S) (before : Outside P I S) : Type 0 where
  pub start : AmendStart m before
  pub journal : start.kept_text ≢ start.text → HasOpenGate start.image × (start.startable.head.version ≡ Second)
  pub may : start.kept_text ≢ start.text → may_follow start.kept_product start.product ≡ Ok tt
  pub room : start.kept_text ≢ start.text
      → end_of_journal start.startable.head start.startable.records + (6 + length (record_added start).payload) ≤ start.product.journal_limit
