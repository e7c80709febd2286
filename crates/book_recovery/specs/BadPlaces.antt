-- The place that is answered for a journal with a bad record: the gate of the first record with a bad head; and where no
-- head is bad, that of the first one that is not good of those that are read (our own rule).
use Rattle.std.specs.Prelude.{◌≡◌, ◌⊎◌, ℕ, List, [], ◌∷◌, ◌++◌, length, Ok}
use Rattle.product_file.specs.Products.{ProductLists}
use Rattle.product_file.specs.ProductTexts.{product_of}
use Rattle.match_journal.specs.Journal.{IsJournal, Record, journal_front, Header}
use Rattle.match_journal.specs.BadRecords.{HasBadHeadAt}
use Rattle.book_recovery.specs.Records.{before_last_image, from_last_image, count_behind_all, IsGoodRecord, AreGoodRecords}
use Rattle.book_recovery.specs.Histories.{AreGoodFrom, HaveProducts, HaveNoAmendment}

-- after some good records comes one that is not good
pub record HasBadRecord (product : ProductLists) (records before : List Record) : Type 0 where
  pub bad : Record
  pub behind : List Record
  pub are : records ≡ before ++ bad ∷ behind
  pub good : AreGoodRecords product 0 before
  pub not_good : IsGoodRecord product (count_behind_all 0 before) bad → ⊥

-- No head is bad, and of the records from the last book image on, or of all where there is none, one is not good.
pub record HasBadPayloadAt (product : ProductLists) (head : Header) (limit : ℕ) (image : List ℕ) (at : ℕ) : Type 0 where
  pub records : List Record
  pub heads : IsJournal head limit records image
  pub before : List Record
  pub first : HasBadRecord product (from_last_image records) before
  pub place : at ≡ length (journal_front head (before_last_image records ++ before))

abbrev pub IsBadPlace : ProductLists → Header → ℕ → List ℕ → ℕ → Type 0
IsBadPlace product head limit image at = HasBadHeadAt head limit image at ⊎ HasBadPayloadAt product head limit image at

-- ---- for who takes the products of all texts, and then reads each record under the product of its time

abbrev pub GivesNoProduct : List ℕ → Type 0
GivesNoProduct text = (product : ProductLists) → product_of text ≡ Ok product → ⊥

-- The first amendment with a bad text has its gate at this place, where the header's text gives this product: the text does not end in its
-- payload, or gives no product, or one that may not follow the one before.
pub record HasBadTextBehind (head : Header) (first : ProductLists) (records : List Record) (at : ℕ) : Type 0 where
  pub before : List Record
  pub bad : Record
  pub behind : List Record
  pub are : records ≡ before ++ bad ∷ behind
  pub have : HaveProducts first before
  pub have_no_more : HaveProducts first (before ++ bad ∷ []) → ⊥
  pub place : at ≡ length (journal_front head before)

-- No head is bad, and a text is: that of the header gives no product, and the place is 9; or that of an amendment is bad.
pub record HasBadTextAt (head : Header) (limit : ℕ) (image : List ℕ) (at : ℕ) : Type 0 where
  pub records : List Record
  pub heads : IsJournal head limit records image
  pub bad : (GivesNoProduct head.text × (at ≡ 9)) ⊎ ((first : ProductLists) × (product_of head.text ≡ Ok first) × HasBadTextBehind head first records at)

-- what is bad before any record is read whole
abbrev pub IsBadBeforeRecords : Header → ℕ → List ℕ → ℕ → Type 0
IsBadBeforeRecords head limit image at = HasBadHeadAt head limit image at ⊎ HasBadTextAt head limit image at

-- No head and no text is bad, and a record is not good under the product of its time; the place is the gate of the first.
pub record HasBadRecordAt (head : Header) (limit : ℕ) (image : List ℕ) (at : ℕ) : Type 0 where
  pub records : List Record
  pub heads : IsJournal head limit records image
  pub first : ProductLists
  pub gives : product_of head.text ≡ Ok first
  pub have : HaveProducts first records
  pub before : List Record
  pub bad : Record
  pub behind : List Record
  pub are : records ≡ before ++ bad ∷ behind
  pub good : AreGoodFrom first 0 before
  pub not_good : AreGoodFrom first 0 (before ++ bad ∷ []) → ⊥
  pub place : at ≡ length (journal_front head before)

-- the first bad place: that of a head, else that of a text, else that of a record
abbrev pub IsBadForEachRecord : Header → ℕ → List ℕ → ℕ → Type 0
IsBadForEachRecord head limit image at = IsBadBeforeRecords head limit image at ⊎ HasBadRecordAt head limit image at

-- no head is bad, and a record is an amendment
pub record HasAmendment (head : Header) (limit : ℕ) (image : List ℕ) : Type 0 where
  pub records : List Record
  pub heads : IsJournal head limit records image
  pub amended : HaveNoAmendment records → ⊥
