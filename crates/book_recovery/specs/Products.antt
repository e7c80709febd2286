-- The products of all texts of a journal: taking them, and reading records under them.
use Rattle.std.specs.Prelude.{◌≡◌, ℕ, ◌+◌, List, [], ◌∷◌, ◌++◌, drop, length, Option, Some, None, Result, Ok, Err}
use Rattle.product_file.specs.Products.{ProductLists}
use Rattle.product_file.specs.ProductTexts.{product_of}
use Rattle.order_kinds.specs.Histories.{of_product, last_product}
use Rattle.match_journal.specs.Journal.{Header, IsJournal, Record, journal_front}
use Rattle.match_journal.specs.declared.entry.EntryKind.{EntryKind}
use Rattle.match_journal.specs.declared.entry.EntryKind.TheVariants.{Frames, OldImage, Image, Amendment}
use Rattle.book_recovery.specs.Records.{count_behind_all, record_messages}
use Rattle.book_recovery.specs.Histories.{AreGoodFrom, HaveProducts, history_behind, products_in}
use Rattle.book_recovery.specs.BadPlaces.{HasAmendment, HasBadRecordAt, IsBadBeforeRecords}
use Rattle.book_recovery.specs.declared.products.NoProducts.{NoProducts}
use Rattle.book_recovery.specs.declared.products.NoProducts.TheVariants as none
use Rattle.book_recovery.specs.declared.products.Products.{Products}
use Rattle.book_recovery.specs.declared.records.Passed.{Passed}
use Rattle.book_recovery.specs.declared.recovery.RecoverFault.{RecoverFault}
use Rattle.book_recovery.specs.declared.recovery.RecoverFault.TheVariants as fault

-- all that were taken, in the order of their texts
abbrev pub all_products : Products → List ProductLists
all_products products = products.earlier.items ++ products.last.now ∷ []

-- these are the products of the header's text and of the amendments in these records
pub record AreProducts (head : Header) (records : List Record) (products : List ProductLists) : Type 0 where
  pub first : ProductLists
  pub gives : product_of head.text ≡ Ok first
  pub have : HaveProducts first records
  pub are : products ≡ first ∷ products_in first records have

-- ---- taking them

-- no head is bad, and these are the products of the journal
pub record HasProducts (head : Header) (limit : ℕ) (image : List ℕ) (products : List ProductLists) : Type 0 where
  pub records : List Record
  pub heads : IsJournal head limit records image
  pub all : AreProducts head records products

-- What is answered over an image whose header is good. Memory is wanted only if there is an amendment.
abbrev pub TakesProducts : Header → ℕ → List ℕ → Result Products NoProducts → Type 0
TakesProducts head limit image (Ok products) = HasProducts head limit image (all_products products)
TakesProducts head limit image (Err none.Store) = Unit {0}
TakesProducts head limit image (Err none.NoMemory) = HasAmendment head limit image
TakesProducts head limit image (Err (none.Bad at)) = IsBadBeforeRecords head limit image at

-- ---- reading records under them

-- which of the products holds after a record of a kind, by which held before
abbrev pub product_behind : ℕ → EntryKind → ℕ
product_behind number Frames = number
product_behind number OldImage = number
product_behind number Image = number
product_behind number Amendment = number + 1

-- The first records of a journal are good, so many messages are counted in them, and this product of those taken holds after them.
pub record IsReadTo (head : Header) (limit : ℕ) (image : List ℕ) (products : List ProductLists) (records before : List Record) (passed : Passed) : Type 0 where
  pub heads : IsJournal head limit records image
  pub all : AreProducts head records products
  pub rest : List Record
  pub are : records ≡ before ++ rest
  pub good : AreGoodFrom all.first 0 before
  pub messages : passed.messages ≡ count_behind_all 0 before
  pub now : ProductLists
  pub now_is : now ≡ last_product (history_behind (of_product all.first []) before)
  pub have : HaveProducts now rest
  pub left : drop passed.product products ≡ now ∷ products_in now rest have

module _ (head : Header) (limit : ℕ) (image : List ℕ) (products : List ProductLists) (records before : List Record) (number : ℕ) where
  -- one record more is good; these are its messages, and the next gate is the one after it
  pub record IsOneMore (gate : ℕ) (messages : List (List ℕ)) (passed : Passed) : Type 0 where
    pub found : Record
    pub read : IsReadTo head limit image products records (before ++ found ∷ []) passed
    pub gate_is : gate ≡ length (journal_front head (before ++ found ∷ []))
    pub messages_are : messages ≡ record_messages found
    pub product_is : passed.product ≡ product_behind number found.kind

  -- the record after these is the first bad one
  pub record IsBadBehind (at : ℕ) : Type 0 where
    pub bad : HasBadRecordAt head limit image at
    pub behind : bad.before ≡ before

  -- what is answered at the gate after the first records of a journal, where this product holds
  abbrev pub ReadsRecord : ℕ → List (List ℕ) → Result (Option Passed) RecoverFault → Type 0
  ReadsRecord gate messages (Ok (Some passed)) = IsOneMore gate messages passed
  ReadsRecord gate messages (Ok None) = records ≡ before
  ReadsRecord gate messages (Err fault.Store) = Unit {0}
  ReadsRecord gate messages (Err (fault.Bad at)) = IsBadBehind at
