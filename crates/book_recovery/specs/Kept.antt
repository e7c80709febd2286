-- Which history an image keeps: its messages, and under which products (our own rule).
use Rattle.std.specs.Prelude.{◌≡◌, ◌⊎◌, ℕ, ◌≤◌, List, [], length, Ok}
use Rattle.product_file.specs.Products.{ProductLists}
use Rattle.product_file.specs.ProductTexts.{product_of}
use Rattle.order_kinds.specs.Histories.{History, of_product}
use Rattle.match_journal.specs.Classes.{Keeps, IsBlank, IsSealedOf}
use Rattle.match_journal.specs.Journal.{Header, IsJournal, Record}
use Rattle.match_journal.specs.Texts.{HasLastText}
use Rattle.match_journal.specs.declared.limits.TheConstants.{MOST_TEXT}
use Rattle.book_recovery.specs.Records.{from_last_image, AreGoodRecords}
use Rattle.book_recovery.specs.Histories.{AreGoodFrom, AreTrueFrom, HaveProducts, history_behind}

-- A command can go on from the image, within a limit, and this is the history that it keeps: the product of the header's text, the messages
-- in the records after open gates, up to the first closed gate, and the products of the amendments between them. It is a journal whose last
-- text is this one, with no bad record, and each book image in it is that of the state there; or an unfinished creation of at most
-- 65,550 bytes, which keeps no message.
pub record IsStartableWithin (limit : ℕ) (text : List ℕ) (kept : History) (image : List ℕ) : Type 0 where
  pub head : Header
  pub records : List Record
  pub keeps : Keeps head limit records image
  pub last : HasLastText head records text
  pub first : ProductLists
  pub gives : product_of head.text ≡ Ok first
  pub good : AreGoodFrom first 0 records
  pub are_true : AreTrueFrom (of_product first []) records
  pub are : kept ≡ history_behind (of_product first []) records

-- a run of the product can start from the image: within the product's limit
abbrev pub IsStartable : ProductLists → List ℕ → History → List ℕ → Type 0
IsStartable product text kept image = IsStartableWithin product.journal_limit text kept image

-- a journal whose last text is this one, with no bad record
pub record IsGoodJournal (text : List ℕ) (limit : ℕ) (image : List ℕ) : Type 0 where
  pub head : Header
  pub records : List Record
  pub journal : IsJournal head limit records image
  pub last : HasLastText head records text
  pub first : ProductLists
  pub gives : product_of head.text ≡ Ok first
  pub good : AreGoodFrom first 0 records

-- the history of its records
abbrev pub history_of_journal : {text : List ℕ} {limit : ℕ} {image : List ℕ} → IsGoodJournal text limit image → History
history_of_journal good = history_behind (of_product good.first []) good.records

-- This is the history that the image keeps, whether a run can start from it or not: that of a journal with no bad record, and of no
-- message if it is an unfinished creation, however long.
abbrev pub HasKept : ProductLists → List ℕ → History → List ℕ → Type 0
HasKept product text kept image =
    ((IsBlank image ⊎ IsSealedOf text image) × (kept ≡ of_product product []))
    ⊎ ((good : IsGoodJournal text product.journal_limit image) × (kept ≡ history_of_journal good))

-- a journal whose last text is this one, with no bad head, and each of whose texts gives a product that may follow the one before
pub record HasGoodTexts (text : List ℕ) (limit : ℕ) (image : List ℕ) : Type 0 where
  pub head : Header
  pub records : List Record
  pub journal : IsJournal head limit records image
  pub last : HasLastText head records text
  pub first : ProductLists
  pub gives : product_of head.text ≡ Ok first
  pub have : HaveProducts first records

-- ---- for who begins with the last book image

-- a journal whose header is good, whose last text is this one, with no bad head, and none of its records from the last book image on is bad
pub record IsGoodFromLastImage (product : ProductLists) (text : List ℕ) (limit : ℕ) (image : List ℕ) : Type 0 where
  pub head : Header
  pub few : length head.text ≤ MOST_TEXT
  pub records : List Record
  pub journal : IsJournal head limit records image
  pub last : HasLastText head records text
  pub good : AreGoodRecords product 0 (from_last_image records)

-- a state can be recovered from the image: it is such a journal, or an unfinished creation
abbrev pub CanBeRecovered : ProductLists → List ℕ → ℕ → List ℕ → Type 0
CanBeRecovered product text limit image = (IsBlank image ⊎ IsSealedOf text image) ⊎ IsGoodFromLastImage product text limit image

-- This is the history that the image keeps, and each book image in it is that of the state there.
abbrev pub IsTrueImage : ProductLists → List ℕ → History → List ℕ → Type 0
IsTrueImage product text kept image =
    ((IsBlank image ⊎ IsSealedOf text image) × (kept ≡ of_product product []))
    ⊎ ((good : IsGoodJournal text product.journal_limit image) × (kept ≡ history_of_journal good) × AreTrueFrom (of_product good.first []) good.records)
