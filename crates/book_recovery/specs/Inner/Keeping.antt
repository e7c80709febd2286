-- Keeping the products of texts, one after the other.
use Rattle.std.specs.Prelude.{◌≡◌, ℕ, List, [], ◌∷◌, ◌++◌, length, Result, Ok, Err}
use Rattle.product_file.specs.Products.{ProductLists}
use Rattle.product_file.specs.ProductTexts.{product_of}
use Rattle.product_file.specs.Amendments.{may_follow}
use Rattle.match_journal.specs.Journal.{Header, Record, journal_front}
use Rattle.match_journal.specs.Texts.{HasText, amended_text}
use Rattle.match_journal.specs.declared.entry.EntryKind.TheVariants.{Amendment}
use Rattle.book_recovery.specs.Histories.{HaveNoAmendment}
use Rattle.book_recovery.specs.BadPlaces.{HasAmendment, HasBadTextAt, IsBadBeforeRecords}
use Rattle.book_recovery.specs.Products.{AreProducts, HasProducts}
use Rattle.book_recovery.specs.declared.products.NoProducts.{NoProducts}
use Rattle.book_recovery.specs.declared.products.NoProducts.TheVariants as none

-- the last of a product and later ones
abbrev pub last_of : ProductLists → List ProductLists → ProductLists
last_of first [] = first
last_of first (next ∷ later) = last_of next later

-- the product may follow the last of these; the first of all may be any
abbrev pub FollowsLast : List ProductLists → ProductLists → Type 0
FollowsLast [] product = Unit {0}
FollowsLast (first ∷ later) product = may_follow (last_of first later) product ≡ Ok tt

-- the text gives a product that may follow the last one, and it stands after that now
pub record IsKept (text : List ℕ) (old new : List ProductLists) : Type 0 where
  pub product : ProductLists
  pub gives : product_of text ≡ Ok product
  pub follows : FollowsLast old product
  pub is : new ≡ old ++ product ∷ []

-- it gives none, or one that may not follow
abbrev pub CannotBeKept : List ℕ → List ProductLists → Type 0
CannotBeKept text old = (product : ProductLists) → product_of text ≡ Ok product → FollowsLast old product → ⊥

-- what is answered to one who keeps the product of a text, which begins at this place
abbrev pub KeepsProduct : List ℕ → ℕ → List ProductLists → List ProductLists → Result (Unit {0}) NoProducts → Type 0
KeepsProduct text place old new (Ok t) = IsKept text old new
KeepsProduct text place old new (Err none.Store) = Unit {0}
KeepsProduct text place old new (Err none.NoMemory) = Unit {0}
KeepsProduct text place old new (Err (none.Bad at)) = (at ≡ place) × CannotBeKept text old

-- what is answered to one who keeps the product of an amendment with this payload and gate
abbrev pub KeepsAmended : List ℕ → ℕ → List ProductLists → List ProductLists → Result (Unit {0}) NoProducts → Type 0
KeepsAmended payload gate old new (Ok t) = HasText payload × IsKept (amended_text payload) old new
KeepsAmended payload gate old new (Err none.Store) = Unit {0}
KeepsAmended payload gate old new (Err none.NoMemory) = Unit {0}
KeepsAmended payload gate old new (Err (none.Bad at)) = (at ≡ gate) × (HasText payload → CannotBeKept (amended_text payload) old)

-- the last amendment of these records, which has this gate, and the records around it
pub record IsSplit (head : Header) (records : List Record) (gate : ℕ) : Type 0 where
  pub front : List Record
  pub last : Record
  pub more : List Record
  pub are : records ≡ front ++ last ∷ more
  pub amends : last.kind ≡ Amendment
  pub none : HaveNoAmendment more
  pub gate_is : gate ≡ length (journal_front head front)

-- what is answered to one who keeps the products of all amendments but the last
abbrev pub KeepsAll : Header → ℕ → List ℕ → List Record → List ProductLists → Result (Unit {0}) NoProducts → Type 0
KeepsAll head limit image front new (Ok t) = AreProducts head front new
KeepsAll head limit image front new (Err none.Store) = Unit {0}
KeepsAll head limit image front new (Err none.NoMemory) = Unit {0}
KeepsAll head limit image front new (Err (none.Bad at)) = HasBadTextAt head limit image at

-- what is answered to one who takes all products but the last, by all of them
abbrev pub TakesEarlier : Header → ℕ → List ℕ → List ProductLists → Result (Unit {0}) NoProducts → Type 0
TakesEarlier head limit image products (Ok t) = HasProducts head limit image products
TakesEarlier head limit image products (Err none.Store) = Unit {0}
TakesEarlier head limit image products (Err none.NoMemory) = HasAmendment head limit image
TakesEarlier head limit image products (Err (none.Bad at)) = IsBadBeforeRecords head limit image at
