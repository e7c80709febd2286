-- What an opening answers, and what a crash on the way leaves.
use Rattle.std.specs.Prelude.{◌≡◌, ◌≢◌, ◌⊎◌, ℕ, ◌+◌, ◌*◌, ◌≤◌, max, List, length, Option, Some, None, Result, Ok, Err}
use Rattle.match_journal.specs.Journal.{Header, Record, IsJournal}
use Rattle.match_journal.specs.Texts.{PlacedText, HasTextIn, header_text, last_amendment, last_text}
use Rattle.match_journal.specs.Classes.{HasHeader, HasOpenGate, IsBlank, IsSealed, IsSealedOf, IsForeignAt, HasBadHeader, KeepsOf, first_difference}
use Rattle.match_journal.specs.BadRecords.{HasBadRecords}
use Rattle.match_journal.specs.Standing.{at_first}
use Rattle.match_journal.specs.declared.standing.Standing.{Standing}
use Rattle.match_journal.specs.declared.version.Version.{Version}
use Rattle.match_journal.specs.declared.version.Version.TheVariants.{First, Second}
use Rattle.match_journal.specs.declared.faults.StartFault.{StartFault}
use Rattle.match_journal.specs.declared.faults.StartFault.TheVariants as fault
use Rattle.match_journal.specs.declared.limits.TheConstants.{MOST_UNFINISHED, MOST_OPENING}

-- ---- which journals are opened, and with which text

-- The text of a journal by its version. In the first version it is the header's, and the heads of the records may be good or not. In the
-- second no head is bad, and it is the last text.
abbrev pub IsTextIn : Version → Header → ℕ → List ℕ → PlacedText → Type 0
IsTextIn First head limit image text = text ≡ header_text head
IsTextIn Second head limit image text = (records : List Record) × IsJournal head limit records image × HasTextIn (last_amendment head records) × (last_text head records ≡ text)

-- an open first gate, this header after it, and this text
pub record IsOpened (head : Header) (limit : ℕ) (text : PlacedText) (image : List ℕ) : Type 0 where
  pub gate : HasOpenGate image
  pub header : HasHeader head image
  pub stands : IsTextIn head.version head limit image text

-- the same with these bytes for a text
pub record IsOpenedOf (text : List ℕ) (limit : ℕ) (image : List ℕ) : Type 0 where
  pub head : Header
  pub placed : PlacedText
  pub opened : IsOpened head limit placed image
  pub is : placed.bytes ≡ text

-- ---- faults

-- a journal, or all of one but its first gate, with another text than this
pub record HasOtherText (product : List ℕ) (limit : ℕ) (image : List ℕ) (at : ℕ) : Type 0 where
  pub head : Header
  pub text : PlacedText
  pub found : IsOpened head limit text image ⊎ (IsSealed head image × (text ≡ header_text head))
  pub other : text.bytes ≢ product
  pub place : at ≡ text.at + first_difference text.bytes product

-- the header is bad; or in a journal of the second version the head of a record, or the last text
abbrev pub IsBadAt : ℕ → List ℕ → ℕ → Type 0
IsBadAt limit image at = HasBadHeader image at ⊎ HasBadRecords limit image at

-- the fault, by the image
abbrev pub IsStartFault : List ℕ → ℕ → List ℕ → StartFault → Type 0
IsStartFault product limit image fault.Store = Unit {0}
IsStartFault product limit image (fault.NotAJournal at) = IsForeignAt image at
IsStartFault product limit image (fault.Bad at) = IsBadAt limit image at
IsStartFault product limit image (fault.ProductDiffers at) = HasOtherText product limit image at

-- the fault, where no text is asked for
abbrev pub IsLookFault : ℕ → List ℕ → StartFault → Type 0
IsLookFault limit image fault.Store = Unit {0}
IsLookFault limit image (fault.NotAJournal at) = IsForeignAt image at
IsLookFault limit image (fault.Bad at) = IsBadAt limit image at
IsLookFault limit image (fault.ProductDiffers at) = ⊥

-- the fault is not one of the store
abbrev pub IsRefusal : StartFault → Type 0
IsRefusal fault.Store = ⊥
IsRefusal (fault.NotAJournal at) = Unit {0}
IsRefusal (fault.Bad at) = Unit {0}
IsRefusal (fault.ProductDiffers at) = Unit {0}

-- ---- answers

-- a journal of this header and text, just opened in an image of this length
abbrev pub opened_at : Header → PlacedText → ℕ → ℕ → Standing
opened_at head text known limit = at_first head.version (13 + length head.text) known limit text.at (length text.bytes)

-- What is answered to one who only looks. No two of these cases hold together (`one_answer`), so each answer comes exactly
-- where its case holds.
abbrev pub Looks : List ℕ → ℕ → List ℕ → Result (Option Standing) StartFault → Type 0
Looks product limit image (Ok None) = IsBlank image ⊎ IsSealedOf product image
Looks product limit image (Ok (Some s)) = (found : IsOpenedOf product limit image) × (s ≡ opened_at found.head found.placed (length image) limit)
Looks product limit image (Err e) = IsStartFault product limit image e

-- The same to one who asks for no text.
abbrev pub LooksAny : ℕ → List ℕ → Result (Option Standing) StartFault → Type 0
LooksAny limit image (Ok None) = IsBlank image ⊎ ((head : Header) × IsSealed head image)
LooksAny limit image (Ok (Some s)) = (head : Header) × (text : PlacedText) × IsOpened head limit text image × (s ≡ opened_at head text (length image) limit)
LooksAny limit image (Err e) = IsLookFault limit image e

-- What is answered to one who opens for writing: a blank image and a sealed one of this product are opened too.
abbrev pub Starts : List ℕ → ℕ → List ℕ → Result Standing StartFault → Type 0
Starts product limit image (Ok s) = (IsBlank image ⊎ IsSealedOf product image) ⊎ IsOpenedOf product limit image
Starts product limit image (Err e) = IsStartFault product limit image e

-- ---- what a journal knows of its image

-- what a journal that stands so knows of an image: its length, its header, and its text
pub record StandsIn (s : Standing) (image : List ℕ) : Type 0 where
  pub known : length image ≡ s.known
  pub head : Header
  pub text : PlacedText
  pub opened : IsOpened head s.limit text image
  pub version : s.version ≡ head.version
  pub first : s.first ≡ 13 + length head.text
  pub text_at : s.text_at ≡ text.at
  pub text_len : s.text_len ≡ length text.bytes

-- ---- crashes, and bytes

-- A crash while a journal is opened leaves an image that keeps the same records of this text, and is no longer than it was, or than
-- an unfinished creation may be. The version may be another one: if the first gate of a sealed image is torn to 0 the image is blank,
-- and becomes a journal of the second version.
pub record IsOpening (text : List ℕ) (limit : ℕ) (records : List Record) (image left : List ℕ) : Type 0 where
  pub keeps : KeepsOf text limit records left
  pub no_longer : length left ≤ max (length image) MOST_UNFINISHED

-- how many bytes an opening reads at most of a journal with these records: those before the records, six for the head at each gate, and
-- the last text
abbrev pub most_to_open : List Record → ℕ
most_to_open records = MOST_OPENING + 6 * (length records + 1)
