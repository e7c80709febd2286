-- What is found in an image before it is opened, step by step.
use Rattle.std.specs.Prelude.{◌≡◌, ◌≢◌, ◌⊎◌, ℕ, ◌+◌, ◌<◌, ◌≤◌, max, List, [], ◌∷◌, ◌++◌, length, take, drop, get_or, Bool, true, false, Option, Some, None, Result, Ok, Err}
use Rattle.std.specs.Int.{w32, to_be_bytes}
use Rattle.match_journal.specs.Journal.{Header, Record, IsJournal, magic}
use Rattle.match_journal.specs.Texts.{PlacedText, PlacedAmendment, HasText, amended_text, header_text, last_amendment}
use Rattle.match_journal.specs.Classes.{HasOpenGate, IsForeignAt, HasBadHeader, IsSealed, first_difference, magic_difference}
use Rattle.match_journal.specs.BadRecords.{HasBadHeadAt, HasBadLastText}
use Rattle.match_journal.specs.Opening.{IsOpened, IsTextIn, IsStartFault, IsLookFault}
use Rattle.match_journal.specs.declared.limits.TheConstants.{MOST_TEXT, MOST_UNFINISHED}
use Rattle.match_journal.specs.declared.version.Version.{Version}
use Rattle.match_journal.specs.declared.version.Version.TheVariants.{Second}
use Rattle.match_journal.specs.declared.class.Class.{Class}
use Rattle.match_journal.specs.declared.class.Class.TheVariants as class
use Rattle.match_journal.specs.declared.entry.Entry.{Entry}
use Rattle.match_journal.specs.declared.text.TextPlace.{TextPlace}
use Rattle.match_journal.specs.declared.look.Found.{Found}
use Rattle.match_journal.specs.Standing.{at_first}
use Rattle.match_journal.specs.declared.standing.Standing.{Standing}
use Rattle.match_journal.specs.declared.faults.StartFault.{StartFault}
use Rattle.match_journal.specs.declared.faults.StartFault.TheVariants as fault

-- ---- the first bytes

-- the version whose magic stands at the front of a text, or the place of the first byte that fits none
abbrev pub MagicAnswers : List ℕ → Result Version ℕ → Type 0
MagicAnswers text (Ok version) = take 8 text ≡ magic version
MagicAnswers text (Err at) = (at < 8) × (at ≡ magic_difference text)

-- the length of a text that has room, in four bytes
pub record IsSize (head : List ℕ) (len size : ℕ) : Type 0 where
  pub few : size ≤ MOST_TEXT
  pub inside : 14 + size ≤ len
  pub stands : take 4 (drop 9 head) ≡ to_be_bytes w32 size

abbrev pub SizeAnswers : List ℕ → ℕ → Option ℕ → Type 0
SizeAnswers head len None = (size : ℕ) → IsSize head len size → ⊥
SizeAnswers head len (Some size) = IsSize head len size

-- the magic of a version, the length of a text, and room for such a text and a gate
pub record HasSize (version : Version) (size : ℕ) (image : List ℕ) : Type 0 where
  pub few : size ≤ MOST_TEXT
  pub stands : take 12 (drop 1 image) ≡ magic version ++ to_be_bytes w32 size
  pub inside : 13 + size < length image

abbrev pub IsFront : List ℕ → Class → Type 0
IsFront image class.Empty = length image ≤ 1
IsFront image class.Blank = (get_or image 0 0 ≡ 0) × (length image ≤ MOST_UNFINISHED)
IsFront image (class.Sealed version size) = (get_or image 0 0 ≢ 0) × (get_or image 0 0 ≢ 1) × HasSize version size image
IsFront image (class.Open version size) = HasOpenGate image × HasSize version size image

-- how many bytes an image of a class has at least
abbrev pub least_length : Class → ℕ
least_length class.Empty = 0
least_length class.Blank = 1
least_length (class.Sealed version size) = 14 + size
least_length (class.Open version size) = 14 + size

-- the version that an image of a class has, or this one where it has none yet
abbrev pub version_or : Class → Version → Version
version_or class.Empty new = new
version_or class.Blank new = new
version_or (class.Sealed version size) new = version
version_or (class.Open version size) new = version

-- no head is looked at yet, so nothing but the header can be bad
abbrev pub IsFrontFault : List ℕ → StartFault → Type 0
IsFrontFault image fault.Store = Unit {0}
IsFrontFault image (fault.NotAJournal at) = IsForeignAt image at
IsFrontFault image (fault.Bad at) = HasBadHeader image at
IsFrontFault image (fault.ProductDiffers at) = ⊥

abbrev pub FrontAnswers : List ℕ → Result Class StartFault → Type 0
FrontAnswers image (Ok c) = IsFront image c
FrontAnswers image (Err e) = IsFrontFault image e

-- ---- and the gate after the text

abbrev pub has_closed_end : List ℕ → Class → Type 0
has_closed_end image class.Empty = Unit {0}
has_closed_end image class.Blank = Unit {0}
has_closed_end image (class.Sealed version size) = get_or image (13 + size) 0 ≡ 0
has_closed_end image (class.Open version size) = Unit {0}

abbrev pub EndAnswers : List ℕ → Class → Result (Unit {0}) StartFault → Type 0
EndAnswers image c (Ok t) = has_closed_end image c
EndAnswers image c (Err e) = IsFrontFault image e

-- ---- and the last amendment, where a journal of the second version has one

-- an entry is that of an amendment
abbrev pub IsEntryOf : List ℕ → Option Entry → Option PlacedAmendment → Type 0
IsEntryOf image None None = Unit {0}
IsEntryOf image None (Some last) = ⊥
IsEntryOf image (Some entry) None = ⊥
IsEntryOf image (Some entry) (Some last) = (entry.at ≡ last.gate) × (entry.length ≡ length last.payload) × (take entry.length (drop (entry.at + 6) image) ≡ last.payload)

-- no head is bad, and the entry is that of the last amendment
pub record HasLastEntry (head : Header) (limit : ℕ) (image : List ℕ) (found : Option Entry) : Type 0 where
  pub records : List Record
  pub heads : IsJournal head limit records image
  pub last : IsEntryOf image found (last_amendment head records)

abbrev pub HeadsAnswers : Header → ℕ → List ℕ → Result (Option Entry) StartFault → Type 0
HeadsAnswers head limit image (Ok found) = HasLastEntry head limit image found
HeadsAnswers head limit image (Err fault.Store) = Unit {0}
HeadsAnswers head limit image (Err (fault.NotAJournal at)) = ⊥
HeadsAnswers head limit image (Err (fault.Bad at)) = HasBadHeadAt head limit image at
HeadsAnswers head limit image (Err (fault.ProductDiffers at)) = ⊥

-- ---- and the text

-- so a text stands in an image
pub record IsPlaceOf (image : List ℕ) (place : TextPlace) (text : PlacedText) : Type 0 where
  pub at : place.at ≡ text.at
  pub len : place.len ≡ length text.bytes
  pub stands : take place.len (drop place.at image) ≡ text.bytes

-- the text of an amendment with this payload is whole, and stands there
pub record IsAmendedPlace (image : List ℕ) (gate : ℕ) (payload : List ℕ) (place : TextPlace) : Type 0 where
  pub whole : HasText payload
  pub stands : IsPlaceOf image place (record { at = gate + 10; bytes = amended_text payload })

abbrev pub AmendedAnswers : List ℕ → ℕ → List ℕ → Result TextPlace StartFault → Type 0
AmendedAnswers image gate payload (Ok place) = IsAmendedPlace image gate payload place
AmendedAnswers image gate payload (Err fault.Store) = Unit {0}
AmendedAnswers image gate payload (Err (fault.NotAJournal at)) = ⊥
AmendedAnswers image gate payload (Err (fault.Bad at)) = (HasText payload → ⊥) × (at ≡ gate)
AmendedAnswers image gate payload (Err (fault.ProductDiffers at)) = ⊥

-- the last text of a journal of the second version stands there
pub record IsLastPlace (head : Header) (limit : ℕ) (image : List ℕ) (place : TextPlace) : Type 0 where
  pub text : PlacedText
  pub is : IsTextIn Second head limit image text
  pub stands : IsPlaceOf image place text

abbrev pub LastTextAnswers : Header → ℕ → List ℕ → Result TextPlace StartFault → Type 0
LastTextAnswers head limit image (Ok place) = IsLastPlace head limit image place
LastTextAnswers head limit image (Err fault.Store) = Unit {0}
LastTextAnswers head limit image (Err (fault.NotAJournal at)) = ⊥
LastTextAnswers head limit image (Err (fault.Bad at)) = HasBadHeadAt head limit image at ⊎ HasBadLastText head limit image at
LastTextAnswers head limit image (Err (fault.ProductDiffers at)) = ⊥

abbrev pub TextAnswers : List ℕ → List ℕ → Option ℕ → Type 0
TextAnswers text product None = text ≡ product
TextAnswers text product (Some at) = (text ≢ product) × (at ≡ first_difference text product)

abbrev pub SameAnswers : List ℕ → ℕ → List ℕ → Result (Unit {0}) StartFault → Type 0
SameAnswers text text_at product (Ok t) = text ≡ product
SameAnswers text text_at product (Err fault.Store) = Unit {0}
SameAnswers text text_at product (Err (fault.NotAJournal at)) = ⊥
SameAnswers text text_at product (Err (fault.Bad at)) = ⊥
SameAnswers text text_at product (Err (fault.ProductDiffers at)) = (text ≢ product) × (at ≡ text_at + first_difference text product)

-- ---- what was found

-- sealed, by a header of this version with a text of so many bytes, which stands there
pub record IsSealedAs (version : Version) (size : ℕ) (place : TextPlace) (image : List ℕ) : Type 0 where
  pub head : Header
  pub sealed : IsSealed head image
  pub version_is : head.version ≡ version
  pub size_is : length head.text ≡ size
  pub stands : IsPlaceOf image place (header_text head)

-- a journal by such a header, whose text stands there
pub record IsOpenedAs (limit : ℕ) (version : Version) (size : ℕ) (place : TextPlace) (image : List ℕ) : Type 0 where
  pub head : Header
  pub text : PlacedText
  pub opened : IsOpened head limit text image
  pub version_is : head.version ≡ version
  pub size_is : length head.text ≡ size
  pub stands : IsPlaceOf image place text

abbrev pub IsOfClass : ℕ → List ℕ → Class → TextPlace → Type 0
IsOfClass limit image class.Empty place = length image ≤ 1
IsOfClass limit image class.Blank place = (get_or image 0 0 ≡ 0) × (length image ≤ MOST_UNFINISHED)
IsOfClass limit image (class.Sealed version size) place = IsSealedAs version size place image
IsOfClass limit image (class.Open version size) place = IsOpenedAs limit version size place image

-- where the text of an image of this class stands, or why it is refused
abbrev pub PlaceAnswers : ℕ → List ℕ → Class → Result TextPlace StartFault → Type 0
PlaceAnswers limit image c (Ok place) = IsOfClass limit image c place
PlaceAnswers limit image c (Err e) = IsLookFault limit image e

pub record IsFound (limit : ℕ) (image : List ℕ) (found : Found) : Type 0 where
  pub class : IsOfClass limit image found.class found.text
  pub len : length image ≡ found.len

abbrev pub FoundAnswers : ℕ → List ℕ → Result Found StartFault → Type 0
FoundAnswers limit image (Ok found) = IsFound limit image found
FoundAnswers limit image (Err e) = IsLookFault limit image e

-- its header and its text are inside an image of this length
abbrev pub IsInside : Class → TextPlace → ℕ → Type 0
IsInside class.Empty place len = Unit {0}
IsInside class.Blank place len = 1 ≤ len
IsInside (class.Sealed version size) place len = (14 + size ≤ len) × (size ≤ MOST_TEXT) × (place.at ≡ 13) × (place.len ≡ size)
IsInside (class.Open version size) place len = (14 + size ≤ len) × (size ≤ MOST_TEXT) × (place.at + place.len < len) × (place.len ≤ MOST_TEXT)

-- the text there is this one, where there is a text
abbrev pub HasTextOf : List ℕ → List ℕ → Class → TextPlace → Type 0
HasTextOf product image class.Empty place = Unit {0}
HasTextOf product image class.Blank place = Unit {0}
HasTextOf product image (class.Sealed version size) place = take place.len (drop place.at image) ≡ product
HasTextOf product image (class.Open version size) place = take place.len (drop place.at image) ≡ product

-- it has so many bytes
abbrev pub HasSizeOf : ℕ → Class → TextPlace → Type 0
HasSizeOf count class.Empty place = Unit {0}
HasSizeOf count class.Blank place = Unit {0}
HasSizeOf count (class.Sealed version size) place = place.len ≡ count
HasSizeOf count (class.Open version size) place = place.len ≡ count

abbrev pub HoldAnswers : List ℕ → ℕ → List ℕ → Found → Result (Unit {0}) StartFault → Type 0
HoldAnswers product limit image found (Ok t) = HasTextOf product image found.class found.text
HoldAnswers product limit image found (Err e) = IsStartFault product limit image e

-- it was found, and its text is that of the product
pub record IsHeld (product : List ℕ) (limit : ℕ) (image : List ℕ) (found : Found) : Type 0 where
  pub is_found : IsFound limit image found
  pub has_text : HasTextOf product image found.class found.text

-- the journal that was found, at its first gate
abbrev pub IsJournalOf : Class → TextPlace → ℕ → ℕ → Option Standing → Type 0
IsJournalOf class.Empty place len limit found = found ≡ None
IsJournalOf class.Blank place len limit found = found ≡ None
IsJournalOf (class.Sealed version size) place len limit found = found ≡ None
IsJournalOf (class.Open version size) place len limit found = found ≡ Some (at_first version (13 + size) len limit place.at place.len)

abbrev pub JournalAnswers : Found → ℕ → Option Standing → Type 0
JournalAnswers found limit journal = IsJournalOf found.class found.text found.len limit journal

-- the journal once it is finished, with a product text of so many bytes
abbrev pub journal_as : Class → TextPlace → ℕ → Version → ℕ → ℕ → Standing
journal_as class.Empty place len version count limit = at_first version (13 + count) (max len (14 + count)) limit 13 count
journal_as class.Blank place len version count limit = at_first version (13 + count) (max len (14 + count)) limit 13 count
journal_as (class.Sealed own size) place len version count limit = at_first version (13 + count) (max len (14 + count)) limit 13 count
journal_as (class.Open own size) place len version count limit = at_first own (13 + size) len limit place.at place.len

abbrev pub journal_then : Found → Version → ℕ → ℕ → Standing
journal_then found version count limit = journal_as found.class found.text found.len version count limit

abbrev pub is_open : Class → Bool
is_open class.Empty = false
is_open class.Blank = false
is_open (class.Sealed version size) = false
is_open (class.Open version size) = true

abbrev pub is_sealed : Class → Bool
is_sealed class.Empty = false
is_sealed class.Blank = false
is_sealed (class.Sealed version size) = true
is_sealed (class.Open version size) = false

-- ---- a creation

-- the first gate is closed, and what stands after it means nothing yet
pub record IsClosed (image : List ℕ) : Type 0 where
  pub rest : List ℕ
  pub is : image ≡ 0 ∷ rest
  pub few : length image ≤ MOST_UNFINISHED

-- a journal that keeps nothing was made, in an image of this length
pub record IsMade (head : Header) (limit known : ℕ) (image : List ℕ) : Type 0 where
  pub journal : IsJournal head limit [] image
  pub length_is : length image ≡ known
