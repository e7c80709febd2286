-- The records of a journal, which are messages, book images and amendments: what stands after each, and when they are good. Our own
-- rule. An amendment has a product text and a book image; so it is an image record too.
use Rattle.std.specs.Prelude.{◌≡◌, ℕ, ◌+◌, ◌<◌, Bool, true, false, if◌then◌else◌, List, [], ◌∷◌, ◌++◌, flat_map, length, Option, Some, None, Ok}
use Rattle.std.specs.List.{list_any, AllByRecursion}
use Rattle.std.specs.Int.{w32, to_be_bytes}
use Rattle.fix_frame.specs.Stream.{messages_of, rest_of}
use Rattle.product_file.specs.Products.{ProductLists}
use Rattle.product_file.specs.ProductTexts.{product_of}
use Rattle.order_kinds.specs.declared.core_state.TheConstants.{MOST_MESSAGES}
use Rattle.order_kinds.specs.State.{State}
use Rattle.order_kinds.specs.Step.{state_after}
use Rattle.book_image.specs.Rows.{number_at}
use Rattle.book_image.specs.Faults.{image_fault}
use Rattle.book_image.specs.Reading.{state_of_image}
use Rattle.match_journal.specs.Journal.{Header, Record, journal_front}
use Rattle.match_journal.specs.Texts.{HasText, amended_text, amended_image}
use Rattle.match_journal.specs.declared.entry.EntryKind.{EntryKind}
use Rattle.match_journal.specs.declared.entry.EntryKind.TheVariants.{Frames, OldImage, Image, Amendment}

-- ---- kinds

abbrev pub is_image_kind : EntryKind → Bool
is_image_kind Frames = false
is_image_kind OldImage = true
is_image_kind Image = true
is_image_kind Amendment = true

-- the record has a book image, and no messages
abbrev pub is_image : Record → Bool
is_image r = is_image_kind r.kind

abbrev pub has_image : List Record → Bool
has_image records = list_any is_image records

-- the records from the last image on, and all where there is none
abbrev pub from_last_image : List Record → List Record
from_last_image [] = []
from_last_image (r ∷ records) = if has_image records then from_last_image records else r ∷ records

-- the records before the last image, and none where there is none
abbrev pub before_last_image : List Record → List Record
before_last_image [] = []
before_last_image (r ∷ records) = if has_image records then r ∷ before_last_image records else []

-- the gate of the last image in a journal with this header, if there is one
abbrev pub image_gate : Header → List Record → Option ℕ
image_gate head records = if has_image records then Some (length (journal_front head (before_last_image records))) else None

-- the book image in a payload of a kind, and the kind that this image has
abbrev pub image_in : EntryKind → List ℕ → List ℕ
image_in Frames payload = payload
image_in OldImage payload = payload
image_in Image payload = payload
image_in Amendment payload = amended_image payload

abbrev pub image_kind : EntryKind → EntryKind
image_kind Frames = Frames
image_kind OldImage = OldImage
image_kind Image = Image
image_kind Amendment = Image

-- the payload of an amendment with this text and this image
abbrev pub amendment_of : List ℕ → List ℕ → List ℕ
amendment_of text image = to_be_bytes w32 (length text) ++ (text ++ image)

-- the text of an amendment ends in its payload; other payloads have none
abbrev pub HasTextAs : EntryKind → List ℕ → Type 0
HasTextAs Frames payload = Unit {0}
HasTextAs OldImage payload = Unit {0}
HasTextAs Image payload = Unit {0}
HasTextAs Amendment payload = HasText payload

-- the text of an amendment gives this product
abbrev pub GivesAs : ProductLists → EntryKind → List ℕ → Type 0
GivesAs product Frames payload = Unit {0}
GivesAs product OldImage payload = Unit {0}
GivesAs product Image payload = Unit {0}
GivesAs product Amendment payload = product_of (amended_text payload) ≡ Ok product

-- ---- messages

-- the messages in a payload of a kind: an image has none, nor has an amendment
abbrev pub messages_as : EntryKind → List ℕ → List (List ℕ)
messages_as Frames payload = messages_of payload
messages_as OldImage payload = []
messages_as Image payload = []
messages_as Amendment payload = []

abbrev pub record_messages : Record → List (List ℕ)
record_messages r = messages_as r.kind r.payload

-- the messages in these records, one after the other
abbrev pub messages_in : List Record → List (List ℕ)
messages_in records = flat_map record_messages records

-- the record is frames, one after the other, and nothing else
pub record IsWhole (r : Record) : Type 0 where
  pub frames : r.kind ≡ Frames
  pub no_rest : rest_of r.payload ≡ []

abbrev pub AreWhole : List Record → Type 0
AreWhole records = AllByRecursion IsWhole records

-- ---- the count of messages

-- The count of messages after a payload of a kind, by that before it: frames add theirs, and an image says its own.
abbrev pub count_as : ℕ → EntryKind → List ℕ → ℕ
count_as count Frames payload = count + length (messages_of payload)
count_as count OldImage payload = number_at payload 0
count_as count Image payload = number_at payload 0
count_as count Amendment payload = number_at (amended_image payload) 0

abbrev pub count_behind : ℕ → Record → ℕ
count_behind count r = count_as count r.kind r.payload

-- the count after several records, by that before them
abbrev pub count_behind_all : ℕ → List Record → ℕ
count_behind_all count [] = count
count_behind_all count (r ∷ records) = count_behind_all (count_behind count r) records

-- ---- good records

-- whole frames, and with them fewer messages than a core takes
pub record AreGoodFrames (count : ℕ) (payload : List ℕ) : Type 0 where
  pub no_rest : rest_of payload ≡ []
  pub few : count + length (messages_of payload) < MOST_MESSAGES

-- the text of an amendment gives this product, and nothing is wrong with its image under it
pub record AmendsTo (product : ProductLists) (payload : List ℕ) : Type 0 where
  pub text : HasText payload
  pub gives : product_of (amended_text payload) ≡ Ok product
  pub image : image_fault Image product (amended_image payload) ≡ None

-- A payload of a kind is good after so many messages, under the product that holds after it. Nothing is wrong with an image, wherever it
-- stands.
abbrev pub IsGoodAs : ProductLists → ℕ → EntryKind → List ℕ → Type 0
IsGoodAs product count Frames payload = AreGoodFrames count payload
IsGoodAs product count OldImage payload = image_fault OldImage product payload ≡ None
IsGoodAs product count Image payload = image_fault Image product payload ≡ None
IsGoodAs product count Amendment payload = AmendsTo product payload

abbrev pub IsGoodRecord : ProductLists → ℕ → Record → Type 0
IsGoodRecord product count r = IsGoodAs product count r.kind r.payload

-- Each is good under one product, by the count after those before it: so are the records from the last image on.
abbrev pub AreGoodRecords : ProductLists → ℕ → List Record → Type 0
AreGoodRecords product count [] = Unit {0}
AreGoodRecords product count (r ∷ records) = IsGoodRecord product count r × AreGoodRecords product (count_behind count r) records

-- where the record is frames, nothing stands after them
abbrev pub HasWholeFrames : Record → Type 0
HasWholeFrames r = r.kind ≡ Frames → rest_of r.payload ≡ []

abbrev pub HaveWholeFrames : List Record → Type 0
HaveWholeFrames records = AllByRecursion HasWholeFrames records

-- ---- the state

-- The state after a payload of a kind, by that before it: frames are applied to it, and an image is read in its place.
abbrev pub state_as : ProductLists → State → EntryKind → List ℕ → State
state_as product state Frames payload = state_after product state (messages_of payload)
state_as product state OldImage payload = state_of_image OldImage product payload
state_as product state Image payload = state_of_image Image product payload
state_as product state Amendment payload = state_of_image Image product (amended_image payload)

abbrev pub state_behind : ProductLists → State → Record → State
state_behind product state r = state_as product state r.kind r.payload

-- the state after several records, by that before them
abbrev pub state_behind_all : ProductLists → State → List Record → State
state_behind_all product state [] = state
state_behind_all product state (r ∷ records) = state_behind_all product (state_behind product state r) records
