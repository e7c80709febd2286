-- What a journal's image is, and which records it keeps.
--
-- Byte 0 is the first gate. Then comes the header: the eight bytes GXJOURN1 or GXJOURN2, the length of the product text in four
-- bytes, the highest first, and the text; and then a gate. A record is a gate, its kind, the length of its payload in four bytes, and
-- the payload; and then comes the next gate. The kinds are M for frames, C for a book image without the session, D for a book image,
-- and P for an amendment, which a journal of the first version does not have. A gate is open where its byte is 1, and closed
-- otherwise. The records are those after open gates, up to the first closed one. Bytes after that gate mean nothing.
use Rattle.std.specs.Prelude.{◌≡◌, ◌≢◌, ℕ, ◌<◌, ◌≤◌, ◌==◌, if◌then◌else◌, Bool, true, false, List, [], ◌∷◌, ◌++◌, length, get_or}
use Rattle.std.specs.Int.{w32, to_be_bytes}
use Rattle.std.specs.List.{flat_map, AllByRecursion}
use Rattle.match_journal.specs.declared.limits.TheConstants.{MOST_PAYLOAD, MOST_IMAGE}
use Rattle.match_journal.specs.declared.version.Version.{Version}
use Rattle.match_journal.specs.declared.version.Version.TheVariants.{First, Second}
use Rattle.match_journal.specs.declared.entry.EntryKind.{EntryKind}
use Rattle.match_journal.specs.declared.entry.EntryKind.TheVariants.{Frames, OldImage, Image, Amendment}

-- ---- headers

-- what a header says: the version of the journal, and a product text
pub record Header : Type 0 where
  pub version : Version
  pub text : List ℕ

-- a header of this text, in a version
abbrev pub in_version : Version → List ℕ → Header
in_version version text = record { version = version; text = text }

-- GXJOURN1 or GXJOURN2
abbrev pub magic : Version → List ℕ
magic First = 71 ∷ 88 ∷ 74 ∷ 79 ∷ 85 ∷ 82 ∷ 78 ∷ 49 ∷ []
magic Second = 71 ∷ 88 ∷ 74 ∷ 79 ∷ 85 ∷ 82 ∷ 78 ∷ 50 ∷ []

-- what stands between the first gate and the gate of the first record
abbrev pub header : Header → List ℕ
header head = magic head.version ++ (to_be_bytes w32 (length head.text) ++ head.text)

-- the version that an image with a header tells, by its ninth byte
abbrev pub version_of : List ℕ → Version
version_of image = if get_or image 8 0 == 50 then Second else First

-- ---- records

pub record Record : Type 0 where
  pub kind : EntryKind
  pub payload : List ℕ

-- a record of frames
abbrev pub frames_record : List ℕ → Record
frames_record payload = record { kind = Frames; payload = payload }

-- the byte of a kind: M, C, D or P
abbrev pub kind_byte : EntryKind → ℕ
kind_byte Frames = 77
kind_byte OldImage = 67
kind_byte Image = 68
kind_byte Amendment = 80

-- a journal of the version may have records of the kind
abbrev pub has_kind : Version → EntryKind → Bool
has_kind version Frames = true
has_kind version OldImage = true
has_kind version Image = true
has_kind First Amendment = false
has_kind Second Amendment = true

-- a record after its open gate
abbrev pub open_record : Record → List ℕ
open_record r = 1 ∷ kind_byte r.kind ∷ (to_be_bytes w32 (length r.payload) ++ r.payload)

-- how many bytes a payload of a kind has
abbrev pub least_payload : EntryKind → ℕ
least_payload Frames = 1
least_payload OldImage = 0
least_payload Image = 0
least_payload Amendment = 0

abbrev pub most_payload : EntryKind → ℕ
most_payload Frames = MOST_PAYLOAD
most_payload OldImage = MOST_IMAGE
most_payload Image = MOST_IMAGE
most_payload Amendment = MOST_IMAGE

-- a record that a journal of the version may have
pub record IsRecord (version : Version) (r : Record) : Type 0 where
  pub known : has_kind version r.kind ≡ true
  pub some : least_payload r.kind ≤ length r.payload
  pub few : length r.payload ≤ most_payload r.kind

-- ---- journals

-- all up to the first closed gate
abbrev pub journal_front : Header → List Record → List ℕ
journal_front head records = 1 ∷ (header head ++ flat_map open_record records)

-- A journal with this header that keeps these records: its gates are open, and then one is closed. No record has a bad head, and the
-- last one ends within the limit.
pub record IsJournal (head : Header) (limit : ℕ) (records : List Record) (image : List ℕ) : Type 0 where
  pub gate : ℕ
  pub behind : List ℕ
  pub is : image ≡ journal_front head records ++ gate ∷ behind
  pub closed : gate ≢ 1
  pub sized : AllByRecursion (IsRecord head.version) records
  pub in_limit : length (journal_front head records) < limit
