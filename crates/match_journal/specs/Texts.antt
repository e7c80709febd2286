-- The product texts of a journal: the header's, and one in each amendment. The last one is the text of the journal's product.
use Rattle.std.specs.Prelude.{◌≡◌, ℕ, ◌+◌, ◌≤◌, List, [], ◌∷◌, length, take, drop, Option, Some, None}
use Rattle.std.specs.Int.{w32, from_be_bytes}
use Rattle.match_journal.specs.Journal.{Header, Record}
use Rattle.match_journal.specs.declared.limits.TheConstants.{MOST_TEXT}
use Rattle.match_journal.specs.declared.entry.EntryKind.{EntryKind}
use Rattle.match_journal.specs.declared.entry.EntryKind.TheVariants.{Frames, OldImage, Image, Amendment}

-- ---- the payload of an amendment: the length of a text in four bytes, the highest first, the text, and a book image

abbrev pub text_size : List ℕ → ℕ
text_size payload = from_be_bytes w32 (take 4 payload)

abbrev pub amended_text : List ℕ → List ℕ
amended_text payload = take (text_size payload) (drop 4 payload)

abbrev pub amended_image : List ℕ → List ℕ
amended_image payload = drop (4 + text_size payload) payload

-- the text is no longer than a product text may be, and ends in the payload
pub record HasText (payload : List ℕ) : Type 0 where
  pub few : text_size payload ≤ MOST_TEXT
  pub inside : 4 + text_size payload ≤ length payload

-- ---- the last amendment

-- an amendment, by the place of its gate
pub record PlacedAmendment : Type 0 where
  pub gate : ℕ
  pub payload : List ℕ

-- the last amendment after a record of a kind at a gate, by that before it
abbrev pub amendment_as : Option PlacedAmendment → ℕ → EntryKind → List ℕ → Option PlacedAmendment
amendment_as last gate Frames payload = last
amendment_as last gate OldImage payload = last
amendment_as last gate Image payload = last
amendment_as last gate Amendment payload = Some (record { gate = gate; payload = payload })

-- the last amendment after several records from a gate on, by that before them
abbrev pub amendment_behind : Option PlacedAmendment → ℕ → List Record → Option PlacedAmendment
amendment_behind last gate [] = last
amendment_behind last gate (r ∷ records) = amendment_behind (amendment_as last gate r.kind r.payload) (gate + (6 + length r.payload)) records

-- the last amendment of a journal with this header
abbrev pub last_amendment : Header → List Record → Option PlacedAmendment
last_amendment head records = amendment_behind None (13 + length head.text) records

-- ---- the last text

-- a text, by the place of its first byte
pub record PlacedText : Type 0 where
  pub at : ℕ
  pub bytes : List ℕ

abbrev pub header_text : Header → PlacedText
header_text head = record { at = 13; bytes = head.text }

-- the text of the last amendment, or where there is none, the header's
abbrev pub text_by : Header → Option PlacedAmendment → PlacedText
text_by head None = header_text head
text_by head (Some last) = record { at = last.gate + 10; bytes = amended_text last.payload }

abbrev pub last_text : Header → List Record → PlacedText
last_text head records = text_by head (last_amendment head records)

abbrev pub HasTextIn : Option PlacedAmendment → Type 0
HasTextIn None = Unit {0}
HasTextIn (Some last) = HasText last.payload

-- The last text of a journal with this header and these records is this one, and where it is that of an amendment, ends in its payload.
pub record HasLastText (head : Header) (records : List Record) (text : List ℕ) : Type 0 where
  pub is : (last_text head records).bytes ≡ text
  pub inside : HasTextIn (last_amendment head records)
