-- Where a journal stands in the image of a station.
use Rattle.std.specs.Prelude.{ℕ, ◌+◌, ◌<◌, ◌≤◌, max, Bool, true, false, List, length}
use Rattle.match_journal.specs.declared.limits.TheConstants.{MOST_LIMIT, MOST_TEXT}
use Rattle.match_journal.specs.declared.entry.EntryKind.{EntryKind}
use Rattle.match_journal.specs.declared.entry.EntryKind.TheVariants.{Frames, OldImage, Image, Amendment}
use Rattle.match_journal.specs.Journal.{least_payload, most_payload}
use Rattle.match_journal.specs.Texts.{text_size}
use Rattle.match_journal.specs.declared.version.Version.{Version}
use Rattle.match_journal.specs.declared.version.Version.TheVariants.{First, Second}
use Rattle.match_journal.specs.declared.entry.Entry.{Entry}
use Rattle.match_journal.specs.declared.standing.Standing.{Standing}

-- the first gate and the last one met are inside the image, and so are the header's text and the last text
pub record IsStanding (s : Standing) : Type 0 where
  pub first : s.first < s.known
  pub front : 13 ≤ s.first
  pub short : s.first ≤ 13 + MOST_TEXT
  pub gate : s.gate < s.known
  pub in_limit : s.limit ≤ MOST_LIMIT
  pub text_short : s.text_len ≤ MOST_TEXT
  pub text_inside : s.text_at + s.text_len < s.known

-- the number of a version
abbrev pub version_number : Version → ℕ
version_number First = 1
version_number Second = 2

-- just opened: the next entry is the first
abbrev pub at_first : Version → ℕ → ℕ → ℕ → ℕ → ℕ → Standing
at_first version first known limit text_at text_len =
    record { version = version; first = first; gate = first; known = known; limit = limit; is_at_end = false; is_lost = false; text_at = text_at; text_len = text_len }

-- at this gate, and at the end or not
abbrev pub moved : Standing → ℕ → Bool → Standing
moved s gate is_at_end = record s { gate = gate; is_at_end = is_at_end }

-- a record was added in front of this gate
abbrev pub grown : Standing → ℕ → Standing
grown s gate = record s { gate = gate; known = max s.known (gate + 1); is_at_end = true }

-- a record of this kind and payload was added: an amendment has the last text
abbrev pub added : Standing → EntryKind → List ℕ → Standing
added s Frames payload = grown s (s.gate + 6 + length payload)
added s OldImage payload = grown s (s.gate + 6 + length payload)
added s Image payload = grown s (s.gate + 6 + length payload)
added s Amendment payload = record (grown s (s.gate + 6 + length payload)) { text_at = s.gate + 10; text_len = text_size payload }

-- an append has failed: the journal is never at its end again
abbrev pub lost : Standing → Standing
lost s = record s { is_at_end = false; is_lost = true }

-- the record of the entry has a payload of a right length, and ends, with its next gate, inside an image of this length and
-- within the limit
pub record Fits (known limit : ℕ) (entry : Entry) : Type 0 where
  pub some : least_payload entry.kind ≤ entry.length
  pub few : entry.length ≤ most_payload entry.kind
  pub inside : entry.at + 7 + entry.length ≤ known
  pub in_limit : entry.at + 7 + entry.length ≤ limit
