-- Going over the records of a journal.
use Rattle.std.specs.Prelude.{◌≡◌, ◌≢◌, ℕ, ◌+◌, List, [], ◌∷◌, ◌++◌, length, take, drop, get_or, not, true, false, Option, Some, None, Result, Ok, Err}
use Rattle.std.specs.Int.{w32, to_be_bytes}
use Rattle.match_journal.specs.Journal.{Header, Record, has_kind, kind_byte, version_of, journal_front}
use Rattle.match_journal.specs.Standing.{Fits, moved}
use Rattle.match_journal.specs.declared.standing.Standing.{Standing}
use Rattle.match_journal.specs.declared.entry.Entry.{Entry}
use Rattle.match_journal.specs.declared.faults.WalkFault.{WalkFault}
use Rattle.match_journal.specs.declared.faults.WalkFault.TheVariants as fault

-- the six bytes of an open gate, a kind and the length of a payload
abbrev pub head_of : Entry → List ℕ
head_of entry = 1 ∷ kind_byte entry.kind ∷ to_be_bytes w32 entry.length

-- at the gate is the head of a record of a kind that a journal of the image's version has, which ends where it may
pub record IsHead (image : List ℕ) (limit gate : ℕ) (entry : Entry) : Type 0 where
  pub at_is : entry.at ≡ gate
  pub known : has_kind (version_of image) entry.kind ≡ true
  pub stands : take 6 (drop gate image) ≡ head_of entry
  pub fits : Fits (length image) limit entry

-- the gate is open, and no good head is there
pub record IsBadHead (image : List ℕ) (limit gate : ℕ) (at : ℕ) : Type 0 where
  pub opened : get_or image gate 0 ≡ 1
  pub no_head : (entry : Entry) → IsHead image limit gate entry → ⊥
  pub at_is : at ≡ gate

-- What is answered at a gate of an image. No two of these cases hold together, so each answer comes exactly where its case
-- holds.
abbrev pub Walks : List ℕ → ℕ → ℕ → Result (Option Entry) WalkFault → Type 0
Walks image limit gate (Ok None) = get_or image gate 0 ≢ 1
Walks image limit gate (Ok (Some entry)) = IsHead image limit gate entry
Walks image limit gate (Err fault.Store) = Unit {0}
Walks image limit gate (Err (fault.Bad at)) = IsBadHead image limit gate at

-- where the journal stands then
abbrev pub stands_then : Standing → Result (Option Entry) WalkFault → Standing
stands_then s (Ok None) = moved s s.gate (not s.is_lost)
stands_then s (Ok (Some entry)) = moved s (s.gate + 6 + entry.length) false
stands_then s (Err e) = s

-- ---- the records in their order

-- the first of the records left is that of the entry, and the next gate is the one after it
pub record IsNext (head : Header) (image : List ℕ) (before after : List Record) (gate : ℕ) (entry : Entry) : Type 0 where
  pub found : Record
  pub more : List Record
  pub is : after ≡ found ∷ more
  pub kind : entry.kind ≡ found.kind
  pub count : entry.length ≡ length found.payload
  pub stands : take (length found.payload) (drop (entry.at + 6) image) ≡ found.payload
  pub at_is : entry.at ≡ length (journal_front head before)
  pub gate_is : gate ≡ length (journal_front head (before ++ found ∷ []))

-- what is answered at the gate after some records, where others are left
abbrev pub InOrder : Header → List ℕ → List Record → List Record → ℕ → Result (Option Entry) WalkFault → Type 0
InOrder head image before after gate (Ok None) = after ≡ []
InOrder head image before after gate (Ok (Some entry)) = IsNext head image before after gate entry
InOrder head image before after gate (Err fault.Store) = Unit {0}
InOrder head image before after gate (Err (fault.Bad at)) = ⊥
