-- Adding a record to a journal.
use Rattle.std.specs.Prelude.{◌≡◌, ◌⊎◌, ℕ, ◌+◌, ◌≤◌, max, List, [], ◌∷◌, ◌++◌, length}
use Rattle.match_journal.specs.Journal.{Header, IsJournal, Record, journal_front}

-- a journal that keeps these records, and whose first closed gate is at this place
pub record IsJournalTo (head : Header) (limit : ℕ) (records : List Record) (gate : ℕ) (image : List ℕ) : Type 0 where
  pub journal : IsJournal head limit records image
  pub gate_is : gate ≡ length (journal_front head records)

-- What a crash during an append leaves: the records from before, or those and the new one. The image is no longer than it
-- was, or than the end of the new record, which is after the next gate.
pub record IsBeforeOrAfter (head : Header) (limit : ℕ) (records : List Record) (added : Record) (image : List ℕ) (next : ℕ) (left : List ℕ) : Type 0 where
  pub keeps : IsJournal head limit records left ⊎ IsJournal head limit (records ++ added ∷ []) left
  pub no_longer : length left ≤ max (length image) (next + 1)

-- The record was added, after all others. The image is as long as it was, or up to the end of the record.
pub record IsAdded (head : Header) (limit : ℕ) (records : List Record) (added : Record) (image : List ℕ) (next : ℕ) (last : List ℕ) : Type 0 where
  pub journal : IsJournalTo head limit (records ++ added ∷ []) next last
  pub length_is : length last ≡ max (length image) (next + 1)
