-- What is wrong with the heads of a journal's records, and with its last text, and at which place.
use Rattle.std.specs.Prelude.{◌≡◌, ◌⊎◌, ℕ, ◌<◌, ◌≤◌, List, ◌++◌, length, Some}
use Rattle.std.specs.List.{AllByRecursion}
use Rattle.match_journal.specs.Journal.{Header, IsJournal, IsRecord, Record, journal_front}
use Rattle.match_journal.specs.Classes.{HasHeader, HasOpenGate}
use Rattle.match_journal.specs.Texts.{PlacedAmendment, HasText, last_amendment}
use Rattle.match_journal.specs.Walking.{IsBadHead}
use Rattle.match_journal.specs.declared.version.Version.TheVariants.{Second}

-- These are the first records of a journal with this header, with good heads, and the gate after them is inside the image.
pub record BeginsWithRecords (head : Header) (limit : ℕ) (records : List Record) (image : List ℕ) : Type 0 where
  pub rest : List ℕ
  pub is : image ≡ journal_front head records ++ rest
  pub gate_inside : 1 ≤ length rest
  pub sized : AllByRecursion (IsRecord head.version) records
  pub in_limit : length (journal_front head records) < limit

-- after some records with good heads comes one with a bad head
pub record HasBadHeadAt (head : Header) (limit : ℕ) (image : List ℕ) (at : ℕ) : Type 0 where
  pub before : List Record
  pub begins : BeginsWithRecords head limit before image
  pub bad : IsBadHead image limit (length (journal_front head before)) at

-- no head is bad, and the text of the last amendment is too long or does not end in its payload; the place is that of its gate
pub record HasBadLastText (head : Header) (limit : ℕ) (image : List ℕ) (at : ℕ) : Type 0 where
  pub records : List Record
  pub heads : IsJournal head limit records image
  pub last : PlacedAmendment
  pub is_last : last_amendment head records ≡ Some last
  pub no_text : HasText last.payload → ⊥
  pub place : at ≡ last.gate

-- what an opening finds bad in a journal of the second version, whose header is good
pub record HasBadRecords (limit : ℕ) (image : List ℕ) (at : ℕ) : Type 0 where
  pub head : Header
  pub opened : HasOpenGate image
  pub header : HasHeader head image
  pub second : head.version ≡ Second
  pub bad : HasBadHeadAt head limit image at ⊎ HasBadLastText head limit image at
