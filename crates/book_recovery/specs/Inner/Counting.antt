-- Going over the heads of all records.
use Rattle.std.specs.Prelude.{◌≡◌, ℕ, ◌+◌, List, length, Some, Result, Ok, Err}
use Rattle.std.specs.Option.{option_or}
use Rattle.match_journal.specs.Journal.{Record, journal_front, Header}
use Rattle.match_journal.specs.Appending.{IsJournalTo}
use Rattle.match_journal.specs.Walking.{Walks}
use Rattle.match_journal.specs.declared.entry.Entry.{Entry}
use Rattle.match_journal.specs.declared.entry.EntryKind.{EntryKind}
use Rattle.match_journal.specs.declared.entry.EntryKind.TheVariants.{Frames, OldImage, Image, Amendment}
use Rattle.book_recovery.specs.Records.{before_last_image, image_gate}
use Rattle.match_journal.specs.BadRecords.{HasBadHeadAt}
use Rattle.book_recovery.specs.declared.recovery.Heads.{Heads}
use Rattle.book_recovery.specs.declared.recovery.RecoverFault.{RecoverFault}
use Rattle.book_recovery.specs.declared.recovery.RecoverFault.TheVariants as fault

-- with one head more, of a kind
abbrev pub with_head_of : Heads → EntryKind → Entry → Heads
with_head_of heads Frames entry = record { entries = heads.entries + 1; image_at = heads.image_at; start = option_or heads.start (Some entry) }
with_head_of heads OldImage entry = record { entries = heads.entries + 1; image_at = Some entry.at; start = Some entry }
with_head_of heads Image entry = record { entries = heads.entries + 1; image_at = Some entry.at; start = Some entry }
with_head_of heads Amendment entry = record { entries = heads.entries + 1; image_at = Some entry.at; start = Some entry }

abbrev pub with_head : Heads → Entry → Heads
with_head heads entry = with_head_of heads entry.kind entry

-- The image is a journal of so many records up to this gate, with the gate of its last book image, and the second pass begins with
-- what a walk answers there, or at the first gate.
pub record AreRecords (head : Header) (limit : ℕ) (image : List ℕ) (gate : ℕ) (heads : Heads) : Type 0 where
  pub records : List Record
  pub journal : IsJournalTo head limit records gate image
  pub count_is : heads.entries ≡ length records
  pub image_is : heads.image_at ≡ image_gate head records
  pub start : Walks image limit (length (journal_front head (before_last_image records))) (Ok heads.start)

-- what is answered over an image whose first gate and header are good
abbrev pub Counts : Header → ℕ → List ℕ → ℕ → Result Heads RecoverFault → Type 0
Counts head limit image gate (Ok heads) = AreRecords head limit image gate heads
Counts head limit image gate (Err fault.Store) = Unit {0}
Counts head limit image gate (Err (fault.Bad at)) = HasBadHeadAt head limit image at
