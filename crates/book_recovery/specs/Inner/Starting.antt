-- Where the second pass begins.
use Rattle.std.specs.Prelude.{◌≡◌, ℕ, ◌+◌, ◌<◌, ◌≤◌, Option, Some, None}
use Rattle.match_journal.specs.Standing.{Fits}
use Rattle.match_journal.specs.declared.entry.Entry.{Entry}
use Rattle.match_journal.specs.declared.standing.Standing.{Standing}
use Rattle.book_recovery.specs.Recovering.{first_read}
use Rattle.book_recovery.specs.declared.recovery.Heads.{Heads}

-- the record of the entry ends in the journal, at the last gate or before it, and that gate is within the limit
pub record IsMet (s : Standing) (entry : Entry) : Type 0 where
  pub fits : Fits s.known s.limit entry
  pub ends : entry.at + 6 + entry.length ≤ s.gate
  pub in_limit : s.gate < s.limit

-- It begins at an entry that was met. Without one no gate but the first was.
abbrev pub CanBegin : Standing → Option Entry → Type 0
CanBegin s None = s.gate ≡ s.first
CanBegin s (Some entry) = IsMet s entry

-- the gate at which it begins
abbrev pub begins_from : Standing → Option Entry → ℕ
begins_from s None = s.gate
begins_from s (Some entry) = entry.at

-- The gate is that of the last book image, or the first one.
abbrev pub IsAtImage : Standing → Option ℕ → Option Entry → Type 0
IsAtImage s image_at None = image_at ≡ None
IsAtImage s image_at (Some entry) = entry.at ≡ first_read image_at s.first

pub record BeginsAt (s : Standing) (heads : Heads) : Type 0 where
  pub can : CanBegin s heads.start
  pub at_image : IsAtImage s heads.image_at heads.start
